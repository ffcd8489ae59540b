-- Vectors that are read from registers, one element after another and one port after another.
use Rattle.std.proofs.Common.{
  ◌≡◌,
  ℕ,
  ◌+◌,
  ◌-◌,
  ◌<◌,
  ◌≤◌,
  List,
  [],
  ◌∷◌,
  ◌++◌,
  map,
  take,
  drop,
  length,
  get_or,
  sum,
  refl,
  sym,
  ap,
  arith,
  ◌∙◌,
  ℤ,
  pos,
  add-zero,
  drop-drop,
  take-append-drop,
  append_assoc,
  length-append,
  length-drop,
}
use Rattle.std.specs.Prelude.{slice_set}
use Rattle.std.specs.List.{range_with_len}
use Rattle.std.proofs.lemmas.List.{set-set, set-append_right, drop_more, get_or-set_same, length-map, get_or-drop, take_more, take_more_set, take-set-le, drop-set-lt, drop-set-add}
use Rattle.std.proofs.lemmas.List.FromFn.{length-map-range_with_len, map-range_with_len_more}
use Rattle.std.proofs.lemmas.List.Sums.{sum_by-append, sum_by-cons}
use Rattle.std.proofs.Math.ListN.{get_or-map}
use Rattle.std.proofs.Math.Seq.{map-set_same}
use Rattle.syn_base.specs.Rows.{with_value}
use Rattle.executive_program.specs.Level.{element_at, all_joined}
use Rattle.operation_desks.specs.Operation.{vector_in, vectors_from, ReadsPorts}
use Rattle.syn_base.specs.Vectors.{Vector, Values, vector_at}

-- the first j elements of a vector that is read from `at` on, and the rest of what was there
abbrev pub half_read : List ℤ → ℕ → Vector → ℕ → Vector
half_read row at old j = map (λ (i : ℕ). element_at row (at + i)) (range_with_len 0 j) ++ drop j old

module _ (row : List ℤ) (at : ℕ) (old : Vector) where
  pub length_half : (j : ℕ) → j ≤ length old → length (half_read row at old j) ≡ length old
  length_half j h = let a = length-append (map (λ (i : ℕ). element_at row (at + i)) (range_with_len 0 j)) (drop j old) in let b = length-drop j old in
      let c = length-map-range_with_len (λ (i : ℕ). element_at row (at + i)) 0 j in omega arith

  half_more : (j : ℕ) (v : ℤ) → j < length old → v ≡ element_at row (at + j) → slice_set (half_read row at old j) j v ≡ half_read row at old (j + 1)
  half_more j v h e = set-append_right (read j) (drop j old) j j v (length-map-range_with_len (λ (i : ℕ). element_at row (at + i)) 0 j) (omega arith)
      ∙ ap (λ (n : ℕ). read j ++ slice_set (drop j old) n v) zero_is ∙ ap (λ (l : List ℤ). read j ++ slice_set l 0 v) (drop_more old j (pos 0) h)
      ∙ sym (append_assoc (read j) (v ∷ []) (drop (j + 1) old)) ∙ ap (λ (x : ℤ). (read j ++ x ∷ []) ++ drop (j + 1) old) e
      ∙ ap (λ (l : List ℤ). l ++ drop (j + 1) old) (sym (map-range_with_len_more (λ (i : ℕ). element_at row (at + i)) 0 j j (omega arith)))
    where
      read : ℕ → List ℤ
      read n = map (λ (i : ℕ). element_at row (at + i)) (range_with_len 0 n)

      zero_is : j - j ≡ 0
      zero_is = omega arith

-- one more element of the vector of a port
module _ (row : List ℤ) (at port : ℕ) (old : Values) where
  abbrev V : Vector
  V = vector_at old port

  pub place_there : (ins : Values) (j : ℕ) → port < length old → ins ≡ slice_set old port (half_read row at V j) → j < length V → j < length (vector_at ins port)
  place_there ins j p e h = let a = ap (λ (x : Values). vector_at x port) e in let b = get_or-set_same old port (half_read row at V j) [] p in let c = length_half row at V j (omega arith) in
      let d = ap (λ (x : Vector). length x) (a ∙ b) in omega arith

  pub element_more : (ins new : Values) (j : ℕ) (v : ℤ) → port < length old → ins ≡ slice_set old port (half_read row at V j) → j
      < length V → v ≡ element_at row (at + j) → new ≡ with_value ins port j v
      → new ≡ slice_set old port (half_read row at V (j + 1))
  element_more ins new j v p e h f n = n ∙ ap (λ (x : Values). with_value x port j v) e
      ∙ ap (λ (x : Vector). slice_set (slice_set old port (half_read row at V j)) port (slice_set x j v)) (get_or-set_same old port (half_read row at V j) [] p)
      ∙ set-set old port (half_read row at V j) (slice_set (half_read row at V j) j v) ∙ ap (slice_set old port) (half_more row at V j v h f)

pub whole_read : (row : List ℤ) (at : ℕ) (old : Vector) → half_read row at old (length old) ≡ vector_in row at (length old)
whole_read row at old = ap (λ (l : List ℤ). map (λ (i : ℕ). element_at row (at + i)) (range_with_len 0 (length old)) ++ l) (drop_all old) ∙ append_nil _
  where
    drop_all : (l : List ℤ) → drop (length l) l ≡ []
    drop_all [] = refl
    drop_all (x ∷ xs) = drop_all xs

    append_nil : (l : List ℤ) → l ++ [] ≡ l
    append_nil [] = refl
    append_nil (x ∷ xs) = ap (λ (r : List ℤ). x ∷ r) (append_nil xs)

pub length-vector_in : (row : List ℤ) (at n : ℕ) → length (vector_in row at n) ≡ n
length-vector_in row at n = length-map-range_with_len (λ (i : ℕ). element_at row (at + i)) 0 n

-- vectors that are read one after the other
pub vectors-append : (row : List ℤ) (at : ℕ) (xs ys : List ℕ) → vectors_from row at (xs ++ ys) ≡ vectors_from row at xs ++ vectors_from row (at + sum xs) ys
vectors-append row at [] ys = ap (λ (n : ℕ). vectors_from row n ys) (sym (add-zero at))
vectors-append row at (n ∷ xs) ys =
    ap (λ (l : Values). vector_in row at n ∷ l)
    (vectors-append row (at + n) xs ys
    ∙ ap (λ (m : ℕ). vectors_from row (at + n) xs ++ vectors_from row m ys) (let e = sum_by-cons (λ x. x) n xs in omega arith))

abbrev pub lens : Values → List ℕ
lens vs = map (λ (v : Vector). length v) vs

-- one more port
module _ (row : List ℤ) (at first : ℕ) (old ins new : Values) (i next len : ℕ) (there : first + i < length old)
    (r : ReadsPorts row at first i old ins) (e : next ≡ at + sum (take i (drop first (lens old))))
    (is : new ≡ slice_set ins (first + i) (vector_in row next (length (vector_at ins (first + i))))) (l : len ≡ length (vector_at new (first + i))) where
  n : ℕ
  n = length (vector_at ins (first + i))

  w : Vector
  w = vector_in row next (length (vector_at ins (first + i)))

  ports : length ins ≡ length old
  ports = sym (length-map ins (λ (v : Vector). length v)) ∙ ap (λ (x : List ℕ). length x) r.lens ∙ length-map old (λ (v : Vector). length v)

  inside : first + i < length ins
  inside = let a = ports in omega arith

  len_is : length (vector_at ins (first + i)) ≡ get_or (drop first (lens old)) i 0
  len_is = sym (get_or-map (λ (v : Vector). length v) ins (first + i) []) ∙ ap (λ (x : List ℕ). get_or x (first + i) 0) r.lens ∙ sym (get_or-drop first (lens old) i 0)

  in_lens : i < length (drop first (lens old))
  in_lens = let a = length-drop first (lens old) in let b = length-map old (λ (v : Vector). length v) in omega arith

  in_ins : i < length (drop first ins)
  in_ins = let a = length-drop first ins in let b = inside in omega arith

  lens_more : take (i + 1) (drop first (lens old)) ≡ take i (drop first (lens old)) ++ get_or (drop first (lens old)) i 0 ∷ []
  lens_more = take_more (drop first (lens old)) i 0 in_lens

  same_lens : map (λ (v : Vector). length v) new ≡ map (λ (v : Vector). length v) old
  same_lens = ap lens is ∙ map-set_same (λ (v : Vector). length v) ins (first + i)
      (vector_in row next (length (vector_at ins (first + i)))) [] (length-vector_in row next (length (vector_at ins (first + i)))) ∙ r.lens

  read_more : take (i + 1) (drop first new) ≡ vectors_from row at (take (i + 1) (drop first (lens old)))
  read_more = ap (λ (x : Values). take (i + 1) (drop first x)) is
      ∙ ap (take (i + 1)) (drop-set-add first ins i (vector_in row next (length (vector_at ins (first + i)))))
      ∙ take_more_set (drop first ins) i (vector_in row next (length (vector_at ins (first + i)))) in_ins
      ∙ (λ k. r.read k ++ vector_in row (e k) (len_is k) ∷ [])
      ∙ sym (vectors-append row at (take i (drop first (lens old))) (get_or (drop first (lens old)) i 0 ∷ []))
      ∙ ap (vectors_from row at) (sym lens_more)

  after_more : drop (first + (i + 1)) new ≡ drop (first + (i + 1)) old
  after_more = ap (λ (x : ℕ). drop x new) next_is ∙ ap (drop (first + i + 1)) is ∙ drop-set-lt (first + i + 1) ins (first + i) _ (omega arith)
      ∙ sym (drop-drop 1 (first + i) ins) ∙ ap (drop 1) r.after ∙ drop-drop 1 (first + i) old ∙ ap (λ (x : ℕ). drop x old) (sym next_is)
    where
      next_is : first + (i + 1) ≡ first + i + 1
      next_is = omega arith

  pub reads_more : ReadsPorts row at first (i + 1) old new
  reads_more = record {
    read = read_more;
    before = ap (take first) is ∙ take-set-le first ins (first + i) _ (omega arith) ∙ r.before;
    after = after_more;
    lens = same_lens;
  }

  pub next_more : next + len ≡ at + sum (take (i + 1) (drop first (lens old)))
  next_more = let a = ap sum lens_more in let b = sum_by-append (λ (x : ℕ). x) (take i (drop first (lens old))) (get_or (drop first (lens old)) i 0 ∷ []) in
      let d = ap (λ (x : Values). length (vector_at x (first + i))) is in let f = ap (λ (v : Vector). length v) (get_or-set_same ins (first + i) w' [] inside) in
      let g = length-vector_in row next (length (vector_at ins (first + i))) in let h = len_is in let q = e in let z = l in
      let y = sum_by-cons (λ (x : ℕ). x) (get_or (drop first (lens old)) i 0) [] in omega arith
    where
      w' : Vector
      w' = vector_in row next (length (vector_at ins (first + i)))

pub reads_none : (row : List ℤ) (at first : ℕ) (ins : Values) → ReadsPorts row at first 0 ins ins
reads_none row at first ins = record { read = take-zero (drop first ins) ∙ sym (ap (vectors_from row at) (take-zero (drop first (lens ins)))); before = refl; after = refl; lens = refl }
  where
    take-zero : {A : Type 0} (xs : List A) → take 0 xs ≡ []
    take-zero [] = refl
    take-zero (x ∷ xs) = refl

-- vectors one after the other
pub joined-append : (xs ys : Values) → all_joined (xs ++ ys) ≡ all_joined xs ++ all_joined ys
joined-append [] ys = refl
joined-append (x ∷ xs) ys = ap (λ (l : List ℤ). x ++ l) (joined-append xs ys) ∙ sym (append_assoc x (all_joined xs) (all_joined ys))

append-nil : {A : Type 0} (l : List A) → l ++ [] ≡ l
append-nil [] = refl
append-nil (x ∷ xs) = ap (λ (r : List _). x ∷ r) (append-nil xs)

pub joined_more : (vs : Values) (k : ℕ) → k < length vs → all_joined (take (k + 1) vs) ≡ all_joined (take k vs) ++ vector_at vs k
joined_more vs k h = ap all_joined (take_more vs k [] h) ∙ joined-append (take k vs) (vector_at vs k ∷ []) ∙ ap (λ (l : List ℤ). all_joined (take k vs) ++ l) (append-nil (vector_at vs k))

pub length-joined : (vs : Values) → length (all_joined vs) ≡ sum (map (λ (v : Vector). length v) vs)
length-joined [] = refl
length-joined (x ∷ xs) = let a = length-append x (all_joined xs) in let b = length-joined xs in let c = sum_by-cons (λ (n : ℕ). n) (length x) (map (λ (v : Vector). length v) xs) in omega arith

pub joined_fits : (vs : Values) (k : ℕ) → k < length vs → length (all_joined (take k vs)) + length (vector_at vs k) ≤ sum (map (λ (v : Vector). length v) vs)
joined_fits vs k h = let a = ap (λ (l : List ℤ). length l) (joined_more vs k h) in let b = length-append (all_joined (take k vs)) (vector_at vs k) in
    let c = ap (λ (l : List ℤ). length l) (sym (joined-append (take (k + 1) vs) (drop (k + 1) vs)) ∙ ap all_joined (take-append-drop (k + 1) vs)) in
    let d = length-append (all_joined (take (k + 1) vs)) (all_joined (drop (k + 1) vs)) in let e = length-joined vs in omega arith
