-- Vectors one after the other: the elements of each, and reading them back.
use Rattle.std.proofs.Common.{◌≡◌, ℕ, zero, suc, ◌+◌, ◌<◌, List, [], ◌∷◌, ◌++◌, length, map, take, Some, refl, sym, ap, arith, ◌∙◌, ℤ, pos, length-append, append_assoc}
use Rattle.std.specs.Prelude.{slice_get, slice_index_or}
use Rattle.std.proofs.lemmas.Option.{same_Some}
use Rattle.std.proofs.lemmas.List.{same_lists, get_or_append_left, get_or-append-add, get_or_default, length-map}
use Rattle.std.proofs.lemmas.List.FromFn.{length-map-range_with_len, get_or-map-range_with_len}
use native.Mathlib.Nat.{zero-add}
use Rattle.executive_program.specs.Owners.{sum_below}
use Rattle.executive_program.specs.Level.{element_at, all_joined}
use Rattle.executive_program.specs.declared.program.Program.{Program}
use Rattle.executive_program.specs.Instructions.{len_of, len_by}
use Rattle.executive_program.specs.Steps.{len_at, elements_in}
use Rattle.semaphore_core.specs.Operation.{vector_in, vectors_from}
use Rattle.phase_laws.proofs.Blocks.{get-append_past, get-append_within}
use Rattle.syn_base.specs.Vectors.{Vector, Values, vector_at}

pub sum_cons : (f : ℕ → ℕ) (n : ℕ) → sum_below f (suc n) ≡ f 0 + sum_below (λ i. f (suc i)) n
sum_cons f zero = omega arith
sum_cons f (suc n) = let e = sum_cons f n in omega arith

-- the length of entry i
abbrev pub len_in : Values → ℕ → ℕ
len_in vs i = length (vector_at vs i)

pub joined_at : (vs : Values) (k j : ℕ) → j < length (vector_at vs k) → slice_get (all_joined vs) (sum_below (len_in vs) k + j) ≡ slice_get (vector_at vs k) j
joined_at [] k j h = absurd (omega arith)
joined_at (x ∷ xs) zero j h = rw zero-add (get-append_within x (all_joined xs) j h)
joined_at (x ∷ xs) (suc k) j h = let f = sum_cons (len_in (x ∷ xs)) k in
    let q : sum_below (len_in (x ∷ xs)) (suc k) + j ≡ length x + (sum_below (len_in xs) k + j) = omega arith in
    ap (λ (y : ℕ). slice_get (x ++ all_joined xs) y) q ∙ get-append_past x (all_joined xs) (sum_below (len_in xs) k + j) ∙ joined_at xs k j h

pub joined_length : (vs : Values) → length (all_joined vs) ≡ sum_below (len_in vs) (length vs)
joined_length [] = refl
joined_length (x ∷ xs) = let e = joined_length xs in let f = sum_cons (len_in (x ∷ xs)) (length xs) in let a = length-append x (all_joined xs) in omega arith

-- a vector that lies after others is read back
vector_back : (front v rest : Vector) → vector_in (front ++ (v ++ rest)) (length front) (length v) ≡ v
vector_back front v rest = same_lists (vector_in (front ++ (v ++ rest)) (length front) (length v)) v long same
  where
    f : ℕ → ℤ
    f i = element_at (front ++ (v ++ rest)) (length front + i)

    long : length (vector_in (front ++ (v ++ rest)) (length front) (length v)) ≡ length v
    long = length-map-range_with_len (λ i. element_at (front ++ (v ++ rest)) (length front + i)) 0 (length v)

    same : (k : ℕ) (d : ℤ) → k < length (vector_in (front ++ (v ++ rest)) (length front) (length v))
        → slice_index_or (vector_in (front ++ (v ++ rest)) (length front) (length v)) k d ≡ slice_index_or v k d
    same k d l = let q : k < length v = (let a = long in omega arith) in
        get_or-map-range_with_len (λ i. element_at (front ++ (v ++ rest)) (length front + i)) 0 (length v) k k d q (omega arith)
        ∙ get_or-append-add front (v ++ rest) k (pos 0) ∙ get_or_append_left v rest (pos 0) k q ∙ get_or_default v k (pos 0) d q

back : (front : Vector) (vs : Values) → vectors_from (front ++ all_joined vs) (length front) (map length vs) ≡ vs
back front [] = refl
back front (v ∷ vs) = λ i. vector_back front v (all_joined vs) i
    ∷ ((λ k. vectors_from (sym (append_assoc front v (all_joined vs)) k) (sym (length-append front v) k) (map length vs)) ∙ back (front ++ v) vs) i

-- and so are they all
pub vectors_back : (vs : Values) (lens : List ℕ) → lens ≡ map length vs → vectors_from (all_joined vs) 0 lens ≡ vs
vectors_back vs lens e = ap (vectors_from (all_joined vs) 0) e ∙ back [] vs

pub take_snoc : {A : Type 0} (xs : List A) (r : ℕ) (z : A) → slice_get xs r ≡ Some z → take (suc r) xs ≡ take r xs ++ z ∷ []
take_snoc [] r z e = absurd cc
take_snoc (x ∷ xs) zero z e = ap (λ (y : _). y ∷ []) (same_Some x z e)
take_snoc (x ∷ xs) (suc r) z e = ap (λ (l : List _). x ∷ l) (take_snoc xs r z e)

pub element_is : (v : Vector) (j : ℕ) (z : ℤ) → slice_get v j ≡ Some z → element_at v j ≡ z
element_is [] j z e = absurd cc
element_is (x ∷ xs) zero z e = same_Some x z e
element_is (x ∷ xs) (suc j) z e = element_is xs j z e

pub element_there : (v : Vector) (j : ℕ) → j < length v → slice_get v j ≡ Some (element_at v j)
element_there [] j h = absurd (omega arith)
element_there (x ∷ xs) zero h = refl
element_there (x ∷ xs) (suc j) h = element_there xs j (omega arith)

module _ (p : Program) where
  pub len_at_is : (list : List ℕ) (i : ℕ) → len_at p list i ≡ slice_index_or (map (len_of p) list) i 0
  len_at_is [] i = refl
  len_at_is (b ∷ bs) zero = refl
  len_at_is (b ∷ bs) (suc i) = len_at_is bs i

  len_in_is : (vs : Values) (i : ℕ) → len_in vs i ≡ slice_index_or (map length vs) i 0
  len_in_is [] i = refl
  len_in_is (v ∷ vs) zero = refl
  len_in_is (v ∷ vs) (suc i) = len_in_is vs i

  -- Vectors of the lengths of these buffers.
  module _ (list : List ℕ) (vs : Values) (sized : map length vs ≡ map (len_of p) list) where
    same_len : (i : ℕ) → len_at p list i ≡ len_in vs i
    same_len i = len_at_is list i ∙ ap (λ (l : List ℕ). slice_index_or l i 0) (sym sized) ∙ sym (len_in_is vs i)

    sums : (n : ℕ) → sum_below (len_at p list) n ≡ sum_below (len_in vs) n
    sums zero = refl
    sums (suc n) = let a = sums n in let b = same_len n in omega arith

    pub elements_are : length (all_joined vs) ≡ elements_in p list
    elements_are = let a = sums (length list) in let b : length vs ≡ length list = sym (length-map vs (λ (v : Vector). length v)) ∙ ap (λ (l : List ℕ). length l) sized ∙ length-map list (len_of p) in
        joined_length vs ∙ ap (sum_below (len_in vs)) b ∙ sym a

    pub element_of_joined : (k b j : ℕ) → slice_get list k ≡ Some b → j < len_of p b → slice_get (all_joined vs) (sum_below (len_at p list) k + j) ≡ Some (element_at (vector_at vs k) j)
    element_of_joined k b j e l = ap (λ (n : ℕ). slice_get (all_joined vs) (n + j)) (sums k) ∙ joined_at vs k j inner ∙ element_there (vector_at vs k) j inner
      where
        inner : j < length (vector_at vs k)
        inner = let a = same_len k in let b : len_at p list k ≡ len_of p b = ap (len_by p) e in omega arith
