-- Lists that are written place by place.
use Rattle.std.proofs.Common.{
  ◌≡◌,
  ℕ,
  zero,
  suc,
  ◌+◌,
  ◌<◌,
  ◌≤◌,
  List,
  [],
  ◌∷◌,
  ◌++◌,
  map,
  length,
  take,
  drop,
  refl,
  sym,
  ap,
  subst,
  arith,
  zero-add,
  suc-add,
  ◌∙◌,
  length-append,
  append_assoc,
  length-take,
  length-drop,
  Bool,
  true,
  false,
}
use Rattle.std.specs.Prelude.{slice_index_or, slice_set, sum, ℤ, pos, nat_lt}
use Rattle.std.proofs.lemmas.Bool.{ltb-true, ltb-false}
use Rattle.std.proofs.lemmas.List.{length-map, set-set, set-get_or, get_or-set_same, drop-drop, take_all, drop_all, append-nil, get_or-map, get_or_append_left, get_or-append-add}
use Rattle.std.proofs.lemmas.List.Sums.{sum_by-take-le}
use Rattle.std.proofs.Math.Seq.{take-append_seam, drop-append-add}
use Rattle.body_lang.specs.Expr.{Expr, vector_of, value_of, function_outputs}
use Rattle.level_meaning.specs.Level.{all_joined}
use Rattle.flat_graph.specs.Put.{over}
use Rattle.flat_graph.proofs.KindLens.{length-vector_at, sum-cons, joined_len}
use Rattle.syn_base.specs.Vectors.{Vector, Values, vector_at}
use Rattle.syn_base.specs.Numbers.{numbers_below}
use Rattle.syn_base.specs.Rows.{cut}

-- one place more
pub fill : {A : Type 0} (target initial : List A) (i : ℕ) (d v : A) → i < length target → i < length initial → v ≡ slice_index_or target i d
    → slice_set (take i target ++ drop i initial) i v ≡ take (i + 1) target ++ drop (i + 1) initial
fill [] initial i d v l m e = absurd (omega arith)
fill (x ∷ target) [] i d v l m e = absurd (omega arith)
fill (x ∷ target) (y ∷ initial) zero d v l m e = ap (λ z. z ∷ initial) e
fill {A} (x ∷ target) (y ∷ initial) (suc i) d v l m e =
    let rest = fill target initial i d v (omega arith) (omega arith) e in
    subst (λ (n : ℕ). slice_set (x ∷ (take i target ++ drop i initial)) (suc i) v ≡ take n (x ∷ target) ++ drop n (y ∷ initial))
    (let n : suc (i + 1) ≡ suc i + 1 = omega arith in n) (ap (λ zs. x ∷ zs) rest)

-- the next place still has its first value
pub at_seam : {A : Type 0} (target initial : List A) (i : ℕ) (d : A) → i ≤ length target → i < length initial → slice_index_or (take i target ++ drop i initial) i d ≡ slice_index_or initial i d
at_seam target initial zero d l m = refl
at_seam [] initial (suc i) d l m = absurd (omega arith)
at_seam (x ∷ target) [] (suc i) d l m = absurd (omega arith)
at_seam (x ∷ target) (y ∷ initial) (suc i) d l m = at_seam target initial i d (omega arith) (omega arith)

pub in_front : {A : Type 0} (target initial : List A) (i : ℕ) → i ≤ length target → i < length initial → i < length (take i target ++ drop i initial)
in_front target initial i l m = omega (arith, length-append (take i target) (drop i initial), length-take i target, length-drop i initial)

-- all places are written
pub all_written : {A : Type 0} (target initial : List A) (i : ℕ) → length target ≤ i → length initial ≤ i → take i target ++ drop i initial ≡ target
all_written target initial i l m = (λ k. take_all i target l k ++ drop_all i initial m k) ∙ append-nil target

pub count_of_lens : (vs : Values) (lens : List ℕ) → map length vs ≡ lens → length vs ≡ length lens
count_of_lens vs lens e = sym (length-map vs length) ∙ ap length e

-- so its length is as before
pub len_at_seam : (target initial : Values) (lens : List ℕ) (i : ℕ) → i ≤ length target → i < length lens → map length initial ≡ lens
    → length (vector_at (take i target ++ drop i initial) i) ≡ slice_index_or lens i 0
len_at_seam target initial lens i l m e =
    let long = count_of_lens initial lens e in
    ap length (at_seam target initial i [] l (omega arith)) ∙ length-vector_at initial i ∙ ap (λ (ns : List ℕ). slice_index_or ns i 0) e

pub only_set : (vs : Values) (n : ℕ) (v : Vector) → map length vs ≡ n ∷ [] → slice_set vs 0 v ≡ v ∷ []
only_set [] n v e = absurd (cc)
only_set (w ∷ []) n v e = refl
only_set (w ∷ u ∷ vs) n v e = absurd (let f = ap length e in let long : suc (suc (length (map length vs))) ≡ 1 = f in omega arith)

pub length-cut : (lens : List ℕ) (v : Vector) → length (cut lens v) ≡ length lens
length-cut [] v = refl
length-cut (n ∷ lens) v = ap suc (length-cut lens (drop n v))

pub part_at : (lens : List ℕ) (v : Vector) (i : ℕ) → i < length lens → slice_index_or (cut lens v) i [] ≡ take (slice_index_or lens i 0) (drop (sum (take i lens)) v)
part_at [] v i l = absurd (omega arith)
part_at (n ∷ lens) v zero l = refl
part_at (n ∷ lens) v (suc i) l =
    part_at lens (drop n v) i (omega arith)
    ∙ ap (take (slice_index_or lens i 0)) (drop-drop (sum (take i lens)) n v ∙ ap (λ (k : ℕ). drop k v) (sym (sum-cons n (take i lens))))

pub function_at : (lens : List ℕ) (es : List Expr) (ins : Values) (i : ℕ) (d : Expr) → i < length lens → i < length es
    → slice_index_or (function_outputs lens es ins) i [] ≡ vector_of (slice_index_or lens i 0) (value_of (slice_index_or es i d) ins)
function_at [] es ins i d l m = absurd (omega arith)
function_at (n ∷ lens) [] ins i d l m = absurd (omega arith)
function_at (n ∷ lens) (e ∷ es) ins zero d l m = refl
function_at (n ∷ lens) (e ∷ es) ins (suc i) d l m = function_at lens es ins i d (omega arith) (omega arith)

-- a vector by its elements
pub numbers_long : (n : ℕ) → length (numbers_below n) ≡ n
numbers_long zero = refl
numbers_long (suc n) = length-append (numbers_below n) (n ∷ []) ∙ (let e = numbers_long n in omega arith)

number_at : (n j : ℕ) → j < n → slice_index_or (numbers_below n) j 0 ≡ j
number_at zero j l = absurd (omega arith)
number_at (suc n) j l = by (nat_lt j n) refl (λ m. number_at n j m)
  where
    by : (b : Bool) → nat_lt j n ≡ b → (j < n → slice_index_or (numbers_below n) j 0 ≡ j) → slice_index_or (numbers_below n ++ n ∷ []) j 0 ≡ j
    by true e below = let m = ltb-true j n e in
        get_or_append_left (numbers_below n) (n ∷ []) 0 j (let k : j < length (numbers_below n) = omega (arith, numbers_long n) in k) ∙ below m
    by false e below =
        let last : j ≡ n = omega (arith, ltb-false j n e) in
        let place : length (numbers_below n) + 0 ≡ j = omega (arith, numbers_long n) in
        ap (λ (k : ℕ). slice_index_or (numbers_below n ++ n ∷ []) k 0) (sym place) ∙ get_or-append-add (numbers_below n) (n ∷ []) 0 0 ∙ sym last

pub length-vector_of : (n : ℕ) (f : ℕ → ℤ) → length (vector_of n f) ≡ n
length-vector_of n f = length-map (numbers_below n) f ∙ numbers_long n

pub element_of : (n : ℕ) (f : ℕ → ℤ) (j : ℕ) → j < n → slice_index_or (vector_of n f) j (pos 0) ≡ f j
element_of n f j l = get_or-map f (numbers_below n) j 0 (pos 0) (omega (arith, numbers_long n)) ∙ ap f (number_at n j l)

-- Vector p of several is written element by element.
module _ (initial : Values) (p : ℕ) (there : p < length initial) where
  pub nothing_written : (target : Vector) → slice_set initial p (take 0 target ++ drop 0 (vector_at initial p)) ≡ initial
  nothing_written target = set-get_or initial p []

  pub one_written : (w w' : Vector) (j : ℕ) (x : ℤ) → slice_set w j x ≡ w'
      → slice_set (slice_set initial p w) p (slice_set (vector_at (slice_set initial p w) p) j x) ≡ slice_set initial p w'
  one_written w w' j x e =
      set-set initial p w (slice_set (vector_at (slice_set initial p w) p) j x)
      ∙ ap (slice_set initial p) (ap (λ u. slice_set u j x) (get_or-set_same initial p w [] there) ∙ e)

-- one element more of v is written over w
pub over_more : (from : ℕ) (v w : Vector) (j : ℕ) (d x : ℤ) → j < length v → from + length v ≤ length w → x ≡ slice_index_or v j d
    → slice_set (over from (take j v) w) (from + j) x ≡ over from (take (j + 1) v) w
over_more zero v w j d x l m e =
    let near : length (take j v) ≡ j = omega (arith, length-take j v) in
    let far : length (take (j + 1) v) ≡ j + 1 = omega (arith, length-take (j + 1) v) in
    ap (λ (n : ℕ). slice_set (take j v ++ drop n w) (0 + j) x) (zero-add (length (take j v)) ∙ near)
    ∙ ap (λ (n : ℕ). slice_set (take j v ++ drop j w) n x) (zero-add j)
    ∙ fill v w j d x l (omega arith) e
    ∙ ap (λ (n : ℕ). take (j + 1) v ++ drop n w) (sym (zero-add (length (take (j + 1) v)) ∙ far))
over_more (suc from) v [] j d x l m e = absurd (omega arith)
over_more (suc from) v (y ∷ w) j d x l m e =
    subst (λ (n : ℕ). slice_set (y ∷ (take from w ++ (take j v ++ drop n (y ∷ w)))) (suc from + j) x ≡ over (suc from) (take (j + 1) v) (y ∷ w)) (sym (suc-add from (length (take j v))))
    (subst (λ (n : ℕ). slice_set (y ∷ over from (take j v) w) n x ≡ over (suc from) (take (j + 1) v) (y ∷ w)) (sym (suc-add from j))
    (subst (λ (n : ℕ). y ∷ slice_set (over from (take j v) w) (from + j) x ≡ y ∷ (take from w ++ (take (j + 1) v ++ drop n (y ∷ w)))) (sym (suc-add from (length (take (j + 1) v))))
    (ap (λ zs. y ∷ zs) (over_more from v w j d x l (omega arith) e))))

-- the first vectors, and one more
pub joined_more : (vs : Values) (i : ℕ) → i < length vs → all_joined (take (i + 1) vs) ≡ all_joined (take i vs) ++ vector_at vs i
joined_more [] i l = absurd (omega arith)
joined_more (v ∷ vs) zero l = append-nil v
joined_more (v ∷ vs) (suc i) l =
    ap (λ (n : ℕ). all_joined (take n (v ∷ vs))) (let n : suc i + 1 ≡ suc (i + 1) = omega arith in n)
    ∙ ap (λ u. v ++ u) (joined_more vs i (omega arith))
    ∙ sym (append_assoc v (all_joined (take i vs)) (vector_at vs i))

pub map-take : (i : ℕ) (vs : Values) → map length (take i vs) ≡ take i (map length vs)
map-take zero vs = refl
map-take (suc i) [] = refl
map-take (suc i) (v ∷ vs) = ap (λ ns. length v ∷ ns) (map-take i vs)

pub first_joined : (vs : Values) (i : ℕ) → length (all_joined (take i vs)) ≡ sum (take i (map length vs))
first_joined vs i = joined_len (take i vs) ∙ ap sum (map-take i vs)

take-fewer : (i j : ℕ) (ns : List ℕ) → i ≤ j → take i (take j ns) ≡ take i ns
take-fewer zero j ns l = refl
take-fewer (suc i) zero ns l = absurd (omega arith)
take-fewer (suc i) (suc j) [] l = refl
take-fewer (suc i) (suc j) (n ∷ ns) l = ap (λ ms. n ∷ ms) (take-fewer i j ns (omega arith))

-- the vectors before one of the first, and it, are within their sum
pub within_sum : (vs : Values) (i count : ℕ) → i < count → i < length vs → length (all_joined (take i vs)) + length (vector_at vs i) ≤ sum (take count (map length vs))
within_sum vs i count l m =
    let lens = map length vs in
    let more : length (all_joined (take (i + 1) vs))
    ≡ length (all_joined (take i vs)) + length (vector_at vs i) = ap length (joined_more vs i m)
    ∙ length-append (all_joined (take i vs)) (vector_at vs i) in
    let fewer : sum (take (i + 1) (take count lens)) ≤ sum (take count lens) = sum_by-take-le (λ x. x) (take count lens) (i + 1) in
    let same : sum (take (i + 1) (take count lens)) ≡ sum (take (i + 1) lens) = ap sum (take-fewer (i + 1) count lens (omega arith)) in
    omega (arith, more, fewer, same, first_joined vs (i + 1))

-- what is written after what was written
pub over_behind : (done v w : Vector) (from : ℕ) → from ≡ length done → over from v (done ++ drop from w) ≡ (done ++ v) ++ drop (from + length v) w
over_behind done v w from e =
    let front : take from (done ++ drop from w) ≡ done = ap (λ (n : ℕ). take n (done ++ drop from w)) e ∙ take-append_seam done (drop from w) in
    let back : drop (from + length v) (done ++ drop from w) ≡ drop (from + length v) w =
    ap (λ (n : ℕ). drop (n + length v) (done ++ drop from w)) e
    ∙ drop-append-add done (drop from w) (length v)
    ∙ drop-drop (length v) from w in
    (λ i. front i ++ (v ++ back i)) ∙ sym (append_assoc done v (drop (from + length v) w))
