-- Places in lists: in joined lists, among those that pass a test, and elements with what stands round them.
use Rattle.std.proofs.Common.{
  ◌≡◌,
  ℕ,
  zero,
  suc,
  ◌+◌,
  ◌<◌,
  ◌≤◌,
  ◌⊎◌,
  Bool,
  true,
  false,
  cond,
  List,
  [],
  ◌∷◌,
  ◌++◌,
  length,
  map,
  take,
  drop,
  Some,
  refl,
  sym,
  ap,
  subst,
  inl,
  inr,
  arith,
  ◌∙◌,
  length-append,
  append_assoc,
}
use Rattle.std.specs.Prelude.{slice_get}
use Rattle.std.specs.List.{flat_map, filter, list_all, position_or_len, count_by}
use Rattle.std.proofs.lemmas.Bool.{false≢true, cases_lt, cases_eq, and_parts}
use Rattle.std.proofs.lemmas.Option.{same_Some}
use Rattle.std.proofs.lemmas.List.{append-nil, take-append-le}
use Rattle.std.proofs.lemmas.List.Sums.{sum_by-cons}
use native.Mathlib.Nat.{zero-add, suc-add}
use Rattle.sequence_build_laws.specs.InTurn.{Standing, in_turn_after}
use Rattle.sequence_build_laws.specs.Serial.{numbers_where}

module _ {A : Type 0} where
  pub get_past : (xs ys : List A) (r : ℕ) → slice_get (xs ++ ys) (length xs + r) ≡ slice_get ys r
  get_past [] ys r = rw zero-add refl
  get_past (x ∷ xs) ys r = rw suc-add (get_past xs ys r)

  pub get_before : (xs ys : List A) (r : ℕ) (z : A) → slice_get xs r ≡ Some z → slice_get (xs ++ ys) r ≡ Some z
  get_before [] ys r z e = absurd cc
  get_before (x ∷ xs) ys zero z e = e
  get_before (x ∷ xs) ys (suc r) z e = get_before xs ys r z e

  -- it stands in the second list
  pub record Past (xs ys : List A) (r : ℕ) (z : A) : Type 0 where
    pub at : ℕ
    pub is : r ≡ length xs + at
    pub stands : slice_get ys at ≡ Some z

  pub from_append : (xs ys : List A) (r : ℕ) (z : A) → slice_get (xs ++ ys) r ≡ Some z → (slice_get xs r ≡ Some z) ⊎ Past xs ys r z
  from_append [] ys r z e = inr (record { at = r; is = omega arith; stands = e })
  from_append (x ∷ xs) ys zero z e = inl e
  from_append (x ∷ xs) ys (suc r) z e = elim (from_append xs ys r z e) [
    | inl h ↦ inl h
    | inr h ↦ inr (record { at = h.at; is = (let q = h.is in omega arith); stands = h.stands })
  ]

  pub get_some : (xs : List A) (i : ℕ) → i < length xs → (x : A) × (slice_get xs i ≡ Some x)
  get_some [] i h = absurd (omega arith)
  get_some (x ∷ xs) zero h = (x, refl)
  get_some (x ∷ xs) (suc i) h = get_some xs i (omega arith)

  pub one_there : (xs : List A) (i : ℕ) (x y : A) → slice_get xs i ≡ Some x → slice_get xs i ≡ Some y → x ≡ y
  one_there xs i x y e h = same_Some x y (sym e ∙ h)

pub map_at : {A B : Type 0} (f : A → B) (xs : List A) (k : ℕ) (x : A) → slice_get xs k ≡ Some x → slice_get (map f xs) k ≡ Some (f x)
map_at f [] k x e = absurd cc
map_at f (y ∷ xs) zero x e = ap (λ z. Some (f z)) (same_Some y x e)
map_at f (y ∷ xs) (suc k) x e = map_at f xs k x e

pub record FromMap {A B : Type 0} (f : A → B) (xs : List A) (k : ℕ) (y : B) : Type 0 where
  pub it : A
  pub stands : slice_get xs k ≡ Some it
  pub is : f it ≡ y

pub from_map : {A B : Type 0} (f : A → B) (xs : List A) (k : ℕ) (y : B) → slice_get (map f xs) k ≡ Some y → FromMap f xs k y
from_map f [] k y e = absurd cc
from_map f (x ∷ xs) zero y e = record { it = x; stands = refl; is = same_Some (f x) y e }
from_map f (x ∷ xs) (suc k) y e = let r = from_map f xs k y e in record { it = r.it; stands = r.stands; is = r.is }

-- Lists that are joined end to end: where the list of element i begins.
abbrev pub starts : {A B : Type 0} → (A → List B) → List A → ℕ → ℕ
starts f xs i = length (flat_map f (take i xs))

pub record InFlat {A B : Type 0} (f : A → List B) (xs : List A) (l : ℕ) (y : B) : Type 0 where
  pub at : ℕ
  pub it : A
  pub inner : ℕ
  pub is_it : slice_get xs at ≡ Some it
  pub stands : slice_get (f it) inner ≡ Some y
  pub is : l ≡ starts f xs at + inner

pub in_flat : {A B : Type 0} (f : A → List B) (xs : List A) (l : ℕ) (y : B) → slice_get (flat_map f xs) l ≡ Some y → InFlat f xs l y
in_flat f [] l y e = absurd cc
in_flat f (x ∷ xs) l y e = elim (from_append (f x) (flat_map f xs) l y e) [
  | inl h ↦ record { at = 0; it = x; inner = l; is_it = refl; stands = h; is = omega arith }
  | inr h ↦ (let r = in_flat f xs h.at y h.stands in let q = h.is in let z = r.is in let b = length-append (f x) (flat_map f (take r.at xs)) in
      record { at = suc r.at; it = r.it; inner = r.inner; is_it = r.is_it; stands = r.stands; is = omega arith })
]

pub flat_at : {A B : Type 0} (f : A → List B) (xs : List A) (i k : ℕ) (x : A) (y : B) → slice_get xs i ≡ Some x → slice_get (f x) k ≡ Some y → slice_get (flat_map f xs) (starts f xs i + k) ≡ Some y
flat_at f [] i k x y e h = absurd cc
flat_at f (z ∷ xs) zero k x y e h = let same : z ≡ x = same_Some z x e in
    rw zero-add (get_before (f z) (flat_map f xs) k y (subst (λ (w : _). slice_get (f w) k ≡ Some y) (sym same) h))
flat_at f (z ∷ xs) (suc i) k x y e h = let b = length-append (f z) (flat_map f (take i xs)) in
    let q : length (f z ++ flat_map f (take i xs)) + k ≡ length (f z) + (starts f xs i + k) = omega arith in
    ap (λ (n : ℕ). slice_get (f z ++ flat_map f xs) n) q ∙ get_past (f z) (flat_map f xs) (starts f xs i + k) ∙ flat_at f xs i k x y e h

pub starts_rise : {A B : Type 0} (f : A → List B) (xs : List A) (i j k h : ℕ) (x : A) → slice_get xs i ≡ Some x → i < j → k < length (f x) → starts f xs i + k < starts f xs j + h
starts_rise f [] i j k h x e l b = absurd cc
starts_rise f (z ∷ xs) i zero k h x e l b = absurd (omega arith)
starts_rise f (z ∷ xs) zero (suc j) k h x e l b = let same = ap (λ (w : _). length (f w)) (same_Some z x e) in let q = length-append (f z) (flat_map f (take j xs)) in omega arith
starts_rise f (z ∷ xs) (suc i) (suc j) k h x e l b = let r = starts_rise f xs i j k h x e (omega arith) b in
    let p = length-append (f z) (flat_map f (take i xs)) in let q = length-append (f z) (flat_map f (take j xs)) in omega arith

-- places in two of the lists compare as the lists do
pub starts_order : {A B : Type 0} (f : A → List B) (xs : List A) (i j k h : ℕ) (x y : A) → slice_get xs i ≡ Some x → slice_get xs j ≡ Some y → k < length (f x) → h < length (f y)
    → starts f xs i + k ≡ starts f xs j + h → (i ≡ j) × (k ≡ h)
starts_order f xs i j k h x y e d b c q = elim (cases_lt i j) [
  | inl l ↦ (let z = starts_rise f xs i j k h x e l b in absurd (omega arith))
  | inr l ↦ elim (cases_eq i j) [
    | inl s ↦ (s, (let z = ap (λ (n : ℕ). starts f xs n) s in omega arith))
    | inr n ↦ (let z = starts_rise f xs j i h k y d (omega arith) c in absurd (omega arith))
  ]
]

pub take_past : {A : Type 0} (xs ys : List A) (n : ℕ) → take (length xs + n) (xs ++ ys) ≡ xs ++ take n ys
take_past [] ys n = rw zero-add refl
take_past (x ∷ xs) ys n = rw suc-add (ap (λ (l : List _). x ∷ l) (take_past xs ys n))

pub take_flat : {A B : Type 0} (f : A → List B) (xs : List A) (i k : ℕ) (x : A) → slice_get xs i ≡ Some x → k ≤ length (f x)
    → take (starts f xs i + k) (flat_map f xs) ≡ flat_map f (take i xs) ++ take k (f x)
take_flat f [] i k x e h = absurd cc
take_flat f (z ∷ xs) zero k x e h = let same : z ≡ x = same_Some z x e in
    rw zero-add (subst (λ (w : _). take k (f w ++ flat_map f xs) ≡ take k (f x)) (sym same) (take-append-le k (f x) (flat_map f xs) h))
take_flat f (z ∷ xs) (suc i) k x e h = let b = length-append (f z) (flat_map f (take i xs)) in
    let q : length (f z ++ flat_map f (take i xs)) + k ≡ length (f z) + (starts f xs i + k) = omega arith in
    ap (λ (n : ℕ). take n (f z ++ flat_map f xs)) q ∙ take_past (f z) (flat_map f xs) (starts f xs i + k)
    ∙ ap (λ (l : List _). f z ++ l) (take_flat f xs i k x e h) ∙ sym (append_assoc (f z) (flat_map f (take i xs)) (take k (f x)))

-- How many pass, by recursion.
abbrev pub tally : {A : Type 0} → (A → Bool) → List A → ℕ
tally p [] = 0
tally p (x ∷ xs) = cond (p x) (suc (tally p xs)) (tally p xs)

pub tally_yes : {A : Type 0} (p : A → Bool) (x : A) (xs : List A) → p x ≡ true → tally p (x ∷ xs) ≡ suc (tally p xs)
tally_yes p x xs e = ap (λ (b : Bool). cond b (suc (tally p xs)) (tally p xs)) e

pub tally_not : {A : Type 0} (p : A → Bool) (x : A) (xs : List A) → p x ≡ false → tally p (x ∷ xs) ≡ tally p xs
tally_not p x xs e = ap (λ (b : Bool). cond b (suc (tally p xs)) (tally p xs)) e

pub counts_tally : {A : Type 0} (p : A → Bool) (xs : List A) → count_by p xs ≡ tally p xs
counts_tally p [] = refl
counts_tally p (x ∷ xs) = let e = counts_tally p xs in let q = sum_by-cons (λ y. cond (p y) 1 0) x xs in by (p x) q e
  where
    by : (b : Bool) → count_by p (x ∷ xs) ≡ cond b 1 0 + count_by p xs → count_by p xs ≡ tally p xs → count_by p (x ∷ xs) ≡ cond b (suc (tally p xs)) (tally p xs)
    by true q e = omega arith
    by false q e = omega arith

pub tally-append : {A : Type 0} (p : A → Bool) (xs ys : List A) → tally p (xs ++ ys) ≡ tally p xs + tally p ys
tally-append p [] ys = omega arith
tally-append p (x ∷ xs) ys = by (p x) (tally-append p xs ys)
  where
    by : (b : Bool) → tally p (xs ++ ys) ≡ tally p xs + tally p ys → cond b (suc (tally p (xs ++ ys))) (tally p (xs ++ ys)) ≡ cond b (suc (tally p xs)) (tally p xs) + tally p ys
    by true e = omega arith
    by false e = omega arith

-- up to the first of two places, and up to the second
pub tally_rises : {A : Type 0} (p : A → Bool) (xs : List A) (i j : ℕ) → i ≤ j → tally p (take i xs) ≤ tally p (take j xs)
tally_rises p [] zero j h = omega arith
tally_rises p [] (suc i) zero h = absurd (omega arith)
tally_rises p [] (suc i) (suc j) h = omega arith
tally_rises p (x ∷ xs) zero j h = omega arith
tally_rises p (x ∷ xs) (suc i) zero h = absurd (omega arith)
tally_rises p (x ∷ xs) (suc i) (suc j) h = by (p x) (tally_rises p xs i j (omega arith))
  where
    by : (b : Bool) → tally p (take i xs) ≤ tally p (take j xs) → cond b (suc (tally p (take i xs))) (tally p (take i xs)) ≤ cond b (suc (tally p (take j xs))) (tally p (take j xs))
    by true e = omega arith
    by false e = omega arith

pub tally_grows : {A : Type 0} (p : A → Bool) (xs : List A) (i j : ℕ) (x : A) → slice_get xs i ≡ Some x → p x ≡ true → i < j → tally p (take i xs) < tally p (take j xs)
tally_grows p [] i j x e t h = absurd cc
tally_grows p (y ∷ xs) i zero x e t h = absurd (omega arith)
tally_grows p (y ∷ xs) zero (suc j) x e t h = let q = tally_yes p y (take j xs) (ap p (same_Some y x e) ∙ t) in omega arith
tally_grows p (y ∷ xs) (suc i) (suc j) x e t h = by (p y) (tally_grows p xs i j x e t (omega arith))
  where
    by : (b : Bool) → tally p (take i xs) < tally p (take j xs) → cond b (suc (tally p (take i xs))) (tally p (take i xs)) < cond b (suc (tally p (take j xs))) (tally p (take j xs))
    by true e = omega arith
    by false e = omega arith

pub tally_same : {A : Type 0} (p : A → Bool) (xs : List A) (i j : ℕ) (x y : A) → slice_get xs i ≡ Some x → slice_get xs j ≡ Some y → p x
    ≡ true → p y ≡ true → tally p (take i xs) ≡ tally p (take j xs) → i ≡ j
tally_same p xs i j x y e d t u h = elim (cases_lt i j) [
  | inl l ↦ (let z = tally_grows p xs i j x e t l in absurd (omega arith))
  | inr l ↦ elim (cases_eq i j) [ inl s ↦ s | inr n ↦ (let z = tally_grows p xs j i y d u (omega arith) in absurd (omega arith)) ]
]

-- those that pass at a smaller tally stand earlier
pub tally_earlier : {A : Type 0} (p : A → Bool) (xs : List A) (i j : ℕ) → tally p (take i xs) < tally p (take j xs) → i < j
tally_earlier p xs i j h = elim (cases_lt i j) [ inl l ↦ l | inr l ↦ (let z = tally_rises p xs j i l in absurd (omega arith)) ]

pub record Nth {A : Type 0} (p : A → Bool) (xs : List A) (t : ℕ) : Type 0 where
  pub at : ℕ
  pub it : A
  pub stands : slice_get xs at ≡ Some it
  pub passes : p it ≡ true
  pub number : tally p (take at xs) ≡ t

pub nth : {A : Type 0} (p : A → Bool) (xs : List A) (t : ℕ) → t < tally p xs → Nth p xs t
nth p [] t h = absurd (omega arith)
nth p (x ∷ xs) t h = by (p x) refl t h (nth p xs)
  where
    more : (u : ℕ) (r : Nth p xs u) (t : ℕ) → cond (p x) (suc (tally p (take r.at xs))) (tally p (take r.at xs)) ≡ t → Nth p (x ∷ xs) t
    more u r t e = record { at = suc r.at; it = r.it; stands = r.stands; passes = r.passes; number = e }

    by : (b : Bool) → p x ≡ b → (t : ℕ) → t < cond b (suc (tally p xs)) (tally p xs) → ((u : ℕ) → u < tally p xs → Nth p xs u) → Nth p (x ∷ xs) t
    by true e zero h r = record { at = 0; it = x; stands = refl; passes = e; number = refl }
    by true e (suc t) h r = let n = r t (omega arith) in more t n (suc t) (tally_yes p x (take n.at xs) e ∙ ap (λ (k : ℕ). suc k) n.number)
    by false e t h r = let n = r t h in more t n t (tally_not p x (take n.at xs) e ∙ n.number)

-- a filter
pub filter_at : {A : Type 0} (p : A → Bool) (xs : List A) (i : ℕ) (x : A) → slice_get xs i ≡ Some x → p x ≡ true → slice_get (filter p xs) (tally p (take i xs)) ≡ Some x
filter_at p [] i x e t = absurd cc
filter_at p (y ∷ xs) zero x e t = let same : y ≡ x = same_Some y x e in rw (ap p same ∙ t) (ap (λ (z : _). Some z) same)
filter_at p (y ∷ xs) (suc i) x e t = by (p y) (filter_at p xs i x e t)
  where
    by : (b : Bool) → slice_get (filter p xs) (tally p (take i xs)) ≡ Some x → slice_get (cond b (y ∷ filter p xs) (filter p xs)) (cond b (suc (tally p (take i xs))) (tally p (take i xs))) ≡ Some x
    by true h = h
    by false h = h

pub from_filter : {A : Type 0} (p : A → Bool) (xs : List A) (a : ℕ) (x : A) → slice_get (filter p xs) a ≡ Some x → (i : ℕ) × (slice_get xs i ≡ Some x) × (p x ≡ true) × (tally p (take i xs) ≡ a)
from_filter p [] a x e = absurd cc
from_filter p (y ∷ xs) a x e = by (p y) refl a e (λ b. from_filter p xs b x)
  where
    by : (t : Bool) → p y ≡ t → (a : ℕ) → slice_get (cond t (y ∷ filter p xs) (filter p xs)) a ≡ Some x
        → ((b : ℕ) → slice_get (filter p xs) b ≡ Some x → (i : ℕ) × (slice_get xs i ≡ Some x) × (p x ≡ true) × (tally p (take i xs) ≡ b))
        → (i : ℕ) × (slice_get (y ∷ xs) i ≡ Some x) × (p x ≡ true) × (tally p (take i (y ∷ xs)) ≡ a)
    by true t zero e r = let same : y ≡ x = same_Some y x e in (0, e, ap p (sym same) ∙ t, refl)
    by true t (suc a) e r = let h = r a e in (suc h.0, h.1, h.2, tally_yes p y (take h.0 xs) t ∙ ap (λ (k : ℕ). suc k) h.3)
    by false t a e r = let h = r a e in (suc h.0, h.1, h.2, tally_not p y (take h.0 xs) t ∙ h.3)

pub filter_length : {A : Type 0} (p : A → Bool) (xs : List A) → length (filter p xs) ≡ tally p xs
filter_length p [] = refl
filter_length p (x ∷ xs) = by (p x) (filter_length p xs)
  where
    by : (b : Bool) → length (filter p xs) ≡ tally p xs → length (cond b (x ∷ filter p xs) (filter p xs)) ≡ cond b (suc (tally p xs)) (tally p xs)
    by true e = ap (λ (k : ℕ). suc k) e
    by false e = e

-- the numbers of those that pass
pub number_at : {A : Type 0} (p : A → Bool) (n : ℕ) (xs : List A) (i : ℕ) (x : A) → slice_get xs i ≡ Some x → p x ≡ true → slice_get (numbers_where p n xs) (tally p (take i xs)) ≡ Some (n + i)
number_at p n [] i x e t = absurd cc
number_at p n (y ∷ xs) zero x e t = let z : n ≡ n + 0 = omega arith in rw (ap p (same_Some y x e) ∙ t) (ap (λ (k : ℕ). Some k) z)
number_at p n (y ∷ xs) (suc i) x e t = let z : suc n + i ≡ n + suc i = omega arith in by (p y) (number_at p (suc n) xs i x e t ∙ ap (λ (k : ℕ). Some k) z)
  where
    by : (b : Bool) → slice_get (numbers_where p (suc n) xs) (tally p (take i xs)) ≡ Some (n + suc i)
        → slice_get (cond b (n ∷ numbers_where p (suc n) xs) (numbers_where p (suc n) xs)) (cond b (suc (tally p (take i xs))) (tally p (take i xs))) ≡ Some (n + suc i)
    by true h = h
    by false h = h

pub record FromNumbers {A : Type 0} (p : A → Bool) (n : ℕ) (xs : List A) (j q : ℕ) : Type 0 where
  pub at : ℕ
  pub it : A
  pub stands : slice_get xs at ≡ Some it
  pub passes : p it ≡ true
  pub is : q ≡ n + at
  pub rank : j ≡ tally p (take at xs)

pub from_numbers : {A : Type 0} (p : A → Bool) (n : ℕ) (xs : List A) (j q : ℕ) → slice_get (numbers_where p n xs) j ≡ Some q → FromNumbers p n xs j q
from_numbers p n [] j q e = absurd cc
from_numbers p n (x ∷ xs) j q e = by (p x) refl j e (λ i. from_numbers p (suc n) xs i q)
  where
    by : (b : Bool) → p x ≡ b → (j : ℕ) → slice_get (cond b (n ∷ numbers_where p (suc n) xs) (numbers_where p (suc n) xs)) j ≡ Some q
        → ((i : ℕ) → slice_get (numbers_where p (suc n) xs) i ≡ Some q → FromNumbers p (suc n) xs i q) → FromNumbers p n (x ∷ xs) j q
    by true t zero e r = record { at = 0; it = x; stands = refl; passes = t; is = (let z = same_Some n q e in omega arith); rank = refl }
    by true t (suc j) e r = let h = r j e in
        record {
          at = suc h.at;
          it = h.it;
          stands = h.stands;
          passes = h.passes;
          is = (let z = h.is in omega arith);
          rank =
              ap (λ (k : ℕ). suc k) h.rank ∙ sym (tally_yes p x (take h.at xs) t);
        }
    by false t j e r = let h = r j e in
        record {
          at = suc h.at;
          it = h.it;
          stands = h.stands;
          passes = h.passes;
          is = (let z = h.is in omega arith);
          rank = h.rank
              ∙ sym (tally_not p x (take h.at xs) t);
        }

pub all_at : {A : Type 0} (p : A → Bool) (xs : List A) → list_all p xs ≡ true → (i : ℕ) (x : A) → slice_get xs i ≡ Some x → p x ≡ true
all_at p [] h i x e = absurd cc
all_at p (y ∷ xs) h zero x e = ap p (sym (same_Some y x e)) ∙ (and_parts (p y) (list_all p xs) h).0
all_at p (y ∷ xs) h (suc i) x e = all_at p xs (and_parts (p y) (list_all p xs) h).1 i x e

-- the first that passes, where one does
pub record First {A : Type 0} (p : A → Bool) (xs : List A) : Type 0 where
  pub it : A
  pub stands : slice_get xs (position_or_len p xs) ≡ Some it
  pub passes : p it ≡ true

pub first : {A : Type 0} (p : A → Bool) (xs : List A) (i : ℕ) (x : A) → slice_get xs i ≡ Some x → p x ≡ true → First p xs
first p [] i x e t = absurd cc
first p (y ∷ xs) i x e t = by (p y) refl i e (λ j d. first p xs j x d t)
  where
    next : First p xs → p y ≡ false → First p (y ∷ xs)
    next r f = record { it = r.it; passes = r.passes; stands = rw f (let z : 1 + position_or_len p xs ≡ suc (position_or_len p xs) = omega arith in ap (λ (k : ℕ). slice_get (y ∷ xs) k) z ∙ r.stands) }

    by : (b : Bool) → p y ≡ b → (i : ℕ) → slice_get (y ∷ xs) i ≡ Some x → ((j : ℕ) → slice_get xs j ≡ Some x → First p xs) → First p (y ∷ xs)
    by true f i e r = record { it = y; passes = f; stands = rw f refl }
    by false f zero e r = absurd (false≢true (sym f ∙ (ap p (same_Some y x e) ∙ t)))
    by false f (suc i) e r = next (r i e) f

-- elements with what stands round them
pub record FromTurn {A : Type 0} (before xs : List A) (i : ℕ) (v : Standing A) : Type 0 where
  pub stands : slice_get xs i ≡ Some v.it
  pub before_is : v.before ≡ before ++ take i xs
  pub after_is : v.after ≡ drop (suc i) xs

pub from_turn : {A : Type 0} (before xs : List A) (i : ℕ) (v : Standing A) → slice_get (in_turn_after before xs) i ≡ Some v → FromTurn before xs i v
from_turn before [] i v e = absurd cc
from_turn before (x ∷ xs) zero v e = let same = same_Some _ v e in
    record {
      stands = ap (λ (w : Standing _). Some w.it) same;
      before_is = ap (λ (w : Standing _). w.before) (sym same)
          ∙ sym (append-nil before);
      after_is = ap (λ (w : Standing _). w.after) (sym same);
    }
from_turn before (x ∷ xs) (suc i) v e = let r = from_turn (before ++ x ∷ []) xs i v e in
    record { stands = r.stands; before_is = r.before_is ∙ append_assoc before (x ∷ []) (take i xs); after_is = r.after_is }

pub turn_at : {A : Type 0} (before xs : List A) (i : ℕ) (x : A) → slice_get xs i ≡ Some x → (v : Standing A) × (slice_get (in_turn_after before xs) i ≡ Some v)
turn_at before [] i x e = absurd cc
turn_at before (y ∷ xs) zero x e = (record { before = before; it = y; after = xs }, refl)
turn_at before (y ∷ xs) (suc i) x e = turn_at (before ++ y ∷ []) xs i x e

pub get_take : {A : Type 0} (xs : List A) (n i : ℕ) (x : A) → slice_get (take n xs) i ≡ Some x → (i < n) × (slice_get xs i ≡ Some x)
get_take xs zero i x e = absurd cc
get_take [] (suc n) i x e = absurd cc
get_take (y ∷ xs) (suc n) zero x e = (omega arith, e)
get_take (y ∷ xs) (suc n) (suc i) x e = let r = get_take xs n i x e in (omega (arith, r.0), r.1)

pub take_get : {A : Type 0} (xs : List A) (n i : ℕ) (x : A) → i < n → slice_get xs i ≡ Some x → slice_get (take n xs) i ≡ Some x
take_get xs zero i x h e = absurd (omega arith)
take_get [] (suc n) i x h e = absurd cc
take_get (y ∷ xs) (suc n) zero x h e = e
take_get (y ∷ xs) (suc n) (suc i) x h e = take_get xs n i x (omega arith) e

pub get_drop : {A : Type 0} (xs : List A) (n i : ℕ) → slice_get (drop n xs) i ≡ slice_get xs (n + i)
get_drop xs zero i = rw zero-add refl
get_drop [] (suc n) i = refl
get_drop (y ∷ xs) (suc n) i = rw suc-add (get_drop xs n i)

pub take_next : {A : Type 0} (xs : List A) (n : ℕ) (x : A) → slice_get xs n ≡ Some x → take (suc n) xs ≡ take n xs ++ x ∷ []
take_next [] n x e = absurd cc
take_next (y ∷ xs) zero x e = ap (λ (z : _). z ∷ []) (same_Some y x e)
take_next (y ∷ xs) (suc n) x e = ap (λ (l : List _). y ∷ l) (take_next xs n x e)

pub numbers-append : {A : Type 0} (p : A → Bool) (n : ℕ) (xs ys : List A) → numbers_where p n (xs ++ ys) ≡ numbers_where p n xs ++ numbers_where p (n + length xs) ys
numbers-append p n [] ys = ap (λ (k : ℕ). numbers_where p k ys) (let z : n ≡ n + 0 = omega arith in z)
numbers-append p n (x ∷ xs) ys =
    by (p x) (numbers-append p (suc n) xs ys
    ∙ ap (λ (k : ℕ). numbers_where p (suc n) xs ++ numbers_where p k ys) (let z : suc n + length xs ≡ n + suc (length xs) = omega arith in z))
  where
    by : (b : Bool) → numbers_where p (suc n) (xs ++ ys) ≡ numbers_where p (suc n) xs ++ numbers_where p (n + suc (length xs)) ys
        → cond b (n ∷ numbers_where p (suc n) (xs ++ ys)) (numbers_where p (suc n) (xs ++ ys))
        ≡ cond b (n ∷ numbers_where p (suc n) xs) (numbers_where p (suc n) xs) ++ numbers_where p (n + suc (length xs)) ys
    by true e = ap (λ (l : List ℕ). n ∷ l) e
    by false e = e
