-- The numbers of buffers and pairs, operator by operator: each stands once among those of all operators.
use Rattle.std.proofs.Common.{
  ◌≡◌,
  ℕ,
  zero,
  suc,
  ◌+◌,
  ◌≤◌,
  ◌<◌,
  Bool,
  ◌||◌,
  true,
  false,
  cond,
  nat_le,
  nat_lt,
  nat_eq,
  if◌then◌else◌,
  List,
  [],
  ◌∷◌,
  ◌++◌,
  length,
  map,
  refl,
  sym,
  ap,
  ap₂,
  arith,
  ◌∙◌,
  subst,
  Some,
  None,
  ◌⊎◌,
  inl,
  inr,
}
use Rattle.std.specs.Prelude.{slice_get, is_some}
use Rattle.std.specs.List.{list_all, count_by, sum_by}
use Rattle.std.proofs.lemmas.Bool.{and_parts, and_from, le-leb, lt-ltb, eq-eqb, ne_eqb, eqb-true, lt-leb, ltb-true, or_right, or_left}
use Rattle.std.proofs.lemmas.Option.{same_Some}
use Rattle.std.proofs.lemmas.List.{length-append, map-append, length_push, append_assoc, get_or_at}
use Rattle.std.proofs.lemmas.List.Sums.{sum_by-cons, sum_by-append}
use Rattle.std.proofs.lemmas.List.Folds.{list_any-append}
use Rattle.sequence_build_laws.specs.Owners.{sum_below}
use Rattle.sequence_build_laws.specs.Archi.{ascends_from}
use Rattle.sequence_build_laws.specs.Blocks.{blocks}
use Rattle.sequence_build_laws.proofs.InterleavingSums.{same_below, none_below}
use Rattle.sequence_build_laws.proofs.Sums.{picked, summed}
use Rattle.macro_code.specs.Text.{pairs_on}
use Rattle.macro_code.specs.declared.numbered.Numbered.{Numbered}
use Rattle.macro_code.specs.ReadText.{is_among, place_from, place_of, first_wrong, misnumbered, at_place}
use Rattle.code_laws.proofs.Arguments.{is_small}

-- the numbers of an operator
pub on_has : (o q i : ℕ) (xs : List ℕ) → slice_get xs i ≡ Some o → is_among (pairs_on o q xs) (q + i) ≡ true
on_has o q i [] e = cc
on_has o q zero (x ∷ xs) e =
    let own : cond (nat_eq x o) (q ∷ []) [] ≡ q ∷ [] = ap (λ (b : Bool). cond b (q ∷ []) []) (eq-eqb x o (same_Some x o e)) in
    ap (λ (l : List ℕ). is_among (l ++ pairs_on o (suc q) xs) (q + 0)) own
    ∙ or_left (nat_eq q (q + 0)) (is_among (pairs_on o (suc q) xs) (q + 0)) (eq-eqb q (q + 0) (omega arith))
on_has o q (suc i) (x ∷ xs) e =
    list_any-append (λ (k : ℕ). nat_eq k (q + suc i)) (cond (nat_eq x o) (q ∷ []) []) (pairs_on o (suc q) xs)
    ∙ or_right (is_among (cond (nat_eq x o) (q ∷ []) []) (q + suc i)) (is_among (pairs_on o (suc q) xs) (q + suc i))
    (ap (is_among (pairs_on o (suc q) xs)) (let k : q + suc i ≡ suc q + i = omega arith in k) ∙ on_has o (suc q) i xs e)

on_each : (test : ℕ → Bool) (o q : ℕ) (xs : List ℕ) → ((k : ℕ) → q ≤ k → k < q + length xs → test k ≡ true) → list_all test (pairs_on o q xs) ≡ true
on_each test o q [] h = refl
on_each test o q (x ∷ xs) h = by (nat_eq x o) (on_each test o (suc q) xs (λ k l m. h k (omega (arith, l)) (omega (arith, m))))
  where
    by : (b : Bool) → list_all test (pairs_on o (suc q) xs) ≡ true → list_all test (cond b (q ∷ []) [] ++ pairs_on o (suc q) xs) ≡ true
    by true e = and_from (test q) _ (h q (omega arith) (omega arith)) e
    by false e = e

pub on_small : (o q : ℕ) (xs : List ℕ) → q + length xs ≤ 9223372036854775808 → list_all is_small (pairs_on o q xs) ≡ true
on_small o q xs few = on_each is_small o q xs (λ k l m. lt-ltb k 9223372036854775808 (omega (arith, few, m)))

pub on_ascends : (o q k : ℕ) (xs : List ℕ) → k ≤ q → ascends_from k (pairs_on o q xs) ≡ true
on_ascends o q k [] l = refl
on_ascends o q k (x ∷ xs) l = by (nat_eq x o) (on_ascends o (suc q) (q + 1) xs (omega arith)) (on_ascends o (suc q) k xs (omega (arith, l)))
  where
    by : (b : Bool) → ascends_from (q + 1) (pairs_on o (suc q) xs) ≡ true → ascends_from k (pairs_on o (suc q) xs) ≡ true → ascends_from k (cond b (q ∷ []) [] ++ pairs_on o (suc q) xs) ≡ true
    by true behind other = and_from (nat_le k q) _ (le-leb k q l) behind
    by false behind other = other

-- what belongs to the numbers, by number
pub on_owned : {A : Type 0} (f : ℕ → A) (at : ℕ → A) (o q : ℕ) (xs : List ℕ) → ((i x : ℕ) → slice_get xs i ≡ Some x → f (q + i) ≡ at x) → map (λ _. at o) (pairs_on o q xs) ≡ map f (pairs_on o q xs)
on_owned f at o q [] h = refl
on_owned f at o q (x ∷ xs) h =
    by (nat_eq x o) refl (on_owned f at o (suc q) xs (λ i y e. ap f (let k : suc q + i ≡ q + suc i = omega arith in k) ∙ h (suc i) y e))
  where
    by : (b : Bool) → nat_eq x o ≡ b → map (λ _. at o) (pairs_on o (suc q) xs) ≡ map f (pairs_on o (suc q) xs)
        → map (λ _. at o) (cond b (q ∷ []) [] ++ pairs_on o (suc q) xs) ≡ map f (cond b (q ∷ []) [] ++ pairs_on o (suc q) xs)
    by true e k = ap₂ (λ y ys. y ∷ ys) (ap at (sym (eqb-true x o e)) ∙ sym (h 0 x refl) ∙ ap f (let k : q + 0 ≡ q = omega arith in k)) k
    by false e k = k

-- how often a number stands there
count_none : (o q b : ℕ) (xs : List ℕ) → (b < q) ⊎ (q + length xs ≤ b) → count_by (λ (k : ℕ). nat_eq k b) (pairs_on o q xs) ≡ 0
count_none o q b [] h = refl
count_none o q b (x ∷ xs) h =
    let own : count_by (λ (k : ℕ). nat_eq k b) (cond (nat_eq x o) (q ∷ []) []) ≡ 0 = by (nat_eq x o) in
    sum_by-append (λ (k : ℕ). cond (nat_eq k b) 1 0) (cond (nat_eq x o) (q ∷ []) []) (pairs_on o (suc q) xs)
    ∙ ap₂ ◌+◌ own (count_none o (suc q) b xs (next h))
  where
    next : (b < q) ⊎ (q + length (x ∷ xs) ≤ b) → (b < suc q) ⊎ (suc q + length xs ≤ b)
    next (inl l) = inl (omega (arith, l))
    next (inr l) = inr (omega (arith, l))

    other : (b < q) ⊎ (q + length (x ∷ xs) ≤ b) → q ≡ b → ⊥
    other (inl l) e = omega (arith, l, e)
    other (inr l) e = omega (arith, l, e)

    by : (t : Bool) → count_by (λ (k : ℕ). nat_eq k b) (cond t (q ∷ []) []) ≡ 0
    by true = sum_by-cons (λ (k : ℕ). cond (nat_eq k b) 1 0) q [] ∙ ap (λ (t : Bool). cond t 1 0 + 0) (ne_eqb q b (other h))
    by false = refl

count_on : (o q i x : ℕ) (xs : List ℕ) → slice_get xs i ≡ Some x → count_by (λ (k : ℕ). nat_eq k (q + i)) (pairs_on o q xs) ≡ cond (nat_eq x o) 1 0
count_on o q i x [] e = cc
count_on o q zero x (y ∷ xs) e =
    sum_by-append (λ (k : ℕ). cond (nat_eq k (q + 0)) 1 0) (cond (nat_eq y o) (q ∷ []) []) (pairs_on o (suc q) xs)
    ∙ ap₂ ◌+◌ (ap (λ (z : ℕ). count_by (λ (k : ℕ). nat_eq k (q + 0)) (cond (nat_eq z o) (q ∷ []) [])) (same_Some y x e) ∙ by (nat_eq x o)) (count_none o (suc q) (q + 0) xs (inl (omega arith)))
    ∙ omega arith
  where
    by : (t : Bool) → count_by (λ (k : ℕ). nat_eq k (q + 0)) (cond t (q ∷ []) []) ≡ cond t 1 0
    by true = sum_by-cons (λ (k : ℕ). cond (nat_eq k (q + 0)) 1 0) q [] ∙ ap (λ (t : Bool). cond t 1 0 + 0) (eq-eqb q (q + 0) (omega arith))
    by false = refl
count_on o q (suc i) x (y ∷ xs) e =
    sum_by-append (λ (k : ℕ). cond (nat_eq k (q + suc i)) 1 0) (cond (nat_eq y o) (q ∷ []) []) (pairs_on o (suc q) xs)
    ∙ ap₂ ◌+◌ (by (nat_eq y o)) (ap (λ (z : ℕ). count_by (λ (k : ℕ). nat_eq k z) (pairs_on o (suc q) xs)) (let k : q + suc i ≡ suc q + i = omega arith in k) ∙ count_on o (suc q) i x xs e)
    ∙ omega arith
  where
    by : (t : Bool) → count_by (λ (k : ℕ). nat_eq k (q + suc i)) (cond t (q ∷ []) []) ≡ 0
    by true = sum_by-cons (λ (k : ℕ). cond (nat_eq k (q + suc i)) 1 0) q [] ∙ ap (λ (t : Bool). cond t 1 0 + 0) (ne_eqb q (q + suc i) (λ k. omega (arith, k)))
    by false = refl

-- the numbers of the operators below c
abbrev pub all_on : List ℕ → ℕ → List ℕ
all_on xs c = blocks (λ o. pairs_on o 0 xs) c

count_blocks : (b : ℕ) (f : ℕ → List ℕ) (c : ℕ) → count_by (λ (k : ℕ). nat_eq k b) (blocks f c) ≡ sum_below (λ o. count_by (λ (k : ℕ). nat_eq k b) (f o)) c
count_blocks b f zero = refl
count_blocks b f (suc c) = sum_by-append (λ (k : ℕ). cond (nat_eq k b) 1 0) (blocks f c) (f c) ∙ ap (λ (n : ℕ). n + count_by (λ (k : ℕ). nat_eq k b) (f c)) (count_blocks b f c)

length_blocks : (f : ℕ → List ℕ) (c : ℕ) → length (blocks f c) ≡ sum_below (λ o. length (f o)) c
length_blocks f zero = refl
length_blocks f (suc c) = length-append (blocks f c) (f c) ∙ ap (λ (n : ℕ). n + length (f c)) (length_blocks f c)

length_on : (o q : ℕ) (xs : List ℕ) → length (pairs_on o q xs) ≡ sum_by (λ (x : ℕ). cond (nat_eq x o) 1 0) xs
length_on o q [] = refl
length_on o q (x ∷ xs) =
    length-append (cond (nat_eq x o) (q ∷ []) []) (pairs_on o (suc q) xs) ∙ ap₂ ◌+◌ (by (nat_eq x o)) (length_on o (suc q) xs) ∙ sym (sum_by-cons (λ (y : ℕ). cond (nat_eq y o) 1 0) x xs)
  where
    by : (t : Bool) → length (cond t (q ∷ []) []) ≡ cond t 1 0
    by true = refl
    by false = refl

-- each number stands there once
pub all_once : (xs : List ℕ) (c i x : ℕ) → slice_get xs i ≡ Some x → x < c → count_by (λ (k : ℕ). nat_eq k i) (all_on xs c) ≡ 1
all_once xs c i x e l =
    count_blocks i (λ o. pairs_on o 0 xs) c
    ∙ same_below (λ o. count_by (λ (k : ℕ). nat_eq k i) (pairs_on o 0 xs)) (λ o. cond (nat_eq x o) 1 0) c
    (λ o _. ap (λ (z : ℕ). count_by (λ (k : ℕ). nat_eq k z) (pairs_on o 0 xs)) (let k : i ≡ 0 + i = omega arith in k) ∙ count_on o 0 i x xs e)
    ∙ picked (λ _. 1) c x l

pub all_none : (xs : List ℕ) (c b : ℕ) → length xs ≤ b → count_by (λ (k : ℕ). nat_eq k b) (all_on xs c) ≡ 0
all_none xs c b l = count_blocks b (λ o. pairs_on o 0 xs) c ∙ none_below (λ o. count_by (λ (k : ℕ). nat_eq k b) (pairs_on o 0 xs)) c (λ o _. count_none o 0 b xs (inr (omega (arith, l))))

sum_ones : (f : ℕ → ℕ) (xs : List ℕ) → ((i x : ℕ) → slice_get xs i ≡ Some x → f x ≡ 1) → sum_by f xs ≡ length xs
sum_ones f [] h = refl
sum_ones f (x ∷ xs) h = let c = sum_by-cons f x xs in let own = h 0 x refl in let rest = sum_ones f xs (λ i y e. h (suc i) y e) in omega (arith, c, own, rest)

-- there are as many as there are owners
pub all_length : (xs : List ℕ) (c : ℕ) → ((i x : ℕ) → slice_get xs i ≡ Some x → x < c) → length (all_on xs c) ≡ length xs
all_length xs c h =
    length_blocks (λ o. pairs_on o 0 xs) c
    ∙ same_below (λ o. length (pairs_on o 0 xs)) (λ o. sum_by (λ (x : ℕ). cond (nat_eq x o) 1 0) xs) c (λ o _. length_on o 0 xs)
    ∙ sym (summed (λ o x. cond (nat_eq x o) 1 0) c xs)
    ∙ sum_ones (λ (x : ℕ). sum_below (λ o. cond (nat_eq x o) 1 0) c) xs (λ i x e. picked (λ _. 1) c x (h i x e))

-- Declared numbers, of which these are the declarations.
abbrev pub numbers : List Numbered → List ℕ
numbers ds = map (λ (d : Numbered). d.number) ds

-- a number that is declared is found, with what belongs to it
found_behind : {A : Type 0} (f : ℕ → A) (missing : A) (b : ℕ) (front : List A) (ds : List Numbered) → is_among (numbers ds) b ≡ true
    → at_place (front ++ map f (numbers ds)) missing (place_from b (length front) ds) ≡ f b
found_behind f missing b front [] h = cc
found_behind f missing b front (d ∷ ds) h = by (nat_eq d.number b) refl h (λ k. found_behind f missing b (front ++ f d.number ∷ []) ds k)
  where
    by : (t : Bool) → nat_eq d.number b ≡ t → (t || is_among (numbers ds) b) ≡ true
        → (is_among (numbers ds) b ≡ true → at_place ((front ++ f d.number ∷ []) ++ map f (numbers ds)) missing (place_from b (length (front ++ f d.number ∷ [])) ds) ≡ f b)
        → at_place (front ++ f d.number ∷ map f (numbers ds)) missing (if t then Some (length front) else place_from b (length front + 1) ds) ≡ f b
    by true e k again = get_or_at front (f d.number) (map f (numbers ds)) missing (length front) refl ∙ ap f (eqb-true d.number b e)
    by false e k again =
        ap₂ (λ (l : List _) (n : ℕ). at_place l missing (place_from b n ds)) (sym (append_assoc front (f d.number ∷ []) (map f (numbers ds)))) (sym (length_push front (f d.number)))
        ∙ again k

pub found_at : {A : Type 0} (f : ℕ → A) (missing : A) (b : ℕ) (ds : List Numbered) → is_among (numbers ds) b ≡ true → at_place (map f (numbers ds)) missing (place_of b ds) ≡ f b
found_at f missing b ds h = found_behind f missing b [] ds h

not_found : (b k : ℕ) (ds : List Numbered) → count_by (λ (n : ℕ). nat_eq n b) (numbers ds) ≡ 0 → place_from b k ds ≡ None
not_found b k [] h = refl
not_found b k (d ∷ ds) h = by (nat_eq d.number b) refl (sum_by-cons (λ (n : ℕ). cond (nat_eq n b) 1 0) d.number (numbers ds)) (λ e. not_found b (k + 1) ds e)
  where
    by : (t : Bool) → nat_eq d.number b ≡ t → count_by (λ (n : ℕ). nat_eq n b) (numbers (d ∷ ds)) ≡ cond (nat_eq d.number b) 1 0 + count_by (λ (n : ℕ). nat_eq n b) (numbers ds)
        → (count_by (λ (n : ℕ). nat_eq n b) (numbers ds) ≡ 0 → place_from b (k + 1) ds ≡ None) → (if t then Some k else place_from b (k + 1) ds) ≡ None
    by true e c again = let own : ◌≡◌ {A = ℕ} (cond (nat_eq d.number b) 1 0) 1 = ap (λ (t : Bool). cond t 1 0) e in absurd (omega (arith, c, own, h))
    by false e c again = let own : ◌≡◌ {A = ℕ} (cond (nat_eq d.number b) 1 0) 0 = ap (λ (t : Bool). cond t 1 0) e in again (omega (arith, c, h, own))

none_wrong : (count : ℕ) (front ds : List Numbered) → list_all (λ (k : ℕ). nat_lt k count) (numbers ds) ≡ true
    → ((b : ℕ) → count_by (λ (n : ℕ). nat_eq n b) (numbers (front ++ ds)) ≤ 1) → first_wrong count front ds ≡ None
none_wrong count front [] low few = refl
none_wrong count front (d ∷ ds) low few =
    let both = and_parts (nat_lt d.number count) (list_all (λ (k : ℕ). nat_lt k count) (numbers ds)) low in
    let below : nat_le count d.number ≡ false = lt-leb count d.number (ltb-true d.number count both.0) in
    let test : ℕ → ℕ = λ (n : ℕ). cond (nat_eq n d.number) 1 0 in
    let all = few d.number in
    let cut = ap (count_by (λ (n : ℕ). nat_eq n d.number)) (map-append (λ (x : Numbered). x.number) front (d ∷ ds)) in
    let parts = sum_by-append test (numbers front) (numbers (d ∷ ds)) in
    let first = sum_by-cons test d.number (numbers ds) in
    let own : test d.number ≡ 1 = ap (λ (t : Bool). cond t 1 0) (eq-eqb d.number d.number refl) in
    let none : count_by (λ (n : ℕ). nat_eq n d.number) (numbers front) ≡ 0 = omega (arith, all, cut, parts, first, own) in
    let fresh : is_some (place_of d.number front) ≡ false = ap is_some (not_found d.number 0 front none) in
    by (nat_le count d.number) (is_some (place_of d.number front)) below fresh
    (none_wrong count (front ++ d ∷ []) ds both.1 (λ b. subst (λ (l : List Numbered). count_by (λ (n : ℕ). nat_eq n b) (numbers l) ≤ 1) (sym (append_assoc front (d ∷ []) ds)) (few b)))
  where
    by : (s t : Bool) → s ≡ false → t ≡ false → first_wrong count (front ++ d ∷ []) ds ≡ None → (if s || t then Some d.line else first_wrong count (front ++ d ∷ []) ds) ≡ None
    by s t e f k = rw (e, f) k

pub numbered_right : (ds : List Numbered) → list_all (λ (k : ℕ). nat_lt k (length ds)) (numbers ds) ≡ true → ((b : ℕ) → count_by (λ (n : ℕ). nat_eq n b) (numbers ds) ≤ 1) → misnumbered ds ≡ None
numbered_right ds low few = none_wrong (length ds) [] ds low few
