-- Places in a loop: of the first and the last instruction that passes a test, and of what is noted of them.
use Rattle.std.proofs.Common.{
  ◌≡◌,
  ℕ,
  zero,
  suc,
  ◌+◌,
  ◌-◌,
  ◌≤◌,
  ◌⊎◌,
  Bool,
  true,
  false,
  ◌&&◌,
  ◌||◌,
  not,
  cond,
  nat_eq,
  List,
  [],
  ◌∷◌,
  ◌++◌,
  length,
  take,
  drop,
  Some,
  refl,
  sym,
  ap,
  inl,
  inr,
  arith,
  ◌∙◌,
  length-append,
  eq-eqb,
}
use Rattle.std.specs.Prelude.{slice_get, slice_set}
use Rattle.std.specs.List.{list_any}
use Rattle.std.proofs.lemmas.Bool.{false≢true, or_cases, ne_eqb, cases_Bool}
use Rattle.std.proofs.lemmas.Option.{same_Some}
use Rattle.std.proofs.lemmas.List.{append-nil}
use Rattle.std.proofs.Math.Bool.{and-false}
use Rattle.sequence_build.specs.declared.uses.Use.{Use}
use Rattle.sequence_build.specs.Uses.{use_of, is_by, prolonged, last_of, noted, uses_in}

module _ {A : Type 0} (test : A → Bool) where
  -- The place of the first of these that passes the test, if the first of all has place `at`; the place
  -- after them if none does.
  abbrev pub first_from : ℕ → List A → ℕ
  first_from at [] = at
  first_from at (x ∷ xs) = cond (test x) at (first_from (suc at) xs)

  -- The place of the last of these that passes the test, if the first of all has place `at`, and
  -- otherwise `least`.
  abbrev pub last_from : ℕ → ℕ → List A → ℕ
  last_from least at [] = least
  last_from least at (x ∷ xs) = last_from (cond (test x) at least) (suc at) xs

last_index : {A : Type 0} (xs : List A) (x : A) → length (xs ++ x ∷ []) - 1 ≡ length xs
last_index xs x = let e = length-append xs (x ∷ []) in omega arith

get_last : {A : Type 0} (xs : List A) (x : A) → slice_get (xs ++ x ∷ []) (length xs) ≡ Some x
get_last [] x = refl
get_last (y ∷ xs) x = get_last xs x

set_last : {A : Type 0} (xs : List A) (x y : A) → slice_set (xs ++ x ∷ []) (length xs) y ≡ xs ++ y ∷ []
set_last [] x y = refl
set_last (z ∷ xs) x y = ap (λ (l : List _). z ∷ l) (set_last xs x y)

pub last_is : (us : List Use) (u : Use) → last_of (us ++ u ∷ []) ≡ Some u
last_is us u = ap (slice_get (us ++ u ∷ [])) (last_index us u) ∙ get_last us u

-- one more read after these
noted_last : (s at : ℕ) (us : List Use) (u : Use) → noted s at (us ++ u ∷ []) ≡ cond (nat_eq u.sequence s) (us ++ use_of u.sequence u.first at ∷ []) (us ++ u ∷ [] ++ use_of s at at ∷ [])
noted_last s at us u =
    let e = last_is us u in
    (λ i. cond (is_by s (e i)) (prolonged at (e i) (us ++ u ∷ [])) (us ++ u ∷ [] ++ use_of s at at ∷ []))
    ∙ (λ i. cond (nat_eq u.sequence s) (slice_set (us ++ u ∷ []) (last_index us u i) (use_of u.sequence u.first at)) (us ++ u ∷ [] ++ use_of s at at ∷ []))
    ∙ ap (λ (l : List Use). cond (nat_eq u.sequence s) l (us ++ u ∷ [] ++ use_of s at at ∷ [])) (set_last us u (use_of u.sequence u.first at))

noted_again : (s f l at : ℕ) (us : List Use) → noted s at (us ++ use_of s f l ∷ []) ≡ us ++ use_of s f at ∷ []
noted_again s f l at us =
    noted_last s at us (use_of s f l) ∙ ap (λ (b : Bool). cond b (us ++ use_of s f at ∷ []) (us ++ use_of s f l ∷ [] ++ use_of s at at ∷ [])) (eq-eqb s s refl)

noted_other : (s at : ℕ) (us : List Use) (u : Use) → nat_eq u.sequence s ≡ false → noted s at (us ++ u ∷ []) ≡ us ++ u ∷ [] ++ use_of s at at ∷ []
noted_other s at us u e = noted_last s at us u ∙ ap (λ (b : Bool). cond b (us ++ use_of u.sequence u.first at ∷ []) (us ++ u ∷ [] ++ use_of s at at ∷ [])) e

-- a list is empty, or has a last element
data End {A : Type 0} : List A → Type 0 where
  none : End []
  last : (xs : List A) (x : A) → End (xs ++ x ∷ [])

end_of : {A : Type 0} (xs : List A) → End xs
end_of [] = none
end_of (x ∷ xs) = by xs (end_of xs)
  where
    by : (ys : List _) → End ys → End (x ∷ ys)
    by ys none = last [] x
    by ys (last zs z) = last (x ∷ zs) z

-- noting a read of the same place again changes nothing
pub noted_twice : (s at : ℕ) (us : List Use) → noted s at (noted s at us) ≡ noted s at us
noted_twice s at us = by us (end_of us)
  where
    by : (us : List Use) → End us → noted s at (noted s at us) ≡ noted s at us
    by us none = noted_again s at at at []
    by us (last vs u) = elim (cases_Bool (nat_eq u.sequence s)) [
      | inl e ↦
          (let v = use_of u.sequence u.first at in
          let is : noted s at (vs ++ u ∷ []) ≡ vs ++ v ∷ [] = noted_last s at vs u ∙ ap (λ (b : Bool). cond b (vs ++ v ∷ []) (vs ++ u ∷ [] ++ use_of s at at ∷ [])) e in
          let again : noted s at (vs ++ v ∷ []) ≡ vs ++ v ∷ [] = noted_last s at vs v ∙ ap (λ (b : Bool). cond b (vs ++ v ∷ []) (vs ++ v ∷ [] ++ use_of s at at ∷ [])) e in
          ap (noted s at) is ∙ again ∙ sym is)
      | inr e ↦
          (let is : noted s at (vs ++ u ∷ []) ≡ vs ++ u ∷ [] ++ use_of s at at ∷ [] = noted_other s at vs u e in
          ap (noted s at) is ∙ noted_again s at at at (vs ++ u ∷ []) ∙ sym is)
    ]

-- no read of the sequence is the last of these
abbrev pub IsFresh : ℕ → List Use → Type 0
IsFresh s us = is_by s (last_of us) ≡ false

noted_fresh : (s at : ℕ) (us : List Use) → IsFresh s us → noted s at us ≡ us ++ use_of s at at ∷ []
noted_fresh s at us f = ap (λ (b : Bool). cond b (prolonged at (last_of us) us) (us ++ use_of s at at ∷ [])) f

module _ {A : Type 0} (p : A → Bool) where
  uses_on : (s f l at : ℕ) (xs : List A) (us : List Use) → uses_in p s at xs (us ++ use_of s f l ∷ []) ≡ us ++ use_of s f (last_from p l at xs) ∷ []
  uses_on s f l at [] us = refl
  uses_on s f l at (x ∷ xs) us = by (p x) (λ m. uses_on s f m (suc at) xs us)
    where
      by : (b : Bool) → ((m : ℕ) → uses_in p s (suc at) xs (us ++ use_of s f m ∷ []) ≡ us ++ use_of s f (last_from p m (suc at) xs) ∷ [])
          → uses_in p s (suc at) xs (cond b (noted s at (us ++ use_of s f l ∷ [])) (us ++ use_of s f l ∷ [])) ≡ us ++ use_of s f (last_from p (cond b at l) (suc at) xs) ∷ []
      by true h = ap (uses_in p s (suc at) xs) (noted_again s f l at us) ∙ h at
      by false h = h l

  abbrev pub use_in : ℕ → ℕ → List A → List Use
  use_in s at xs = cond (list_any p xs) (use_of s (first_from p at xs) (last_from p 0 at xs) ∷ []) []

  -- a sequence that reads is noted once
  pub uses_are : (s at : ℕ) (xs : List A) (us : List Use) → IsFresh s us → uses_in p s at xs us ≡ us ++ use_in s at xs
  uses_are s at [] us f = sym (append-nil us)
  uses_are s at (x ∷ xs) us f = by (p x) (uses_are s (suc at) xs us f)
    where
      by : (b : Bool) → uses_in p s (suc at) xs us ≡ us ++ use_in s (suc at) xs → uses_in p s (suc at) xs (cond b (noted s at us) us) ≡ us
          ++ cond (b || list_any p xs) (use_of s (cond b at (first_from p (suc at) xs)) (last_from p (cond b at 0) (suc at) xs) ∷ []) []
      by true h = ap (uses_in p s (suc at) xs) (noted_fresh s at us f) ∙ uses_on s at at (suc at) xs us
      by false h = h

  -- the places of the first and the last one
  first_low : (at : ℕ) (xs : List A) → at ≤ first_from p at xs
  first_low at [] = omega arith
  first_low at (x ∷ xs) = by (p x) (first_low (suc at) xs)
    where
      by : (b : Bool) → suc at ≤ first_from p (suc at) xs → at ≤ cond b at (first_from p (suc at) xs)
      by true h = omega arith
      by false h = omega arith

  pub first_is : (at n : ℕ) (xs : List A) (x : A) → slice_get xs n ≡ Some x → (p x && not (list_any p (take n xs))) ≡ nat_eq (first_from p at xs) (at + n)
  first_is at n [] x e = absurd cc
  first_is at zero (y ∷ xs) x e = by (p y) (ap p (sym (same_Some y x e))) (first_low (suc at) xs)
    where
      by : (b : Bool) → p x ≡ b → suc at ≤ first_from p (suc at) xs → (p x && true) ≡ nat_eq (cond b at (first_from p (suc at) xs)) (at + 0)
      by true h l = ap (λ (b : Bool). b && true) h ∙ sym (eq-eqb at (at + 0) (omega arith))
      by false h l = ap (λ (b : Bool). b && true) h ∙ sym (ne_eqb (first_from p (suc at) xs) (at + 0) (λ z. omega arith))
  first_is at (suc n) (y ∷ xs) x e = by (p y) (first_is (suc at) n xs x e)
    where
      by : (b : Bool) → (p x && not (list_any p (take n xs))) ≡ nat_eq (first_from p (suc at) xs) (suc at + n)
          → (p x && not (b || list_any p (take n xs))) ≡ nat_eq (cond b at (first_from p (suc at) xs)) (at + suc n)
      by true h = and-false (p x) ∙ sym (ne_eqb at (at + suc n) (λ z. omega arith))
      by false h = h ∙ ap (nat_eq (first_from p (suc at) xs)) (let z : suc at + n ≡ at + suc n = omega arith in z)

  last_none : (least at : ℕ) (xs : List A) → list_any p xs ≡ false → last_from p least at xs ≡ least
  last_none least at [] h = refl
  last_none least at (x ∷ xs) h = by (p x) h (λ e. last_none least (suc at) xs e)
    where
      by : (b : Bool) → (b || list_any p xs) ≡ false → (list_any p xs ≡ false → last_from p least (suc at) xs ≡ least) → last_from p (cond b at least) (suc at) xs ≡ least
      by true t r = absurd (false≢true (sym t))
      by false t r = r t

  last_low : (least at : ℕ) (xs : List A) → list_any p xs ≡ true → at ≤ last_from p least at xs
  last_low least at [] h = absurd (false≢true h)
  last_low least at (x ∷ xs) h = by (p x) h (cases_Bool (list_any p xs)) (λ m e. last_low m (suc at) xs e) (λ m e. last_none m (suc at) xs e)
    where
      by : (b : Bool) → (b || list_any p xs) ≡ true → (list_any p xs ≡ true) ⊎ (list_any p xs ≡ false)
          → ((m : ℕ) → list_any p xs ≡ true → suc at ≤ last_from p m (suc at) xs) → ((m : ℕ) → list_any p xs ≡ false → last_from p m (suc at) xs ≡ m)
          → at ≤ last_from p (cond b at least) (suc at) xs
      by b t (inl e) r n = let z = r (cond b at least) e in omega arith
      by true t (inr e) r n = let z = n at e in omega arith
      by false t (inr e) r n = absurd (false≢true (sym e ∙ t))

  pub none_at : (xs : List A) (i : ℕ) (x : A) → slice_get xs i ≡ Some x → list_any p xs ≡ false → p x ≡ false
  none_at [] i x e h = absurd cc
  none_at (y ∷ xs) zero x e h = by (p y) (ap p (sym (same_Some y x e))) h
    where
      by : (b : Bool) → p x ≡ b → (b || list_any p xs) ≡ false → p x ≡ false
      by true s t = absurd (false≢true (sym t))
      by false s t = s
  none_at (y ∷ xs) (suc i) x e h = by (p y) h (λ t. none_at xs i x e t)
    where
      by : (b : Bool) → (b || list_any p xs) ≡ false → (list_any p xs ≡ false → p x ≡ false) → p x ≡ false
      by true t r = absurd (false≢true (sym t))
      by false t r = r t

  pub last_is_at : (least at n : ℕ) (xs : List A) (x : A) → slice_get xs n ≡ Some x → list_any p xs ≡ true → (p x && not (list_any p (drop (suc n) xs))) ≡ nat_eq (last_from p least at xs) (at + n)
  last_is_at least at n [] x e h = absurd cc
  last_is_at least at zero (y ∷ xs) x e h = by (cases_Bool (list_any p xs)) (ap p (sym (same_Some y x e)))
    where
      by : (list_any p xs ≡ true) ⊎ (list_any p xs ≡ false) → p x ≡ p y → (p x && not (list_any p xs)) ≡ nat_eq (last_from p (cond (p y) at least) (suc at) xs) (at + 0)
      by (inl a) s = (λ i. p x && not (a i)) ∙ and-false (p x)
          ∙ sym (ne_eqb (last_from p (cond (p y) at least) (suc at) xs) (at + 0) (let z = last_low (cond (p y) at least) (suc at) xs a in λ w. omega arith))
      by (inr a) s =
          let yes : p y ≡ true = elim (or_cases (p y) (list_any p xs) h) [ inl t ↦ t | inr t ↦ absurd (false≢true (sym a ∙ t)) ] in
          let is : last_from p (cond (p y) at least) (suc at) xs ≡ at + 0 = last_none (cond (p y) at least) (suc at) xs a
          ∙ ap (λ (b : Bool). cond b at least) yes ∙ (let z : at ≡ at + 0 = omega arith in z) in
          (λ i. (s ∙ yes) i && not (a i)) ∙ sym (eq-eqb (last_from p (cond (p y) at least) (suc at) xs) (at + 0) is)
  last_is_at least at (suc n) (y ∷ xs) x e h = by (cases_Bool (list_any p xs)) (λ a. last_is_at (cond (p y) at least) (suc at) n xs x e a)
    where
      by : (list_any p xs ≡ true) ⊎ (list_any p xs ≡ false) → (list_any p xs ≡ true → (p x && not (list_any p (drop (suc n) xs))) ≡ nat_eq (last_from p (cond (p y) at least) (suc at) xs) (suc at + n))
          → (p x && not (list_any p (drop (suc n) xs))) ≡ nat_eq (last_from p (cond (p y) at least) (suc at) xs) (at + suc n)
      by (inl a) r = r a ∙ ap (nat_eq (last_from p (cond (p y) at least) (suc at) xs)) (let z : suc at + n ≡ at + suc n = omega arith in z)
      by (inr a) r =
          let yes : p y ≡ true = elim (or_cases (p y) (list_any p xs) h) [ inl t ↦ t | inr t ↦ absurd (false≢true (sym a ∙ t)) ] in
          let is : last_from p (cond (p y) at least) (suc at) xs ≡ at = last_none (cond (p y) at least) (suc at) xs a ∙ ap (λ (b : Bool). cond b at least) yes in
          let no : p x ≡ false = none_at xs n x e a in
          (λ i. no i && not (list_any p (drop (suc n) xs))) ∙ sym (ne_eqb (last_from p (cond (p y) at least) (suc at) xs) (at + suc n) (λ w. omega arith))
