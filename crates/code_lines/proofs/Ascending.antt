-- Numbers that ascend: one more above the last one, and which numbers are among them.
use Rattle.std.proofs.Common.{
  ◌≡◌,
  ℕ,
  zero,
  suc,
  ◌+◌,
  ◌-◌,
  ◌≤◌,
  ◌<◌,
  Bool,
  true,
  false,
  ◌&&◌,
  List,
  [],
  ◌∷◌,
  ◌++◌,
  length,
  get_or,
  Option,
  Result,
  Ok,
  Err,
  nat_eq,
  nat_le,
  refl,
  sym,
  subst,
  ◌∙◌,
  arith,
  inl,
  inr,
}
use Rattle.std.specs.Prelude.{is_ok, MatchResult}
use Rattle.std.specs.List.Sorted.{IsNonDecreasing, IsBinarySearchResult}
use Rattle.std.specs.Ordering.{nat_cmp}
use Rattle.std.proofs.lemmas.Bool.{cases_lt, eq-eqb, eqb-true, false_from_ne_true, leb-true, ltb-true}
use Rattle.std.proofs.lemmas.List.{get_or_default}
use Rattle.std.proofs.lemmas.Option.{slice_get-get_or}
use Rattle.std.proofs.lemmas.List.Folds.{list_any_at, list_any_none}
use Rattle.std.proofs.lemmas.List.Sorted.{IsNonDecreasingBy-push, searched}
use Rattle.executive_program.specs.Archi.{ascends_from}
use Rattle.macro_code.specs.ReadText.{follows, is_among, last_of}

-- each is at least this, and none is below one before it
record Rises (least : ℕ) (xs : List ℕ) : Type 0 where
  pub least_of : (k d : ℕ) → k < length xs → least ≤ get_or xs k d
  pub order : IsNonDecreasing xs

both : (b c : Bool) → (b && c) ≡ true → (b ≡ true) × (c ≡ true)
both true c h = (refl, h)
both false c h = cc

rising : (least : ℕ) (xs : List ℕ) → ascends_from least xs ≡ true → Rises least xs
rising least [] h = record { least_of = λ k d l. omega (arith, l); order = λ i j d l m. omega (arith, m) }
rising least (x ∷ xs) h =
    let first = both (nat_le least x) (ascends_from (x + 1) xs) h in
    let low = leb-true least x first.0 in
    let rest = rising (x + 1) xs first.1 in
    record { least_of = at low rest; order = ordered rest }
  where
    at : least ≤ x → Rises (x + 1) xs → (k d : ℕ) → k < length (x ∷ xs) → least ≤ get_or (x ∷ xs) k d
    at low rest zero d l = low
    at low rest (suc k) d l = let far = rest.least_of k d (omega (arith, l)) in omega (arith, low, far)

    ordered : Rises (x + 1) xs → IsNonDecreasing (x ∷ xs)
    ordered rest zero zero d l m = omega arith
    ordered rest zero (suc j) d l m = let far = rest.least_of j d (omega (arith, m)) in omega (arith, far)
    ordered rest (suc i) zero d l m = absurd (omega (arith, l))
    ordered rest (suc i) (suc j) d l m = rest.order i j d (omega (arith, l)) (omega (arith, m))

-- numbers of which each is above the one before it do not fall
pub ascending : (xs : List ℕ) → ascends_from 0 xs ≡ true → IsNonDecreasing xs
ascending xs h = (rising 0 xs h).order

-- nor do they with one more that is above the last one
pub pushed : (xs : List ℕ) (x : ℕ) → IsNonDecreasing xs → follows (last_of xs) x ≡ true → IsNonDecreasing (xs ++ x ∷ [])
pushed xs x order above = IsNonDecreasingBy-push (λ n. n) xs x order (λ d some.
    let last = slice_get-get_or xs (length xs - 1) d (omega (arith, some)) in
    let less = ltb-true (get_or xs (length xs - 1) d) x (subst (λ (o : Option ℕ). follows o x ≡ true) last above) in
    omega (arith, less))

-- halving finds exactly the numbers that are among them
pub found : (xs : List ℕ) (x : ℕ) (r : Result ℕ ℕ) → IsNonDecreasing xs → IsBinarySearchResult (λ y. nat_cmp y x) xs r → is_ok r ≡ is_among xs x
found xs x r order h = by r (searched xs x r h (λ i j l m. order i j 0 l m))
  where
    by : (q : Result ℕ ℕ)
        → MatchResult q (λ i. (i < length xs) × (get_or xs i 0 ≡ x)) (λ i. (i ≤ length xs) × ((k : ℕ) → k < i → get_or xs k 0 < x) × ((k : ℕ) → i ≤ k → k < length xs → x < get_or xs k 0))
        → is_ok q ≡ is_among xs x
    by (Ok i) at = sym (list_any_at (λ k. nat_eq k x) xs i 0 at.0 (eq-eqb (get_or xs i 0) x at.1))
    by (Err i) apart = sym (list_any_none (λ k. nat_eq k x) xs (λ k d l. false_from_ne_true (nat_eq (get_or xs k d) x) (λ e.
        let here : get_or xs k 0 ≡ x = get_or_default xs k 0 d l ∙ eqb-true (get_or xs k d) x e in
        elim (cases_lt k i) [
          | inl below ↦ let less = apart.1 k below in omega (arith, here, less)
          | inr above ↦ let more = apart.2 k above l in omega (arith, here, more)
        ])))
