-- Paths: what holds of the references of a vertex, and of theirs, holds of all that it leads to.
use Rattle.std.proofs.Common.{
  ◌≡◌,
  ℕ,
  zero,
  suc,
  ◌+◌,
  ◌<◌,
  ◌≤◌,
  Bool,
  true,
  false,
  ◌||◌,
  ◌-◌,
  cond,
  List,
  [],
  ◌∷◌,
  length,
  get_or,
  arith,
  refl,
  sym,
  ap,
  subst,
  ◌∙◌,
  ◌⊎◌,
  inl,
  inr,
  eq-eqb,
  lt-ltb,
  le-ltb,
}
use Rattle.std.specs.Prelude.{◌==◌, Contains, Some, None, position}
use Rattle.std.specs.List.{list_any, position_or_len, range_with_len}
use Rattle.std.proofs.lemmas.List.FromFn.{get_or-range_with_len, length-range_with_len}
use Rattle.std.proofs.lemmas.List.Sums.{position_or_len_is}
use Rattle.std.proofs.lemmas.Bool.{eqb-true}
use Rattle.reference_graph.specs.Links.{Links, from, leads_within}
use Rattle.reference_graph.specs.Answer.{Refers}

pub any_parts : (x y : Bool) → (x || y) ≡ true → (x ≡ true) ⊎ (y ≡ true)
any_parts true y e = inl refl
any_parts false y e = inr e

pub or_right : (x y : Bool) → y ≡ true → (x || y) ≡ true
or_right true y e = refl
or_right false y e = e

pub or_left : (x y : Bool) → x ≡ true → (x || y) ≡ true
or_left true y e = refl
or_left false y e = absurd (cc)

-- an element that passes
pub passing : (p : ℕ → Bool) (xs : List ℕ) → list_any p xs ≡ true → (x : ℕ) × Contains xs x × (p x ≡ true)
passing p [] e = absurd (cc)
passing p (x ∷ xs) e =
    elim (any_parts (p x) (list_any p xs) e) [
      | inl here ↦ (x, (0, omega arith, refl), here)
      | inr later ↦ let r = passing p xs later in (r.0, (suc r.1.0, omega (arith, r.1.1), r.1.2), r.2)
    ]

pub passes : (p : ℕ → Bool) (xs : List ℕ) (x : ℕ) → Contains xs x → p x ≡ true → list_any p xs ≡ true
passes p [] x h e = absurd (omega (arith, h.1))
passes p (y ∷ xs) x (zero, below, same) e = or_left (p y) (list_any p xs) (subst (λ (z : ℕ). p z ≡ true) (sym same) e)
passes p (y ∷ xs) x (suc k, below, same) e = or_right (p y) (list_any p xs) (passes p xs x (k, omega arith, same) e)

module _ (g : Links) (P : ℕ → Type 0) (r : ℕ → ℕ) (falls : (a b : ℕ) → P a → Refers g a b → P b × (r b ≤ r a)) where
  -- what is led to has the property, and a rank below one that is above those of all references
  pub arrives : (k a b m : ℕ) → ((c : ℕ) → Refers g a c → P c × (r c < m)) → leads_within g k a b ≡ true → P b × (r b < m)
  arrives zero a b m start e =
      let c = passing (λ c. c == b) (from g a) e in
      let same : c.0 ≡ b = eqb-true c.0 b c.2 in
      subst (λ (x : ℕ). P x × (r x < m)) same (start c.0 c.1)
  arrives (suc k) a b m start e = by (any_parts (leads_within g k a b) (list_any (λ c. leads_within g k c b) (from g a)) e) (arrives k)
    where
      by : (leads_within g k a b ≡ true) ⊎ (list_any (λ c. leads_within g k c b) (from g a) ≡ true)
          → ((x y n : ℕ) → ((c : ℕ) → Refers g x c → P c × (r c < n)) → leads_within g k x y ≡ true → P y × (r y < n)) → P b × (r b < m)
      by (inl sooner) before = before a b m start sooner
      by (inr now) before =
          let c = passing (λ c. leads_within g k c b) (from g a) now in
          let first = start c.0 c.1 in
          let rest = before c.0 b (r c.0 + 1) (λ d ref. let f = falls c.0 d first.0 ref in (f.0, omega (arith, f.1))) c.2 in
          (rest.0, omega (arith, rest.1, first.1))

  -- where each reference of a vertex has a lower rank, the vertex does not come back
  pub no_return : (k a : ℕ) → ((c : ℕ) → Refers g a c → P c × (r c < r a)) → leads_within g k a a ≡ false
  no_return k a start = by (leads_within g k a a) refl
    where
      by : (t : Bool) → leads_within g k a a ≡ t → leads_within g k a a ≡ false
      by false e = e
      by true e = absurd (omega (arith, (arrives k a a (r a) start e).1))

pub refers_within : (g : Links) (a b : ℕ) → Refers g a b → leads_within g 0 a b ≡ true
refers_within g a b ref = passes (λ c. c == b) (from g a) b ref (eq-eqb b b refl)

next : (g : Links) (k a b c : ℕ) → leads_within g k a b ≡ true → Refers g b c → leads_within g (suc k) a c ≡ true
next g zero a b c e ref =
    let x = passing (λ d. d == b) (from g a) e in
    let same : x.0 ≡ b = eqb-true x.0 b x.2 in
    let on : leads_within g 0 x.0 c ≡ true = refers_within g x.0 c (subst (λ (y : ℕ). Refers g y c) (sym same) ref) in
    or_right (leads_within g 0 a c) (list_any (λ d. leads_within g 0 d c) (from g a)) (passes (λ d. leads_within g 0 d c) (from g a) x.0 x.1 on)
next g (suc k) a b c e ref = by (any_parts (leads_within g k a b) (list_any (λ d. leads_within g k d b) (from g a)) e) (λ x h. next g k x b c h ref)
  where
    by : (leads_within g k a b ≡ true) ⊎ (list_any (λ d. leads_within g k d b) (from g a) ≡ true)
        → ((x : ℕ) → leads_within g k x b ≡ true → leads_within g (suc k) x c ≡ true) → leads_within g (suc (suc k)) a c ≡ true
    by (inl sooner) on = or_left (leads_within g (suc k) a c) (list_any (λ d. leads_within g (suc k) d c) (from g a)) (on a sooner)
    by (inr now) on =
        let x = passing (λ d. leads_within g k d b) (from g a) now in
        or_right (leads_within g (suc k) a c) (list_any (λ d. leads_within g (suc k) d c) (from g a)) (passes (λ d. leads_within g (suc k) d c) (from g a) x.0 x.1 (on x.0 x.2))

-- by one reference more
pub one_more : (g : Links) (k a b c : ℕ) → leads_within g k a b ≡ true → Refers g b c → leads_within g (k + 1) a c ≡ true
one_more g k a b c e ref = let s : k + 1 ≡ suc k = omega arith in subst (λ (n : ℕ). leads_within g n a c ≡ true) (sym s) (next g k a b c e ref)

-- on longer paths as well
pub longer : (g : Links) (k a b : ℕ) → leads_within g k a b ≡ true → leads_within g (k + 1) a b ≡ true
longer g k a b e =
    let s : k + 1 ≡ suc k = omega arith in
    subst (λ (n : ℕ). leads_within g n a b ≡ true) (sym s) (or_left (leads_within g k a b) (list_any (λ c. leads_within g k c b) (from g a)) e)

pub longer_up : (g : Links) (n k a b : ℕ) → leads_within g k a b ≡ true → leads_within g (n + k) a b ≡ true
longer_up g zero k a b e = let s : 0 + k ≡ k = omega arith in subst (λ (m : ℕ). leads_within g m a b ≡ true) (sym s) e
longer_up g (suc n) k a b e =
    let s : suc n + k ≡ (n + k) + 1 = omega arith in
    subst (λ (m : ℕ). leads_within g m a b ≡ true) (sym s) (longer g (n + k) a b (longer_up g n k a b e))

pub longer_to : (g : Links) (k n a b : ℕ) → k ≤ n → leads_within g k a b ≡ true → leads_within g n a b ≡ true
longer_to g k n a b l e = let s : (n - k) + k ≡ n = omega arith in subst (λ (m : ℕ). leads_within g m a b ≡ true) s (longer_up g (n - k) k a b e)

-- the first number that passes
pub first_is : (p : ℕ → Bool) (n i : ℕ) → i < n → p i ≡ true → ((k : ℕ) → k < i → p k ≡ false) → position p (range_with_len 0 n) ≡ Some i
first_is p n i below here none =
    let len : length (range_with_len 0 n) ≡ n = length-range_with_len 0 n in
    let at : (k : ℕ) → k < n → get_or (range_with_len 0 n) k 0 ≡ k = λ k l. omega (arith, get_or-range_with_len 0 n k 0 l) in
    let place : position_or_len p (range_with_len 0 n) ≡ i =
    position_or_len_is p (range_with_len 0 n) i 0 (omega (arith, len, below)) (λ k l. ap p (at k (omega (arith, l, below))) ∙ none k l) (λ _. ap p (at i below) ∙ here) in
    rw (place, len) (ap (λ (t : Bool). cond t (Some i) None) (lt-ltb i n below))

pub none_is : (p : ℕ → Bool) (n : ℕ) → ((k : ℕ) → k < n → p k ≡ false) → position p (range_with_len 0 n) ≡ None
none_is p n none =
    let len : length (range_with_len 0 n) ≡ n = length-range_with_len 0 n in
    let at : (k : ℕ) → k < n → get_or (range_with_len 0 n) k 0 ≡ k = λ k l. omega (arith, get_or-range_with_len 0 n k 0 l) in
    let place : position_or_len p (range_with_len 0 n) ≡ n =
    position_or_len_is p (range_with_len 0 n) n 0 (omega (arith, len)) (λ k l. ap p (at k l) ∙ none k l) (λ h. absurd (omega (arith, h, len))) in
    rw (place, len) (ap (λ (t : Bool). cond t (Some n) None) (le-ltb n n (omega arith)))
