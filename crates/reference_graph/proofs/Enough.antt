-- Paths and depths are followed far enough: what is led to grows with the length of paths, and not more often than there
-- are vertices.
use Rattle.std.proofs.Common.{
  ◌≡◌,
  ℕ,
  zero,
  suc,
  ◌+◌,
  ◌<◌,
  ◌≤◌,
  Bool,
  true,
  false,
  ◌||◌,
  ◌==◌,
  cond,
  ltb,
  List,
  [],
  ◌∷◌,
  length,
  map,
  get_or,
  arith,
  refl,
  sym,
  ap,
  subst,
  ◌∙◌,
  ◌⊎◌,
  inl,
  inr,
  ltb-true,
  ltb-false,
}
use Rattle.std.specs.Prelude.{Some, None, position}
use Rattle.std.specs.List.{list_any, position_or_len, range_with_len}
use Rattle.std.proofs.Math.Dec.{eqb}
use Rattle.std.proofs.lemmas.Bool.{eqb-true, eqb-false}
use Rattle.std.proofs.Math.ListN.{get_or-eq_default}
use Rattle.std.proofs.lemmas.List.Elements.{All-contains}
use Rattle.std.proofs.lemmas.List.FromFn.{get_or-range_with_len, length-range_with_len}
use Rattle.std.proofs.lemmas.List.Sums.{fails_before_first}
use Rattle.reference_graph.specs.Links.{Links, from, leads_within, reaches_itself, first_recursive, depth, depth_within}
use Rattle.reference_graph.specs.Answer.{AreInside, Refers}
use Rattle.reference_graph.proofs.Paths.{longer_to, longer_up, or_left, or_right, passes, refers_within}
use Rattle.reference_graph.proofs.SettledDepths.{same_greatest}
use Rattle.syn_base.specs.Numbers.{greatest}

-- ---- how many numbers below another pass

abbrev one_if : Bool → ℕ
one_if true = 1
one_if false = 0

abbrev passing_below : (ℕ → Bool) → ℕ → ℕ
passing_below p zero = 0
passing_below p (suc n) = passing_below p n + one_if (p n)

one_if_most : (t : Bool) → one_if t ≤ 1
one_if_most true = omega arith
one_if_most false = omega arith

at_most_all : (p : ℕ → Bool) (n : ℕ) → passing_below p n ≤ n
at_most_all p zero = omega arith
at_most_all p (suc n) = omega (arith, at_most_all p n, one_if_most (p n))

one_if_le : (s t : Bool) → (s ≡ true → t ≡ true) → one_if s ≤ one_if t
one_if_le false t h = omega arith
one_if_le true t h = omega (arith, ap one_if (h refl))

Within : (ℕ → Bool) → (ℕ → Bool) → Type 0
Within p q = (b : ℕ) → p b ≡ true → q b ≡ true

no_fewer : (p q : ℕ → Bool) (n : ℕ) → Within p q → passing_below p n ≤ passing_below q n
unfolding Within
no_fewer p q zero h = omega arith
no_fewer p q (suc n) h = omega (arith, no_fewer p q n h, one_if_le (p n) (q n) (h n))

more_by : (p q : ℕ → Bool) (n : ℕ) → Within p q → (b : ℕ) → b < n → p b ≡ false → q b ≡ true → passing_below p n < passing_below q n
unfolding Within
more_by p q zero h b l f t = absurd (omega arith)
more_by p q (suc n) h b l f t = by (eqb b n) refl (λ k. more_by p q n h b k f t)
  where
    by : (same : Bool) → eqb b n ≡ same → (b < n → passing_below p n < passing_below q n) → passing_below p (suc n) < passing_below q (suc n)
    by true e rest =
        let same = eqb-true b n e in
        let here : one_if (p n) ≡ 0 = ap one_if (ap p (sym same) ∙ f) in
        let there : one_if (q n) ≡ 1 = ap one_if (ap q (sym same) ∙ t) in
        omega (arith, here, there, no_fewer p q n h)
    by false e rest =
        let ne = eqb-false b n e in
        omega (arith, rest (omega arith), one_if_le (p n) (q n) (h n))

Differs : (ℕ → Bool) → (ℕ → Bool) → ℕ → Type 0
Differs p q n = (b : ℕ) × (b < n) × (p b ≡ false) × (q b ≡ true)

one_more_same : (p q : ℕ → Bool) (n : ℕ) → ((b : ℕ) → b < n → p b ≡ q b) → p n ≡ q n → (b : ℕ) → b < suc n → p b ≡ q b
one_more_same p q n same here b l = at (eqb b n) refl
  where
    at : (t : Bool) → eqb b n ≡ t → p b ≡ q b
    at true e = let k = eqb-true b n e in subst (λ (x : ℕ). p x ≡ q x) (sym k) here
    at false e = let ne = eqb-false b n e in same b (omega arith)

-- two tests of which one passes where the other does are the same below a number, or differ there
compared : (p q : ℕ → Bool) → Within p q → (n : ℕ) → ((b : ℕ) → b < n → p b ≡ q b) ⊎ Differs p q n
unfolding Within Differs
compared p q h zero = inl (λ b l. absurd (omega arith))
compared p q h (suc n) = by (compared p q h n) (p n) refl (q n) refl
  where
    by : ((b : ℕ) → b < n → p b ≡ q b) ⊎ Differs p q n → (s : Bool) → p n ≡ s → (t : Bool) → q n ≡ t
        → ((b : ℕ) → b < suc n → p b ≡ q b) ⊎ Differs p q (suc n)
    by (inr (b, l, v, w)) s e t f = inr (b, omega arith, v, w)
    by (inl same) false e true f = inr (n, omega arith, e, f)
    by (inl same) true e t f = inl (one_more_same p q n same (e ∙ sym (h n e)))
    by (inl same) false e false f = inl (one_more_same p q n same (e ∙ sym f))

-- ---- paths

same_any : (p q : ℕ → Bool) (xs : List ℕ) → ((c : ℕ) → p c ≡ q c) → list_any p xs ≡ list_any q xs
same_any p q [] same = refl
same_any p q (x ∷ xs) same =
    let here : p x ≡ q x = same x in
    let rest = same_any p q xs same in
    rw (here, rest) refl

no_references : (g : Links) (a : ℕ) → length g ≤ a → from g a ≡ []
no_references g a l = get_or-eq_default g [] l

module _ (g : Links) (b : ℕ) where
  abbrev leads : ℕ → ℕ → Bool
  leads k a = leads_within g k a b

  none_beyond : (k a : ℕ) → length g ≤ a → leads k a ≡ false
  none_beyond zero a l = ap (λ (refs : List ℕ). list_any (λ c. c == b) refs) (no_references g a l)
  none_beyond (suc k) a l =
      let sooner = none_beyond k a l in
      let refs = no_references g a l in
      ap (λ (t : Bool). t || list_any (leads k) (from g a)) sooner ∙ ap (λ (xs : List ℕ). list_any (leads k) xs) refs

  IsStable : ℕ → Type 0
  IsStable k = (a : ℕ) → leads k a ≡ leads (suc k) a

  next_stable : (k : ℕ) → IsStable k → IsStable (suc k)
  unfolding IsStable
  next_stable k same a =
      ap (λ (t : Bool). t || list_any (leads k) (from g a)) (same a)
      ∙ ap (λ (t : Bool). leads (suc k) a || t) (same_any (leads k) (leads (suc k)) (from g a) same)

  grows : (k : ℕ) → Within (leads k) (leads (suc k))
  unfolding Within
  grows k a e = or_left (leads k a) (list_any (leads k) (from g a)) e

  decided : (k : ℕ) → IsStable k ⊎ Differs (leads k) (leads (suc k)) (length g)
  unfolding IsStable
  decided k = by (compared (leads k) (leads (suc k)) (grows k) (length g))
    where
      by : ((a : ℕ) → a < length g → leads k a ≡ leads (suc k) a) ⊎ Differs (leads k) (leads (suc k)) (length g)
          → ((a : ℕ) → leads k a ≡ leads (suc k) a) ⊎ Differs (leads k) (leads (suc k)) (length g)
      by (inr more) = inr more
      by (inl same) = inl (λ a. at a (ltb a (length g)) refl)
        where
          at : (a : ℕ) (t : Bool) → ltb a (length g) ≡ t → leads k a ≡ leads (suc k) a
          at a true e = same a (ltb-true a (length g) e)
          at a false e = none_beyond k a (ltb-false a (length g) e) ∙ sym (none_beyond (suc k) a (ltb-false a (length g) e))

  more_led : (k : ℕ) → Differs (leads k) (leads (suc k)) (length g) → passing_below (leads k) (length g) < passing_below (leads (suc k)) (length g)
  unfolding Differs
  more_led k d = more_by (leads k) (leads (suc k)) (length g) (grows k) d.0 d.1 d.2 d.3

  progress : (k : ℕ) → IsStable k ⊎ (k < passing_below (leads (suc k)) (length g))
  progress zero = by (decided 0)
    where
      by : IsStable 0 ⊎ Differs (leads 0) (leads 1) (length g) → IsStable 0 ⊎ (0 < passing_below (leads 1) (length g))
      by (inl s) = inl s
      by (inr d) = inr (omega (arith, more_led 0 d))
  progress (suc k) = by (progress k) (decided (suc k))
    where
      by : IsStable k ⊎ (k < passing_below (leads (suc k)) (length g)) → IsStable (suc k) ⊎ Differs (leads (suc k)) (leads (suc (suc k))) (length g)
          → IsStable (suc k) ⊎ (suc k < passing_below (leads (suc (suc k))) (length g))
      by (inl s) d = inl (next_stable k s)
      by (inr l) (inl s) = inl s
      by (inr l) (inr d) = inr (omega (arith, l, more_led (suc k) d))

  at_length : IsStable (length g)
  at_length = by (progress (length g))
    where
      by : IsStable (length g) ⊎ (length g < passing_below (leads (suc (length g))) (length g)) → IsStable (length g)
      by (inl s) = s
      by (inr l) = absurd (omega (arith, l, at_most_all (leads (suc (length g))) (length g)))

  stable_on : (j k : ℕ) → IsStable k → (a : ℕ) → leads (j + k) a ≡ leads k a
  unfolding IsStable
  stable_on zero k s a = let e : 0 + k ≡ k = omega arith in ap (λ (n : ℕ). leads n a) e
  stable_on (suc j) k s a =
      let e : suc j + k ≡ j + suc k = omega arith in
      ap (λ (n : ℕ). leads n a) e ∙ stable_on j (suc k) (next_stable k s) a ∙ sym (s a)

  pub enough : (k a : ℕ) → leads_within g k a b ≡ true → leads_within g (length g) a b ≡ true
  enough k a e =
      let on : leads_within g (length g + k) a b ≡ true = longer_up g (length g) k a b e in
      let turned : length g + k ≡ k + length g = omega arith in
      sym (stable_on k (length g) at_length a) ∙ subst (λ (n : ℕ). leads_within g n a b ≡ true) turned on

-- ---- depths

none_returns : (p : ℕ → Bool) (n : ℕ) → position p (range_with_len 0 n) ≡ None → (k : ℕ) → k < n → p k ≡ false
none_returns p n e k l = by (ltb (position_or_len p xs) (length xs)) refl
  where
    xs : List ℕ
    xs = range_with_len 0 n

    by : (t : Bool) → ltb (position_or_len p (range_with_len 0 n)) (length (range_with_len 0 n)) ≡ t → p k ≡ false
    by true f = absurd (let some : position p (range_with_len 0 n)
        ≡ Some (position_or_len p (range_with_len 0 n)) = ap (λ (t : Bool). cond t (Some (position_or_len p (range_with_len 0 n))) None) f in cc)
    by false f =
        let len = length-range_with_len 0 n in
        let end = ltb-false (position_or_len p (range_with_len 0 n)) (length (range_with_len 0 n)) f in
        let at : get_or (range_with_len 0 n) k 0 ≡ k = omega (arith, get_or-range_with_len 0 n k 0 l) in
        ap p (sym at) ∙ fails_before_first p (range_with_len 0 n) k 0 (omega arith)

module _ (g : Links) (inside : AreInside g) (none : (b : ℕ) → b < length g → reaches_itself g b ≡ false) where
  -- how many vertices one leads to
  abbrev led_to : ℕ → ℕ
  led_to a = passing_below (leads_within g (length g) a) (length g)

  inside_of : (a c : ℕ) → a < length g → Refers g a c → c < length g
  inside_of a c l r = All-contains (λ x. x < length g) (from g a) c (inside a [] l) r

  fewer : (a c : ℕ) → a < length g → Refers g a c → led_to c < led_to a
  unfolding Within
  fewer a c l r =
      let below = inside_of a c l r in
      more_by (leads_within g (length g) c) (leads_within g (length g) a) (length g)
      (λ b e. enough g b (suc (length g)) a
      (or_right (leads_within g (length g) a b) (list_any (λ d. leads_within g (length g) d b) (from g a))
      (passes (λ d. leads_within g (length g) d b) (from g a) c r e)))
      c below (none c below) (longer_to g 0 (length g) a c (omega arith) (refers_within g a c r))

  abbrev anything : ℕ → Bool
  anything b = true

  not_all : (a : ℕ) → a < length g → led_to a < length g
  unfolding Within
  not_all a l =
      omega (arith, more_by (leads_within g (length g) a) anything (length g) (λ b e. refl) a l (none a l) refl, at_most_all anything (length g))

  settles : (k a : ℕ) → a < length g → led_to a < k → depth_within g k a ≡ depth_within g (suc k) a
  settles zero a l h = absurd (omega arith)
  settles (suc k) a l h =
      ap suc (same_greatest (depth_within g k) (depth_within g (suc k)) (from g a)
      (λ c r. settles k c (inside_of a c l r) (omega (arith, fewer a c l r, h))))

pub one_deeper : (g : Links) → AreInside g → first_recursive g ≡ None → (a : ℕ) → a < length g → depth g a ≡ suc (greatest (map (depth g) (from g a)))
one_deeper g inside e a l =
    let none = none_returns (reaches_itself g) (length g) e in
    settles g inside none (length g) a l (not_all g inside none a l)
