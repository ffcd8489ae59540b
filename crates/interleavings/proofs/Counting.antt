-- The j-th pass of a test that holds at one site is the step `nth`.
use Rattle.std.proofs.Common.{◌≡◌, ℕ, zero, suc, ◌+◌, ◌-◌, ◌*◌, ◌/◌, ◌%◌, ◌<◌, ◌≤◌, ◌⊎◌, Bool, length, refl, ap, subst, inl, inr, ⊎_elim, arith, ◌∙◌}
use Rattle.std.specs.Prelude.{slice_get}
use Rattle.std.proofs.lemmas.Bool.{lt-ltb, le-ltb, cases_lt, cases_eq}
use Rattle.std.proofs.lemmas.Nat.{mod-mul-add, div-add-mod'}
use Rattle.std.proofs.Math.Nat.{mul-le-mul_right}
use native.Mathlib.Nat.{suc-mul, add-suc}
use Rattle.interleavings.specs.Sites.{Code, Site, reaction_at, place_at, step_at, hit, passes, IsSite, number_of, nth}

module _ {A : Type 0} (p : A → Bool) (c : Code A) (x : Site) (o : IsSite p c x) where
  abbrev F : ℕ
  F = length c.prologue

  abbrev L : ℕ
  L = length c.turn

  abbrev a : ℕ
  a = x.place

  abbrev d : ℕ
  d = x.early

  abbrev q : ℕ
  q = x.first

  abbrev Early : ℕ → Type 0
  Early n = (j : ℕ) → j < d → (j < passes p c n → q + j < n) × (q + j < n → j < passes p c n)

  abbrev Late : ℕ → Type 0
  Late n = (j : ℕ) → (j + d < passes p c n → number_of c j a < n) × (number_of c j a < n → j + d < passes p c n)

  in_prologue : (n : ℕ) → n < F → hit p (step_at c n) ≡ hit p (slice_get c.prologue n)
  in_prologue n h = rw (lt-ltb n F h) refl

  in_turn : (n : ℕ) → F ≤ n → hit p (step_at c n) ≡ hit p (slice_get c.turn (place_at c n))
  in_turn n h = rw (le-ltb n F h) refl

  split : (n : ℕ) → F ≤ n → n ≡ F + (reaction_at c n * L + place_at c n)
  split n f = let e : (n - F) / L * L + (n - F) % L ≡ n - F = div-add-mod' (n - F) L in omega arith

  further : (i j : ℕ) → i < j → i * L + L ≤ j * L
  further i j h = let m : suc i * L ≤ j * L = mul-le-mul_right L h in omega (arith, suc-mul i L)

  -- how often the prologue's first n steps passed
  abbrev Front : ℕ → Type 0
  Front n = (n ≤ q → passes p c n ≡ 0) × (q ≤ n → n ≤ q + d → passes p c n + q ≡ n) × (q + d ≤ n → passes p c n ≡ d)

  front_step : (n : ℕ) → n < F → Front n → Front (suc n)
  front_step n h f = by (cases_lt n q) (cases_lt n (q + d))
    where
      e : hit p (step_at c n) ≡ hit p (slice_get c.prologue n)
      e = in_prologue n h

      by : (n < q) ⊎ (q ≤ n) → (n < q + d) ⊎ (q + d ≤ n) → Front (suc n)
      by (inl y) z = let w = o.before_early n y in let g = f.0 (omega arith) in (λ u. omega (arith, e), λ u v. omega (arith, e), λ u. omega (arith, e))
      by (inr y) (inl z) = let w = o.here_early n y z in let g = f.1 y (omega arith) in (λ u. omega (arith, e), λ u v. omega (arith, e), λ u. omega (arith, e))
      by (inr y) (inr z) = let w = o.after_early n z in let g = f.2 z in (λ u. omega (arith, e), λ u v. omega (arith, e), λ u. omega (arith, e))

  front : (n : ℕ) → n ≤ F → Front n
  front zero h = (λ y. refl, λ y z. omega arith, λ y. omega arith)
  front (suc n) h = front_step n h (front n (omega arith))

  -- the step at n is at place a, in reaction k
  at_place : (n k : ℕ) → n ≡ number_of c k a → hit p (step_at c n) ≡ 1 → d ≤ passes p c n → Late n → Late (suc n)
  at_place n k e g low h j = (λ y. forth (omega (arith, g)), λ y. back j y)
    where
      not_past : passes p c n ≤ k + d
      not_past = ⊎_elim (λ y. let z = (h k).0 y in absurd (omega arith)) (λ y. y) (cases_lt (k + d) (passes p c n))

      most : j ≤ k → j * L ≤ k * L
      most l = mul-le-mul_right L l

      forth : j + d ≤ passes p c n → number_of c j a < suc n
      forth l = let m = most (omega (arith, not_past)) in omega arith

      back : (i : ℕ) → number_of c i a < suc n → i + d < passes p c n + hit p (step_at c n)
      back zero y = omega (arith, g)
      back (suc i) y = let w = o.within in
          let l : number_of c i a < n = omega (arith, suc-mul i L) in
          let z = (h i).1 l in omega (arith, g)

  off_place : (n : ℕ) → F ≤ n → (place_at c n ≡ a → ⊥) → hit p (step_at c n) ≡ 0 → Late n → Late (suc n)
  off_place n f ne g h j = (λ y. let z : j + d < passes p c n = omega (arith, g) in let w = (h j).0 z in omega arith, λ y. go y (cases_eq (number_of c j a) n))
    where
      go : number_of c j a < suc n → (number_of c j a ≡ n) ⊎ (number_of c j a ≡ n → ⊥) → j + d < passes p c n + hit p (step_at c n)
      go y (inl e) = let z : n - F ≡ j * L + a = omega arith in
          absurd (ne (ap (λ (i : ℕ). i % L) z ∙ mod-mul-add j L a o.within))
      go y (inr e) = let l : number_of c j a < n = omega arith in let z = (h j).1 l in omega (arith, g)

  late_step : (n : ℕ) → F ≤ n → d ≤ passes p c n → Late n → Late (suc n)
  late_step n f low h = by (cases_eq (place_at c n) a)
    where
      by : (place_at c n ≡ a) ⊎ (place_at c n ≡ a → ⊥) → Late (suc n)
      by (inl e) = at_place n (reaction_at c n) (split n f ∙ ap (λ (i : ℕ). F + (reaction_at c n * L + i)) e)
          (in_turn n f ∙ ap (λ (i : ℕ). hit p (slice_get c.turn i)) e ∙ o.here) low h
      by (inr e) = off_place n f e (in_turn n f ∙ o.only (place_at c n) e) h

  -- both halves of the law past the prologue
  later : (m : ℕ) → (d ≤ passes p c (F + m)) × Late (F + m)
  later zero = let w = o.within_early in let f = (front (F + 0) (omega arith)).2 (omega arith) in
      (omega arith, λ j. (λ y. absurd (omega arith), λ y. absurd (omega arith)))
  later (suc m) = let b = later m in rw add-suc (omega (arith, b.0), late_step (F + m) (omega arith) b.0 b.1)

  pub early : (n : ℕ) → Early n
  early n j h = by (cases_lt F n)
    where
      by : (F < n) ⊎ (n ≤ F) → (j < passes p c n → q + j < n) × (q + j < n → j < passes p c n)
      by (inl f) = let w = o.within_early in let b = (later (n - F)).0 in let e : F + (n - F) ≡ n = omega arith in
          let g : d ≤ passes p c n = subst (λ (i : ℕ). d ≤ passes p c i) e b in (λ y. omega arith, λ y. omega arith)
      by (inr f) = let t = front n f in cases (cases_lt n q) (cases_lt n (q + d))
        where
          cases : (n < q) ⊎ (q ≤ n) → (n < q + d) ⊎ (q + d ≤ n) → (j < passes p c n → q + j < n) × (q + j < n → j < passes p c n)
          cases (inl y) z = let g = (front n f).0 (omega arith) in (λ u. absurd (omega arith), λ u. absurd (omega arith))
          cases (inr y) (inl z) = let g = (front n f).1 y (omega arith) in (λ u. omega arith, λ u. omega arith)
          cases (inr y) (inr z) = let g = (front n f).2 z in (λ u. omega arith, λ u. omega arith)

  pub late : (n : ℕ) → Late n
  late n = by (cases_lt F n)
    where
      by : (F < n) ⊎ (n ≤ F) → Late n
      by (inl f) = let e : F + (n - F) ≡ n = omega arith in subst Late e (later (n - F)).1
      by (inr f) = few (cases_lt n q) (cases_lt n (q + d))
        where
          none : passes p c n ≤ d → Late n
          none g j = (λ y. absurd (omega arith), λ y. absurd (omega arith))

          few : (n < q) ⊎ (q ≤ n) → (n < q + d) ⊎ (q + d ≤ n) → Late n
          few (inl y) z = let g = (front n f).0 (omega arith) in none (omega arith)
          few (inr y) (inl z) = let g = (front n f).1 y (omega arith) in none (omega arith)
          few (inr y) (inr z) = let g = (front n f).2 z in none (omega arith)

  -- the one law: more than j passes were made exactly where the j-th step of the site was
  pub nth_made : (n j : ℕ) → (j < passes p c n → nth c x j < n) × (nth c x j < n → j < passes p c n)
  nth_made n j = by (cases_lt j d)
    where
      by : (j < d) ⊎ (d ≤ j) → (j < passes p c n → nth c x j < n) × (nth c x j < n → j < passes p c n)
      by (inl h) = rw (lt-ltb j d h) (early n j h)
      by (inr h) = rw (le-ltb j d h) (let e : j - d + d ≡ j = omega arith in
          let f = late n (j - d) in (λ y. f.0 (omega (arith, e)), λ y. omega (arith, e, f.1 y)))
