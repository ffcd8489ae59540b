-- How often two tests of one sequence were passed, and how often one test before a place of the turn.
use Rattle.std.proofs.Common.{◌≡◌, ℕ, suc, ◌+◌, ◌*◌, ◌<◌, ◌≤◌, Bool, length, ap, ⊎_elim, arith}
use Rattle.std.proofs.lemmas.Bool.{le-ltb, cases_lt}
use native.Mathlib.Nat.{suc-mul}
use Rattle.std.proofs.Math.Nat.{mul-le-mul_right}
use Rattle.interleavings.specs.Sites.{Code, Site, passes, IsSite, nth, number_of}
use Rattle.interleavings.proofs.Counting.{nth_made}

-- two sites of one sequence
module _ {A : Type 0} (p r : A → Bool) (c : Code A) (x y : Site) (o : IsSite p c x) (u : IsSite r c y) (z : x.early ≡ 0) where
  pub nth_late : (j : ℕ) → nth c x j ≡ number_of c j x.place
  nth_late j = rw (le-ltb j x.early (omega arith)) (ap (λ (i : ℕ). number_of c i x.place) (omega arith))

  pub nth_past : (j : ℕ) → nth c y (j + y.early) ≡ number_of c j y.place
  nth_past j = rw (le-ltb (j + y.early) y.early (omega arith)) (ap (λ (i : ℕ). number_of c i y.place) (omega arith))

  -- the later one is passed no more often, its early passes aside
  pub later_le : x.place ≤ y.place → (n : ℕ) → passes r c n ≤ passes p c n + y.early
  later_le h n = ⊎_elim (λ l. let j : ℕ = passes p c n in
      let a = (nth_made r c y u n (j + y.early)).0 l in let e = nth_past j in let f = nth_late j in
      let b = (nth_made p c x o n j).1 (omega arith) in absurd (omega arith))
      (λ l. l) (cases_lt (passes p c n + y.early) (passes r c n))

  -- the earlier one is passed at most once more
  pub earlier_le : y.early ≡ 0 → x.place < y.place → (n : ℕ) → passes p c n ≤ passes r c n + 1
  earlier_le v h n = ⊎_elim (λ l. let j : ℕ = passes r c n in
      let a = (nth_made p c x o n (j + 1)).0 l in let f = nth_late (j + 1) in let b = o.within in let d = u.within in
      let g : number_of c j y.place < n = omega arith in
      let e = nth_past j in let q : nth c y j ≡ nth c y (j + y.early) = ap (nth c y) (omega arith) in
      let k = (nth_made r c y u n j).1 (omega arith) in absurd (omega arith))
      (λ l. l) (cases_lt (passes r c n + 1) (passes p c n))

-- before place b in reaction k a test was passed k times and its early times, and after its place once more
module _ {A : Type 0} (p : A → Bool) (c : Code A) (x : Site) (o : IsSite p c x) where
  more : (i j : ℕ) → i < j → i * length c.turn + length c.turn ≤ j * length c.turn
  more i j h = let m : suc i * length c.turn ≤ j * length c.turn = mul-le-mul_right (length c.turn) h in omega (arith, suc-mul i (length c.turn))

  pub nth_plus : (j : ℕ) → nth c x (j + x.early) ≡ number_of c j x.place
  nth_plus j = rw (le-ltb (j + x.early) x.early (omega arith)) (ap (λ (i : ℕ). number_of c i x.place) (omega arith))

  pub passes_upto : (k b : ℕ) → b ≤ x.place → passes p c (number_of c k b) ≤ k + x.early
  passes_upto k b h = let n : ℕ = number_of c k b in
      ⊎_elim (λ l. let a = (nth_made p c x o n (k + x.early)).0 l in let e = nth_plus k in absurd (omega arith)) (λ l. l) (cases_lt (k + x.early) (passes p c n))

  pub passes_from : (k b : ℕ) → x.place < b → k + x.early < passes p c (number_of c k b)
  passes_from k b h = let n : ℕ = number_of c k b in (nth_made p c x o n (k + x.early)).1 (let e = nth_plus k in omega arith)

  pub passes_not_past : (k b : ℕ) → b < length c.turn → passes p c (number_of c k b) ≤ k + x.early + 1
  passes_not_past k b h = let n : ℕ = number_of c k b in
      ⊎_elim (λ l. let a = (nth_made p c x o n (k + 1 + x.early)).0 (omega arith) in let e = nth_plus (k + 1) in let m = more k (k + 1) (omega arith) in absurd (omega arith))
      (λ l. l) (cases_lt (k + x.early + 1) (passes p c n))
