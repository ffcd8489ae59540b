-- A walk over blocks, one after the other, that counts what passes.
use Rattle.std.proofs.Common.{◌≡◌, ℕ, zero, suc, ◌+◌, ◌-◌, ◌<◌, Bool, true, false, cond, List, [], ◌∷◌, ◌++◌, length, refl, sym, ap, subst, arith, add-zero, ◌∙◌, inl, inr}
use Rattle.std.specs.Prelude.{Option, Some, None}
use Rattle.std.specs.List.{flat_map, range_with_len}
use Rattle.std.specs.Cmp.Derive.{both_true}
use Rattle.std.proofs.lemmas.Bool.{and_parts, cases_lt}
use Rattle.std.proofs.lemmas.List.Concat.{flat_map-cons}
use Rattle.executive_program.specs.Blocks.{blocks}
use Rattle.program_walks.specs.Walks.{all_at, passed}

module _ {X : Type 0} (test : ℕ → X → Bool) where
  -- the walk goes on over this list from where it stands
  abbrev pub after : Option ℕ → List X → Option ℕ
  after None ys = None
  after (Some k) ys = passed test k ys

  -- a walk over two lists is a walk over the first, and then over the second
  pub passed_append : (n : ℕ) (xs ys : List X) → passed test n (xs ++ ys) ≡ after (passed test n xs) ys
  passed_append n [] ys = refl
  passed_append n (x ∷ xs) ys = by (test n x) (passed_append (n + 1) xs ys)
    where
      by : (b : Bool) → passed test (n + 1) (xs ++ ys) ≡ after (passed test (n + 1) xs) ys → cond b (passed test (n + 1) (xs ++ ys)) None ≡ after (cond b (passed test (n + 1) xs) None) ys
      by true rest = rest
      by false rest = refl

  module _ (f : ℕ → List X) where
    -- after the blocks before it, the walk over a block decides
    pub block_passed : (b k : ℕ) (o : Option ℕ) → passed test 0 (blocks f b) ≡ Some k → passed test k (f b) ≡ o → passed test 0 (blocks f (suc b)) ≡ o
    block_passed b k o h e = passed_append 0 (blocks f b) (f b) ∙ (ap (λ (z : Option ℕ). after z (f b)) h ∙ e)

    -- where it stops in one block, it stops in all together
    pub block_stops : (n b k : ℕ) → b < n → passed test 0 (blocks f b) ≡ Some k → passed test k (f b) ≡ None → passed test 0 (blocks f n) ≡ None
    block_stops zero b k l h e = absurd (omega arith)
    block_stops (suc n) b k l h e = elim (cases_lt b n) [
      | inl before ↦ passed_append 0 (blocks f n) (f n) ∙ ap (λ (z : Option ℕ). after z (f n)) (block_stops n b k before h e)
      | inr here ↦ (let same : b ≡ n = omega (arith, l, here) in subst (λ (m : ℕ). passed test 0 (blocks f (suc m)) ≡ None) same (block_passed b k None h e))
    ]

    range_step : (o n : ℕ) → o < n → range_with_len o (n - o) ≡ o ∷ range_with_len (o + 1) (n - (o + 1))
    range_step o n l = let e : n - o ≡ suc (n - (o + 1)) = omega arith in ap (range_with_len o) e

    -- one block of those from o to n - 1
    pub range_passed : (o n k : ℕ) (z : Option ℕ) → o < n → passed test k (f o) ≡ z → passed test k (flat_map f (range_with_len o (n - o)))
        ≡ after z (flat_map f (range_with_len (o + 1) (n - (o + 1))))
    range_passed o n k z l e =
        ap (λ (ms : List ℕ). passed test k (flat_map f ms)) (range_step o n l)
        ∙ (ap (λ (xs : List X). passed test k xs) (flat_map-cons f o (range_with_len (o + 1) (n - (o + 1))))
        ∙ (passed_append k (f o) (flat_map f (range_with_len (o + 1) (n - (o + 1))))
        ∙ ap (λ (z : Option ℕ). after z (flat_map f (range_with_len (o + 1) (n - (o + 1))))) e))

  -- what passed did so at each element, and this many
  pub passed_all : (n k : ℕ) (xs : List X) → passed test n xs ≡ Some k → (all_at test n xs ≡ true) × (k ≡ n + length xs)
  passed_all n k [] h = let same : n ≡ k = cc in (refl, omega (arith, same))
  passed_all n k (x ∷ xs) h = by (test n x) refl h (λ e. passed_all (n + 1) k xs e)
    where
      by : (b : Bool) → test n x ≡ b → cond b (passed test (n + 1) xs) None ≡ Some k → (passed test (n + 1) xs ≡ Some k → (all_at test (n + 1) xs ≡ true) × (k ≡ n + 1 + length xs))
          → (all_at test n (x ∷ xs) ≡ true) × (k ≡ n + length (x ∷ xs))
      by true e h rest = let r = rest h in (both_true e r.0, omega (arith, r.1))
      by false e h rest = absurd (cc)

  -- where the test passes at each element, the walk ends after the last
  pub all_passed : (n : ℕ) (xs : List X) → all_at test n xs ≡ true → passed test n xs ≡ Some (n + length xs)
  all_passed n [] h = ap (λ (k : ℕ). Some k) (sym (add-zero n))
  all_passed n (x ∷ xs) h =
      let parts = and_parts (test n x) (all_at test (n + 1) xs) h in
      let behind : n + 1 + length xs ≡ n + length (x ∷ xs) = omega arith in
      ap (λ (b : Bool). cond b (passed test (n + 1) xs) None) parts.0 ∙ (all_passed (n + 1) xs parts.1 ∙ ap (λ (k : ℕ). Some k) behind)
