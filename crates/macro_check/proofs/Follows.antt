-- Following receives back in one table after another.
use Rattle.std.proofs.Common.{◌≡◌, ℕ, zero, suc, ◌+◌, ◌-◌, ◌/◌, ◌<◌, List, ◌∷◌, length, map, refl, sym, ap, subst, arith, ◌∙◌}
use Rattle.std.specs.Prelude.{slice_get}
use Rattle.std.specs.List.{range_with_len}
use Rattle.sequence_build_laws.specs.declared.Program.{Program}
use Rattle.sequence_build_laws.specs.Places.{carried_within}
use Rattle.order_check.specs.declared.carrying.Origin.{Origin}
use Rattle.order_check.specs.declared.carrying.Origin.TheVariants.{Made, Received, Nowhere}
use Rattle.order_check.specs.Carries.{origin, source_from}
use Rattle.order_check.proofs.Kept.{hop}
use Rattle.check_laws.specs.Items.{is_made, made_from}
use Rattle.macro_check.specs.Carrying.{follow, follow_all, further, further_in, is_call, origin_or, source_met}
use Rattle.macro_check.proofs.Told.{made_there}

module _ (p : Program) where
  one_further : (o : Origin) → further o (follow p 0) ≡ o
  one_further (Made v k) = refl
  one_further (Received c) = refl
  one_further Nowhere = refl

  pub follow_one : (b : ℕ) → follow p 1 b ≡ origin p b
  follow_one b = one_further (origin p b)

  -- this many steps, and then this many
  pub follow_sum : (m n b : ℕ) → follow p (m + n) b ≡ further (follow p m b) (follow p n)
  follow_sum zero n b = ap (λ (k : ℕ). follow p k b) (let z : 0 + n ≡ n = omega arith in z)
  follow_sum (suc m) n b = ap (λ (k : ℕ). follow p k b) (let z : suc m + n ≡ suc (m + n) = omega arith in z) ∙ by (origin p b) (λ c. follow_sum m n c)
    where
      by : (o : Origin) → ((c : ℕ) → follow p (m + n) c ≡ further (follow p m c) (follow p n)) → further o (follow p (m + n)) ≡ further (further o (follow p m)) (follow p n)
      by (Made v k) h = refl
      by (Received c) h = h c
      by Nowhere h = refl

  module _ (low : (b c : ℕ) → origin p b ≡ Received c → c < length p.buffers) where
    -- where it ends at a buffer, that is there
    ends_low : (m b c : ℕ) → b < length p.buffers → follow p m b ≡ Received c → c < length p.buffers
    ends_low zero b c l e = let same : b ≡ c = cc in subst (λ (n : ℕ). n < length p.buffers) same l
    ends_low (suc m) b c l e = by (origin p b) refl e (λ d k q. ends_low m d c k q)
      where
        by : (o : Origin) → origin p b ≡ o → further o (follow p m) ≡ Received c → ((d : ℕ) → d < length p.buffers → follow p m d ≡ Received c → c < length p.buffers) → c < length p.buffers
        by (Made v k) q f h = absurd cc
        by (Received d) q f h = h d (low b d q) f
        by Nowhere q f h = absurd cc

    in_table : (n c : ℕ) → c < length p.buffers → origin_or (slice_get (follow_all p n) c) ≡ follow p n c
    in_table n c l = ap origin_or (made_there (follow p n) (length p.buffers) c l)

    step_in : (m n b : ℕ) → b < length p.buffers → further_in (follow_all p n) (follow p m b) ≡ follow p (m + n) b
    step_in m n b l = by (follow p m b) refl ∙ sym (follow_sum m n b)
      where
        by : (o : Origin) → follow p m b ≡ o → further_in (follow_all p n) o ≡ further o (follow p n)
        by (Made v k) e = refl
        by (Received c) e = in_table n c (ends_low m b c l e)
        by Nowhere e = refl

    mapped : (f g : ℕ → Origin) (k : Origin → Origin) (a n : ℕ) → ((b : ℕ) → a < suc b → b < a + n → k (f b) ≡ g b) → map k (map f (range_with_len a n)) ≡ map g (range_with_len a n)
    mapped f g k a zero e = refl
    mapped f g k a (suc n) e =
        let here = e a (omega arith) (omega arith) in
        let rest = mapped f g k (a + 1) n (λ b l m. e b (omega arith) (omega arith)) in
        λ i. here i ∷ rest i

    -- one table after another
    pub joined_is : (m n : ℕ) → map (further_in (follow_all p n)) (follow_all p m) ≡ follow_all p (m + n)
    joined_is m n = mapped (follow p m) (follow p (m + n)) (further_in (follow_all p n)) 0 (length p.buffers) (λ b l k. step_in m n b (omega arith))

  -- the source that is met is the one that is carried, and a call is met where one is
  pub source_is : (n b : ℕ) → source_met (follow p n b) ≡ carried_within p n b
  source_is zero b = refl
  source_is (suc n) b = by (origin p b) (λ c. source_is n c)
      ∙ sym (hop p (suc n) b (omega arith) ∙ ap (λ (k : ℕ). source_from p (carried_within p k) (origin p b)) (let z : suc n - 1 ≡ n = omega arith in z))
    where
      by : (o : Origin) → ((c : ℕ) → source_met (follow p n c) ≡ carried_within p n c) → source_met (further o (follow p n)) ≡ source_from p (carried_within p n) o
      by (Made v k) h = refl
      by (Received c) h = h c
      by Nowhere h = refl

  pub call_is : (n b : ℕ) → is_call (follow p n b) ≡ is_made p n b
  call_is zero b = refl
  call_is (suc n) b = by (origin p b) (λ c. call_is n c)
    where
      by : (o : Origin) → ((c : ℕ) → is_call (follow p n c) ≡ is_made p n c) → is_call (further o (follow p n)) ≡ made_from o (λ c. is_made p n c)
      by (Made v k) h = refl
      by (Received c) h = h c
      by Nowhere h = refl

  -- half as many steps twice, and one more where the number is odd
  pub even_is : ((b c : ℕ) → origin p b ≡ Received c → c < length p.buffers) → (hops : ℕ) (half even : List Origin) → half
      ≡ follow_all p (hops / 2) → even ≡ map (further_in half) half → even ≡ follow_all p (hops / 2 + hops / 2)
  even_is low hops half even h e = e ∙ (λ i. map (further_in (h i)) (h i)) ∙ joined_is low (hops / 2) (hops / 2)

  pub odd_is : ((b c : ℕ) → origin p b ≡ Received c → c < length p.buffers) → (n : ℕ) (first even odd : List Origin) → first
      ≡ follow_all p 1 → even ≡ follow_all p n → odd ≡ map (further_in even) first → odd ≡ follow_all p (1 + n)
  odd_is low n first even odd f h e = e ∙ (λ i. map (further_in (h i)) (f i)) ∙ joined_is low 1 n

  -- where there are no buffers
  pub nothing : (m n : ℕ) → length p.buffers ≡ 0 → follow_all p m ≡ follow_all p n
  nothing m n e = ap (λ (k : ℕ). map (follow p m) (range_with_len 0 k)) e ∙ sym (ap (λ (k : ℕ). map (follow p n) (range_with_len 0 k)) e)
