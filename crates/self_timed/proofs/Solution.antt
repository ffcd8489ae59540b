-- The equations of the dates have one solution.
use Rattle.std.proofs.Common.{◌≡◌, ℕ, zero, suc, ◌+◌, ◌*◌, ◌<◌, ◌≤◌, List, length, Option, Some, None, refl, sym, ap, inl, inr, arith, ◌∙◌}
use Rattle.std.specs.Prelude.{slice_get}
use Rattle.std.proofs.lemmas.Nat.{row_fits}
use Rattle.std.proofs.lemmas.Option.{slice_get_within}
use Rattle.sequence_build_laws.specs.declared.Vertex.{Vertex}
use Rattle.sequence_build_laws.specs.Acts.{Act}
use Rattle.sequence_build_laws.proofs.Lists.{get_some}
use Rattle.self_timed.specs.Dates.{Event, with_act, needs, start_by, AreDates, ends_within, dates}
use Rattle.self_timed.proofs.Needs.{needs_are, greatest_same}
use Rattle.self_timed.proofs.Ranks.{by_reaction}

module _ (depth : ℕ) (deep : 1 ≤ depth) (vertices : List Vertex) (xs : List Act) (lasts : ℕ → ℕ → ℕ) where
  rank : ℕ → ℕ → ℕ
  rank k i = k * length xs + i

  abbrev within : ℕ → ℕ → ℕ → ℕ
  within = ends_within depth vertices xs lasts

  lower : (k i : ℕ) (x : Act) (r : ℕ) (e : Event) → slice_get (needs depth vertices xs k i x) r ≡ Some e → e.reaction * length xs + e.act < k * length xs + i
  lower k i x r e m = elim (needs_are depth deep vertices xs k i x r e m) [
    | inl n ↦ (let same = ap (λ (j : ℕ). j * length xs) n.reaction in let less = n.less in omega arith)
    | inr p ↦ (let fits = row_fits e.reaction (length xs) k (length xs) p.less (omega arith) in let less = slice_get_within xs e.act p.it p.stands in omega arith)
  ]

  -- more fuel than the rank changes nothing
  fuel : (f h k i : ℕ) → k * length xs + i < f → k * length xs + i < h → within f k i ≡ within h k i
  fuel zero h k i l m = absurd (omega arith)
  fuel (suc f) zero k i l m = absurd (omega arith)
  fuel (suc f) (suc h) k i l m = by (λ x r e q. let z = lower k i x r e q in fuel f h e.reaction e.act (omega arith) (omega arith)) (slice_get xs i)
    where
      by : ((x : Act) (r : ℕ) (e : Event) → slice_get (needs depth vertices xs k i x) r ≡ Some e → within f e.reaction e.act ≡ within h e.reaction e.act)
          → (o : Option Act) → with_act o (λ x. start_by depth vertices xs (λ j d. within f j d) k i x + lasts k i)
          ≡ with_act o (λ x. start_by depth vertices xs (λ j d. within h j d) k i x + lasts k i)
      by each None = refl
      by each (Some x) = ap (λ (n : ℕ). n + lasts k i) (greatest_same (λ e. within f e.reaction e.act) (λ e. within h e.reaction e.act) (needs depth vertices xs k i x) (each x))

  pub are_dates : AreDates depth vertices xs lasts (dates depth vertices xs lasts)
  are_dates k i x e =
      ap (λ (o : Option Act). with_act o (λ x. start_by depth vertices xs (λ j d. within (k * length xs + i) j d) k i x + lasts k i)) e
      ∙ ap (λ (n : ℕ). n + lasts k i) (greatest_same (λ e. within (k * length xs + i) e.reaction e.act) (λ e. dates depth vertices xs lasts e.reaction e.act) (needs depth vertices xs k i x)
      (λ r e q. let z = lower k i x r e q in fuel (k * length xs + i) (suc (e.reaction * length xs + e.act)) e.reaction e.act z (omega arith)))

  -- two solutions are the same
  pub one_solution : (f h : ℕ → ℕ → ℕ) → AreDates depth vertices xs lasts f → AreDates depth vertices xs lasts h → (k i : ℕ) (x : Act) → slice_get xs i ≡ Some x → f k i ≡ h k i
  one_solution f h p q = by_reaction (λ k i. (x : Act) → slice_get xs i ≡ Some x → f k i ≡ h k i) step
    where
      step : (k i : ℕ) → ((j d : ℕ) → j < k → (x : Act) → slice_get xs d ≡ Some x → f j d ≡ h j d)
          → ((d : ℕ) → d < i → (x : Act) → slice_get xs d ≡ Some x → f k d ≡ h k d) → (x : Act) → slice_get xs i ≡ Some x → f k i ≡ h k i
      step k i past now x e = p k i x e ∙ ap (λ (n : ℕ). n + lasts k i) (greatest_same (λ e. f e.reaction e.act) (λ e. h e.reaction e.act) (needs depth vertices xs k i x) each) ∙ sym (q k i x e)
        where
          each : (r : ℕ) (d : Event) → slice_get (needs depth vertices xs k i x) r ≡ Some d → f d.reaction d.act ≡ h d.reaction d.act
          each r d m = elim (needs_are depth deep vertices xs k i x r d m) [
            | inl n ↦ ap (λ (j : ℕ). f j d.act) n.reaction ∙ now d.act n.less n.it n.stands ∙ ap (λ (j : ℕ). h j d.act) (sym n.reaction)
            | inr b ↦ past d.reaction d.act b.less b.it b.stands
          ]

  pub one : (ends : ℕ → ℕ → ℕ) → AreDates depth vertices xs lasts ends → (k i : ℕ) → i < length xs → ends k i ≡ dates depth vertices xs lasts k i
  one ends p k i l = let x = get_some xs i l in one_solution ends (dates depth vertices xs lasts) p are_dates k i x.0 x.1
