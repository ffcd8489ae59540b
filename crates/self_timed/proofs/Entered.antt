-- Each entry is that of one act of a valid schedule.
use Rattle.std.proofs.Common.{◌≡◌, ℕ, ◌+◌, ◌<◌, ◌≤◌, true, length, take, Option, Some, refl, sym, ap, inl, inr, arith, ◌∙◌}
use Rattle.std.specs.Prelude.{slice_get, ◌-◌}
use Rattle.std.specs.List.{count_by}
use Rattle.std.proofs.lemmas.Bool.{false≢true, cases_lt}
use Rattle.std.proofs.lemmas.Option.{slice_get_within}
use Rattle.sequence_build_laws.specs.Graph.{Graph}
use Rattle.sequence_build_laws.specs.Archi.{Architecture}
use Rattle.sequence_build_laws.specs.declared.Schedule.{Schedule}
use Rattle.sequence_build_laws.specs.Acts.{Act, carry, run, acts}
use Rattle.sequence_build_laws.specs.ScheduleValid.{is_valid}
use Rattle.sequence_build_laws.proofs.Lists.{tally, counts_tally, tally_same, nth}
use Rattle.sequence_build_laws.proofs.Works.{placed, of_run, one_run}
use Rattle.self_timed.specs.Dates.{with_act}
use Rattle.self_timed.specs.Entries.{is_transfer, entry_at, entry_of}

module _ (g : Graph) (a : Architecture) (ticks : ℕ → ℕ → Option ℕ) (s : Schedule) (valid : is_valid g a ticks s ≡ true) where
  pub is_entry : (i : ℕ) (x : Act) → slice_get (acts s) i ≡ Some x → entry_of g.vertices (acts s) i ≡ entry_at (length g.vertices) (count_by is_transfer (take i (acts s))) x
  is_entry i x e = ap (λ (o : Option Act). with_act o (entry_at (length g.vertices) (count_by is_transfer (take i (acts s))))) e

  pub there : (e : ℕ) → e < length g.vertices + count_by is_transfer (acts s) → (i : ℕ) × (x : Act) × (slice_get (acts s) i ≡ Some x) × (entry_of g.vertices (acts s) i ≡ e)
  there e l = elim (cases_lt e (length g.vertices)) [
    | inl h ↦ (let r = placed g a ticks s valid e h in (r.0, run r.1, r.2, is_entry r.0 (run r.1) r.2 ∙ r.3))
    | inr h ↦ (let c = counts_tally is_transfer (acts s) in let n = nth is_transfer (acts s) (e - length g.vertices) (omega arith) in
        (n.at, n.it, n.stands, is_entry n.at n.it n.stands ∙ by n.at n.it n.passes n.number h))
  ]
    where
      by : (i : ℕ) (x : Act) → is_transfer x ≡ true → tally is_transfer (take i (acts s)) ≡ e - length g.vertices → length g.vertices ≤ e
          → entry_at (length g.vertices) (count_by is_transfer (take i (acts s))) x ≡ e
      by i (carry t) p n h = let c = counts_tally is_transfer (take i (acts s)) in omega arith
      by i (run d) p n h = absurd (false≢true p)

  pub one : (i j : ℕ) (x y : Act) → slice_get (acts s) i ≡ Some x → slice_get (acts s) j ≡ Some y → entry_of g.vertices (acts s) i ≡ entry_of g.vertices (acts s) j → i ≡ j
  one i j x y e h same = by x y e h (sym (is_entry i x e) ∙ same ∙ is_entry j y h)
    where
      by : (x y : Act) → slice_get (acts s) i ≡ Some x → slice_get (acts s) j ≡ Some y
          → entry_at (length g.vertices) (count_by is_transfer (take i (acts s))) x
          ≡ entry_at (length g.vertices) (count_by is_transfer (take j (acts s))) y → i ≡ j
      by (run d) (run b) e h q = one_run g a ticks s valid i j d b e h q
      by (carry t) (carry u) e h q = let c = counts_tally is_transfer (take i (acts s)) in
          let d = counts_tally is_transfer (take j (acts s)) in tally_same is_transfer (acts s) i j (carry t) (carry u) e h refl refl (omega arith)
      by (run d) (carry u) e h q = let r = of_run g a ticks s valid i d e in let l = slice_get_within g.vertices d.op r.vertex r.there in absurd (omega arith)
      by (carry t) (run b) e h q = let r = of_run g a ticks s valid j b h in let l = slice_get_within g.vertices b.op r.vertex r.there in absurd (omega arith)
