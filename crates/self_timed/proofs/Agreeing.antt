-- Where acts last the same in the first reactions, they have the same dates there.
use Rattle.std.proofs.Common.{◌≡◌, ℕ, ◌+◌, ◌<◌, ◌≤◌, List, Some, sym, ap, ap₂, inl, inr, arith, ◌∙◌}
use Rattle.std.specs.Prelude.{slice_get}
use Rattle.sequence_build_laws.specs.declared.Vertex.{Vertex}
use Rattle.sequence_build_laws.specs.Acts.{Act}
use Rattle.self_timed.specs.Dates.{Event, dates, needs, start_by}
use Rattle.self_timed.proofs.Needs.{needs_are, greatest_same}
use Rattle.self_timed.proofs.Ranks.{by_reaction}
use Rattle.self_timed.proofs.Solution.{are_dates}

module _ (depth : ℕ) (deep : 1 ≤ depth) (vertices : List Vertex) (xs : List Act) (f h : ℕ → ℕ → ℕ) (n : ℕ)
    (same : (k i : ℕ) (x : Act) → k < n → slice_get xs i ≡ Some x → f k i ≡ h k i) where
  abbrev pub Agree : ℕ → ℕ → Type 0
  Agree k i = (x : Act) → k < n → slice_get xs i ≡ Some x → dates depth vertices xs f k i ≡ dates depth vertices xs h k i

  starts_by : (k i : ℕ) → ((j d : ℕ) → j < k → Agree j d) → ((d : ℕ) → d < i → Agree k d) → (x : Act) → k < n → slice_get xs i ≡ Some x
      → start_by depth vertices xs (dates depth vertices xs f) k i x ≡ start_by depth vertices xs (dates depth vertices xs h) k i x
  starts_by k i past now x l e = greatest_same (λ e. dates depth vertices xs f e.reaction e.act) (λ e. dates depth vertices xs h e.reaction e.act) (needs depth vertices xs k i x) each
    where
      each : (r : ℕ) (d : Event) → slice_get (needs depth vertices xs k i x) r ≡ Some d → dates depth vertices xs f d.reaction d.act ≡ dates depth vertices xs h d.reaction d.act
      each r d m = elim (needs_are depth deep vertices xs k i x r d m) [
        | inl w ↦ ap (λ (j : ℕ). dates depth vertices xs f j d.act) w.reaction ∙ now d.act w.less w.it l w.stands ∙ ap (λ (j : ℕ). dates depth vertices xs h j d.act) (sym w.reaction)
        | inr b ↦ (let less = b.less in past d.reaction d.act less b.it (omega arith) b.stands)
      ]

  pub same_ends : (k i : ℕ) → Agree k i
  same_ends = by_reaction Agree (λ k i past now x l e. are_dates depth deep vertices xs f k i x e
      ∙ ap₂ (λ (m o : ℕ). m + o) (starts_by k i past now x l e) (same k i x l e)
      ∙ sym (are_dates depth deep vertices xs h k i x e))

  pub same_starts : (k i : ℕ) (x : Act) → k < n → slice_get xs i ≡ Some x → start_by depth vertices xs (dates depth vertices xs f) k i x ≡ start_by depth vertices xs (dates depth vertices xs h) k i x
  same_starts k i x l e = starts_by k i (λ j d m. same_ends j d) (λ d m. same_ends k d) x l e
