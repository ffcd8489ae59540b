-- The ticks that a schedule states, entry by entry, are those of its acts.
use Rattle.std.proofs.Common.{◌≡◌, ◌≢◌, ℕ, zero, suc, ◌+◌, ◌<◌, ◌≤◌, true, List, [], ◌∷◌, ◌++◌, map, take, length, replicate, Option, Some, refl, sym, ap, arith, ◌∙◌, length-append}
use Rattle.std.specs.Prelude.{slice_get, slice_index_or, slice_set, filter}
use Rattle.std.specs.List.{count_by}
use Rattle.std.proofs.lemmas.List.{length-set, length-map, length-replicate, get_or-set_same, get_or-set_other}
use Rattle.std.proofs.lemmas.Option.{same_Some, slice_get-get_or, slice_get_within}
use Rattle.sequence_build_laws.specs.Graph.{Graph}
use Rattle.sequence_build_laws.specs.Archi.{Architecture}
use Rattle.sequence_build_laws.specs.declared.Transfer.{Transfer}
use Rattle.sequence_build_laws.specs.declared.Decision.{Decision}
use Rattle.sequence_build_laws.specs.declared.Schedule.{Schedule}
use Rattle.sequence_build_laws.specs.Acts.{Act, carry, run, acts, acts_of}
use Rattle.sequence_build_laws.specs.ScheduleValid.{is_valid}
use Rattle.sequence_build_laws.proofs.Lists.{tally, counts_tally, filter_at, filter_length, get_before, get_past, map_at}
use Rattle.sequence_build_laws.proofs.Works.{of_run, one_run}
use Rattle.self_timed.specs.Entries.{is_transfer, entry_at, entry_of, stated}
use Rattle.self_timed.proofs.Entered.{is_entry}
use Rattle.self_timed.specs.Told.{entries_of}
use Rattle.self_timed.specs.Stated.{run_ticks, carry_ticks, with_runs, carried_ticks, stated_row}

-- the ticks of operations after these acts
abbrev after_runs : List ℕ → List Act → List ℕ
after_runs row [] = row
after_runs row (carry t ∷ xs) = after_runs row xs
after_runs row (run d ∷ xs) = after_runs (slice_set row d.op (run_ticks d)) xs

past_transfers : (row : List ℕ) (ts : List Transfer) (xs : List Act) → after_runs row (map carry ts ++ xs) ≡ after_runs row xs
past_transfers row [] xs = refl
past_transfers row (t ∷ ts) xs = past_transfers row ts xs

runs_are : (row : List ℕ) (ds : List Decision) → with_runs row ds ≡ after_runs row (acts_of ds)
runs_are row [] = refl
runs_are row (d ∷ ds) = runs_are (slice_set row d.op (run_ticks d)) ds ∙ sym (past_transfers row d.transfers (run d ∷ acts_of ds))

long_runs : (row : List ℕ) (ds : List Decision) → length (with_runs row ds) ≡ length row
long_runs row [] = refl
long_runs row (d ∷ ds) = long_runs (slice_set row d.op (run_ticks d)) ds ∙ length-set row d.op (run_ticks d)

kept : (row : List ℕ) (xs : List Act) (v : ℕ) → ((j : ℕ) (d : Decision) → slice_get xs j ≡ Some (run d) → v ≢ d.op) → slice_index_or (after_runs row xs) v 0 ≡ slice_index_or row v 0
kept row [] v h = refl
kept row (carry t ∷ xs) v h = kept row xs v (λ j d e. h (suc j) d e)
kept row (run d ∷ xs) v h = kept (slice_set row d.op (run_ticks d)) xs v (λ j b e. h (suc j) b e) ∙ get_or-set_other row d.op v (run_ticks d) 0 (h 0 d refl)

same_run : (d b : Decision) → ◌≡◌ {A = Option Act} (Some (run d)) (Some (run b)) → d ≡ b
same_run d b e = ap (λ (x : Act). decision_of x) (same_Some (run d) (run b) e)
  where
    decision_of : Act → Decision
    decision_of (run c) = c
    decision_of (carry t) = d

noted : (row : List ℕ) (xs : List Act) (i : ℕ) (d : Decision) → d.op < length row → slice_get xs i ≡ Some (run d) → ((j : ℕ) (b : Decision) → slice_get xs j ≡ Some (run b) → d.op ≡ b.op → i ≡ j)
    → slice_index_or (after_runs row xs) d.op 0 ≡ run_ticks d
noted row [] i d l e one = absurd cc
noted row (carry t ∷ xs) zero d l e one = absurd cc
noted row (carry t ∷ xs) (suc i) d l e one = noted row xs i d l e (λ j b q s. (let z = one (suc j) b q s in omega arith))
noted row (run c ∷ xs) zero d l e one =
    let is = same_run c d e in
    let other : (j : ℕ) (b : Decision) → slice_get xs j ≡ Some (run b) → d.op ≢ b.op = λ j b q s. (let z = one (suc j) b q s in absurd (omega arith)) in
    kept (slice_set row c.op (run_ticks c)) xs d.op other
    ∙ (λ k. slice_index_or (slice_set row (is k).op (run_ticks (is k))) d.op 0)
    ∙ get_or-set_same row d.op (run_ticks d) 0 l
noted row (run c ∷ xs) (suc i) d l e one =
    noted (slice_set row c.op (run_ticks c)) xs i d (let z = length-set row c.op (run_ticks c) in omega arith) e (λ j b q s. (let z = one (suc j) b q s in omega arith))

carried_more : (ts : List Transfer) (d : Decision) (xs : List Act) → map stated (filter is_transfer (map carry ts ++ (run d ∷ xs))) ≡ map carry_ticks ts ++ map stated (filter is_transfer xs)
carried_more [] d xs = refl
carried_more (t ∷ ts) d xs = ap (λ (l : List ℕ). carry_ticks t ∷ l) (carried_more ts d xs)

carried_are : (ds : List Decision) → carried_ticks ds ≡ map stated (filter is_transfer (acts_of ds))
carried_are [] = refl
carried_are (d ∷ ds) = ap (λ (l : List ℕ). map carry_ticks d.transfers ++ l) (carried_are ds) ∙ sym (carried_more d.transfers d (acts_of ds))

module _ (g : Graph) (a : Architecture) (ticks : ℕ → ℕ → Option ℕ) (s : Schedule) (valid : is_valid g a ticks s ≡ true) where
  runs_long : length (with_runs (replicate (length g.vertices) 0) s.decisions) ≡ length g.vertices
  runs_long = long_runs (replicate (length g.vertices) 0) s.decisions ∙ length-replicate (length g.vertices) 0

  pub row_long : length (stated_row (length g.vertices) s.decisions) ≡ entries_of g s
  row_long =
      let l = runs_long in
      let m = length-append (with_runs (replicate (length g.vertices) 0) s.decisions) (carried_ticks s.decisions) in
      let n = ap length (carried_are s.decisions) in
      let o = length-map (filter is_transfer (acts s)) stated in
      let p = filter_length is_transfer (acts s) in
      let q = counts_tally is_transfer (acts s) in
      omega arith

  -- each entry lasts as its act states
  pub row_at : (i : ℕ) (x : Act) → slice_get (acts s) i ≡ Some x → slice_get (stated_row (length g.vertices) s.decisions) (entry_of g.vertices (acts s) i) ≡ Some (stated x)
  row_at i x e = ap (slice_get (stated_row (length g.vertices) s.decisions)) (is_entry g a ticks s valid i x e) ∙ by x e
    where
      by : (x : Act) → slice_get (acts s) i ≡ Some x
          → slice_get (stated_row (length g.vertices) s.decisions) (entry_at (length g.vertices) (count_by is_transfer (take i (acts s))) x) ≡ Some (stated x)
      by (run d) e =
          let r = of_run g a ticks s valid i d e in
          let low = slice_get_within g.vertices d.op r.vertex r.there in
          let row : List ℕ = replicate (length g.vertices) 0 in
          let many : length row ≡ length g.vertices = length-replicate (length g.vertices) 0 in
          let long = runs_long in
          let at = ap (λ (l : List ℕ). slice_index_or l d.op 0) (runs_are row s.decisions) ∙ noted row (acts s) i d (omega arith) e (λ j b q h. one_run g a ticks s valid i j d b e q h) in
          get_before (with_runs row s.decisions) (carried_ticks s.decisions) d.op (run_ticks d)
          (slice_get-get_or (with_runs row s.decisions) d.op 0 (omega arith) ∙ ap (λ (n : ℕ). Some n) at)
      by (carry t) e =
          let row = with_runs (replicate (length g.vertices) 0) s.decisions in
          let long = runs_long in
          let c = counts_tally is_transfer (take i (acts s)) in
          let place : length g.vertices + count_by is_transfer (take i (acts s)) ≡ length row + tally is_transfer (take i (acts s)) = omega arith in
          ap (slice_get (stated_row (length g.vertices) s.decisions)) place
          ∙ get_past row (carried_ticks s.decisions) (tally is_transfer (take i (acts s)))
          ∙ ap (λ (l : List ℕ). slice_get l (tally is_transfer (take i (acts s)))) (carried_are s.decisions)
          ∙ map_at stated (filter is_transfer (acts s)) (tally is_transfer (take i (acts s))) (carry t) (filter_at is_transfer (acts s) i (carry t) e refl)
