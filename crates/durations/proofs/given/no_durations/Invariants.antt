use Rattle.std.proofs.Common.{◌≡◌, ℕ, [], length}
use Rattle.std.specs.Prelude.{slice_index_or}
use Rattle.durations.proofs.given.no_durations.Given as goal

abbrev pub invariant-loop : goal.invariant-loop
invariant-loop l = (length l.found.items ≡ l.counter) × ((o : ℕ) → slice_index_or l.found.items o [] ≡ [])
