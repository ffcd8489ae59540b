use Rattle.std.proofs.Common.{◌≡◌, ℕ, ◌≤◌, length}
use Rattle.std.specs.Prelude.{slice_index_or}
use Rattle.pressure_heuristic.proofs.tails.raise_upwards.Given as goal

-- the dates stay low
abbrev pub invariant-loop-op : goal.invariant-loop-op
invariant-loop-op l = record {
  size : length l.dates ≡ length l.vertices;
  low : (v : ℕ) → slice_index_or l.dates v 0 ≤ 2047000000000;
}
