use Rattle.std.proofs.Common.{◌≡◌, ℕ, ◌≤◌, length}
use Rattle.std.specs.Prelude.{slice_index_or}
use Rattle.pressure_heuristic.proofs.tails.all_tails.Given as goal

-- the dates stay low
abbrev pub invariant-loop-turn : goal.invariant-loop-turn
invariant-loop-turn l = record {
  size : length l.dates.items ≡ length l.vertices;
  low : (v : ℕ) → slice_index_or l.dates.items v 0 ≤ 2047000000000;
}
