use Rattle.std.proofs.Common.{◌≡◌, ℕ, ◌+◌, ◌*◌, ◌<◌, ◌≤◌, length}
use Rattle.std.specs.Prelude.{slice_index_or}
use Rattle.pressure_heuristic.specs.Tails.{so_far}
use Rattle.pressure_heuristic.proofs.tails.raise_all.Given as goal

-- the operations before had their turn
abbrev pub invariant-loop-op : goal.invariant-loop-op
invariant-loop-op l = record {
  size : length l.dates ≡ length l.vertices;
  low : (v : ℕ) → slice_index_or l.dates v 0 ≤ 1000000000 * (l.round + 1);
  past : (v : ℕ) → v < length l.vertices → slice_index_or l.dates v 0 ≡ so_far l.vertices l.durations (λ s. slice_index_or l.before s 0) l.op v;
}
