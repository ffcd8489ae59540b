use Rattle.std.proofs.Common.{◌≡◌, ℕ, ◌*◌, ◌<◌, ◌≤◌, length}
use Rattle.std.specs.Prelude.{slice_index_or}
use Rattle.pressure_heuristic.specs.Tails.{tails_in}
use Rattle.pressure_heuristic.proofs.tails.all_rounds.Given as goal

-- the tails after the rounds so far
abbrev pub invariant-loop-round : goal.invariant-loop-round
invariant-loop-round l = record {
  size : length l.tails.items ≡ length l.vertices;
  low : (v : ℕ) → slice_index_or l.tails.items v 0 ≤ 1000000000 * l.round;
  past : (v : ℕ) → v < length l.vertices → slice_index_or l.tails.items v 0 ≡ tails_in l.vertices l.durations l.round v;
}
