use Rattle.std.proofs.Common.{◌≡◌, ℕ, ◌<◌, length, map, take}
use Rattle.std.specs.Prelude.{slice_index_or}
use Rattle.pressure_heuristic.specs.Tails.{raised}
use Rattle.pressure_heuristic.proofs.tails.raise_guards.Given as goal

-- those before are raised
abbrev pub invariant-loop-guard : goal.invariant-loop-guard
invariant-loop-guard l = record {
  size : length l.dates ≡ length l.fn.dates;
  past : (v : ℕ) → v < length l.fn.dates → slice_index_or l.dates v 0 ≡ raised (map (λ g. g.source.vertex) (take l.guard-index l.guards)) v l.date (slice_index_or l.fn.dates v 0);
}
