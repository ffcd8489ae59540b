use Rattle.std.proofs.Common.{◌≡◌, ℕ, ◌<◌, length, map, take}
use Rattle.std.specs.Prelude.{slice_index_or}
use Rattle.pressure_heuristic.specs.Tails.{raised}
use Rattle.pressure_heuristic.proofs.tails.raise_sources.Given as goal

-- those before are raised
abbrev pub invariant-loop-source : goal.invariant-loop-source
invariant-loop-source l = record {
  size : length l.dates ≡ length l.fn.dates;
  past : (v : ℕ) → v < length l.fn.dates → slice_index_or l.dates v 0 ≡ raised (map (λ s. s.vertex) (take l.source-index l.sources)) v l.date (slice_index_or l.fn.dates v 0);
}
