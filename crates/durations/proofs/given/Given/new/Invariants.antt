use Rattle.std.proofs.Common.{◌≡◌, ℕ, ◌<◌, [], length, drop}
use Rattle.std.specs.Prelude.{slice_index_or}
use Rattle.syn_base.specs.Bytes.{Bytes}
use Rattle.durations.specs.Lines.{ticks_of}
use Rattle.durations.specs.Given.{first_of, ticks_at}
use Rattle.durations.proofs.given.Given.new.Given as goal

abbrev pub invariant-loop-line : goal.invariant-loop-line
invariant-loop-line l = record {
  each : length l.found.items ≡ l.operators;
  so_far : (def : Bytes) (o : ℕ) → o < l.operators → first_of (ticks_at (slice_index_or l.found.items o []) def) (ticks_of (drop l.line-index l.lines) def o) ≡ ticks_of l.lines def o;
}
