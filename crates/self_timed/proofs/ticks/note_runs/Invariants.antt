use Rattle.std.proofs.Common.{◌≡◌, drop, length}
use Rattle.self_timed.specs.Stated.{with_runs}
use Rattle.self_timed.proofs.ticks.note_runs.Given as goal

-- what is left of the decisions completes the ticks
abbrev pub invariant-loop-decision : goal.invariant-loop-decision
invariant-loop-decision l = record {
  long : length l.ticks ≡ length l.fn.ticks;
  left : with_runs l.ticks (drop l.decision-index l.decisions) ≡ with_runs l.fn.ticks l.decisions;
}
