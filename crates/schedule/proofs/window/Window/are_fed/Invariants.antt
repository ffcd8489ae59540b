use Rattle.std.proofs.Common.{◌≡◌, drop, length}
use Rattle.schedule.specs.Acts.{acts_of}
use Rattle.schedule.specs.Windows.{are_fed}
use Rattle.schedule.proofs.window.Window.are_fed.Given as goal

-- the decisions that are left decide
abbrev pub invariant-loop-decision : goal.invariant-loop-decision
invariant-loop-decision l = record {
  size : length l.self.held ≡ 16384;
  left : are_fed l.vertices l.self (acts_of (drop l.decision-index l.decisions)) ≡ are_fed l.vertices l.fn.self (acts_of l.decisions);
}
