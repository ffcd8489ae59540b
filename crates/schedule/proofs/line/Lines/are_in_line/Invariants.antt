use Rattle.std.proofs.Common.{◌≡◌, drop}
use Rattle.schedule.specs.Acts.{acts_of}
use Rattle.schedule.specs.Lines.{are_in_line, HasPlaces}
use Rattle.schedule.proofs.line.Lines.are_in_line.Given as goal

-- the decisions that are left decide
abbrev pub invariant-loop-decision : goal.invariant-loop-decision
invariant-loop-decision l = record {
  sizes : HasPlaces l.self;
  left : are_in_line l.setting l.self (acts_of (drop l.decision-index l.decisions)) ≡ are_in_line l.setting l.fn.self (acts_of l.decisions);
}
