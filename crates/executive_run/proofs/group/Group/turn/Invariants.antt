use Rattle.std.proofs.Common.{◌≡◌, ◌%◌}
use Rattle.executive_run.proofs.Goings.{HasTurnedBelow}
use Rattle.executive_run.proofs.group.Group.turn.Given as goal

abbrev pub invariant-loop-seq : goal.invariant-loop-seq
invariant-loop-seq g l = record {
  turned : HasTurnedBelow l.fn.self.driver l.self.driver l.progress.steps l.progress.waiting l.seq;
  own : l.seq % l.fabric.groups ≡ l.self.driver.group;
}
