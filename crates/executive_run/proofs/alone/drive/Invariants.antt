use Rattle.executive_run.specs.Going.{steps_left}
use Rattle.executive_run.specs.Groups.{Belongs}
use Rattle.executive_run.proofs.alone.drive.Given as goal

abbrev pub invariant-turns : goal.invariant-turns
invariant-turns g l = Belongs l.fabric 0 l.group

abbrev pub decreases-turns : goal.decreases-turns
decreases-turns g l = steps_left l.group.driver
