use Rattle.executive_run.specs.Groups.{Belongs}
use Rattle.executive_run.proofs.crew.Crew.drive.Given as goal

abbrev pub invariant-turns : goal.invariant-turns
invariant-turns g l = Belongs l.self.fabric.now l.fn.group.driver.group l.group
