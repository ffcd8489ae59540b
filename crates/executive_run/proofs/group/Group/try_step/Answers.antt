use Rattle.executive_run.proofs.Goings.{one_drives}
use Rattle.executive_run.proofs.group.Group.try_step.Goals as goal

pub returns-clause-alone : goal.returns-clause-alone
returns-clause-alone g c one = c.try_micro-answer.ensures.alone (one_drives c.args.self.now.driver c.args.fabric.now c.args.seq c.requires.of one c.requires.drives)
