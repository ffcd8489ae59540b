use Rattle.lab_plans.proofs.Replying.{texts_are_written}
use Rattle.lab_plans.proofs.texts_are_written.Goals as goal

pub returns : goal.returns
returns c = texts_are_written
