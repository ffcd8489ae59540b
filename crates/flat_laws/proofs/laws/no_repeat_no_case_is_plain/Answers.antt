use Rattle.flat_laws.proofs.Plain.{plain}
use Rattle.flat_laws.proofs.laws.no_repeat_no_case_is_plain.Goals as goal

pub returns : goal.returns
returns c = plain
