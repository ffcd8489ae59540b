use Rattle.body_text.proofs.Judged.{one_place, fails_is_none}
use Rattle.body_text.proofs.laws.one_place_fails.Goals as goal

pub returns-clause-place : goal.returns-clause-place
returns-clause-place c = one_place

pub returns-clause-none : goal.returns-clause-none
returns-clause-none c = fails_is_none
