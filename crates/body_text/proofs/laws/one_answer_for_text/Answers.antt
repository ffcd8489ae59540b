use Rattle.body_lang.specs.Expr.{view}
use Rattle.body_text.proofs.Once.{one_body, body_alone, one_fault}
use Rattle.body_text.proofs.laws.one_answer_for_text.Goals as goal

pub returns-clause-expression : goal.returns-clause-expression
returns-clause-expression c = λ ports text d e. one_body ports text (view d) (view e)

pub returns-clause-either : goal.returns-clause-either
returns-clause-either c = λ ports text e f. body_alone ports text (view e) f

pub returns-clause-fault : goal.returns-clause-fault
returns-clause-fault c = one_fault
