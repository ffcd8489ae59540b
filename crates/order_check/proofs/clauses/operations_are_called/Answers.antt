use Rattle.std.proofs.Common.{List, sym, ap, ◌∙◌}
use Rattle.executive_program.specs.declared.Vertex.{Vertex}
use Rattle.order_check.specs.Calls.{are_called}
use Rattle.order_check.proofs.Called.{calls_of, of_calls}
use Rattle.order_check.proofs.clauses.operations_are_called.Goals as goal

pub returns-clause-sound : goal.returns-clause-sound
returns-clause-sound c = λ h.
    calls_of c.args.program.now c.args.order.now c.args.flat.now (ap (λ (vs : List Vertex). are_called c.args.program.now vs) (sym c.vertices.ensures.same) ∙ (sym c.are_called.ensures ∙ h))

pub returns-clause-complete : goal.returns-clause-complete
returns-clause-complete c = λ h.
    c.are_called.ensures ∙ (ap (λ (vs : List Vertex). are_called c.args.program.now vs) c.vertices.ensures.same ∙ of_calls c.args.program.now c.args.order.now c.args.flat.now h)
