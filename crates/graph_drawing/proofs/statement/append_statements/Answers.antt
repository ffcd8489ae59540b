use Rattle.std.proofs.Common.{◌≡◌, ◌++◌, List, [], ap, sym, ◌∙◌}
use Rattle.std.proofs.lemmas.Result.{on_ok_weaker}
use Rattle.syn_base.specs.Bytes.{Bytes}
use Rattle.schedule.specs.declared.Source.{Source}
use Rattle.schedule.specs.declared.Guard.{Guard}
use Rattle.graph_drawing.specs.FlatDrawing.{operation_text, statements_text}
use Rattle.graph_drawing.specs.Statements.{conditions_from, inputs_from, keeping}
use Rattle.graph_drawing.proofs.Texts.{regroup, whole_text}
use Rattle.graph_drawing.proofs.statement.append_statements.Goals as goal

pub returns : goal.returns
returns c =
    let ds = c.args.decisions.now in
    let v = c.args.number in
    let x = c.args.vertex.now in
    let old = c.args.out.now.items in
    let first = c.append_operation.new.out.items in
    let second = c.append_inputs.new.out.items in
    let third = c.append_conditions.new.out.items in
    let new = c.append_keeping.new.out.items in
    let operation = operation_text ds v x in
    let inputs = statements_text ds (inputs_from v 0 x.ins) in
    let conditions = statements_text ds (conditions_from v 0 x.guards) in
    let kept = statements_text [] (keeping v x.kind x.twin) in
    on_ok_weaker c.append_keeping.result (λ (e : new ≡ third ++ kept).
    e ∙ ap (λ (b : Bytes). b ++ kept)
    (c.in_ok-append_conditions.ensures
    ∙ ap (λ (gs : List Guard). second ++ statements_text ds (conditions_from v 0 gs)) c.as_slice-2.ensures
    ∙ ap (λ (b : Bytes). b ++ conditions)
    (c.in_ok-append_inputs.ensures
    ∙ ap (λ (ss : List Source). first ++ statements_text ds (inputs_from v 0 ss)) c.as_slice.ensures
    ∙ ap (λ (b : Bytes). b ++ inputs) c.in_ok-append_operation.ensures))
    ∙ regroup old operation inputs conditions kept
    ∙ ap (λ (b : Bytes). old ++ b) (sym (whole_text ds v x))) c.append_keeping.ensures
