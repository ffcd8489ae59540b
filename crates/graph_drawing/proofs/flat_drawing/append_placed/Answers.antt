use Rattle.std.proofs.Common.{◌≡◌, ◌++◌, ap, ◌∙◌}
use Rattle.std.proofs.lemmas.Result.{on_ok_weaker}
use Rattle.syn_base.specs.Bytes.{Bytes}
use Rattle.graph_drawing.specs.FlatDrawing.{closing, legend, opening, statements_text}
use Rattle.graph_drawing.specs.Statements.{statements_from}
use Rattle.graph_drawing.proofs.Texts.{regroup}
use Rattle.graph_drawing.proofs.flat_drawing.append_placed.Goals as goal

pub returns : goal.returns
returns c =
    let old = c.args.out.now.items in
    let second = c.append_legend.new.out.items in
    let third = c.append_vertices.new.out.items in
    let new = c.append_closing.new.out.items in
    let key = legend c.args.archi.now in
    let all = statements_text c.args.schedule.now.decisions (statements_from 0 c.args.flat.now.vertices) in
    let same : statements_text c.as_slice.result.now (statements_from 0 c.vertices.result.now) ≡ all
    = λ j. statements_text (c.as_slice.ensures j) (statements_from 0 (c.vertices.ensures.same j)) in
    on_ok_weaker c.append_closing.result (λ (e : new ≡ third ++ closing).
    e ∙ ap (λ (b : Bytes). b ++ closing)
    (c.in_ok-append_vertices.ensures ∙ ap (λ (b : Bytes). second ++ b) same
    ∙ ap (λ (b : Bytes). b ++ all) (c.in_ok-append_legend.ensures ∙ ap (λ (b : Bytes). b ++ key) c.in_ok-append_opening.ensures))
    ∙ regroup old opening key all closing) c.append_closing.ensures
