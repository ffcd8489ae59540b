use Rattle.std.proofs.Common.{◌++◌, List, Option, ap, ◌∙◌}
use Rattle.std.proofs.lemmas.Result.{on_ok_weaker}
use Rattle.timing_chart.specs.Chart.{text_of}
use Rattle.lower_bound.specs.declared.alone.Alone.{Alone}
use Rattle.report_text.specs.Text.{beside_lines, bound_lines, period_lines, reaction_lines}
use Rattle.report_text.proofs.Joined.{and_lines}
use Rattle.report_text.proofs.report.append_report.Goals as goal

pub returns : goal.returns
returns c =
    let a = c.args.archi.now in
    let f = c.args.figures.now in
    let out = c.args.out.now.items in
    let one = c.append_reaction.new.out.items in
    let two = c.append_beside.new.out.items in
    let three = c.append_many.new.out.items in
    let all = c.append_bound.new.out.items in
    let reaction = reaction_lines a f.numbers f.transfers in
    let beside = beside_lines f.beside f.numbers.alone in
    let many = period_lines c.args.vertices.now a f in
    let bound = bound_lines c.args.vertices.now f in
    on_ok_weaker c.append_bound.result
    (λ e. and_lines out one all reaction (beside ++ (many ++ bound)) c.in_ok-append_reaction.ensures
    (and_lines one two all beside (many ++ bound)
    (c.in_ok-append_beside.ensures ∙ ap (λ (xs : List (Option Alone)). one ++ text_of (beside_lines f.beside xs)) c.as_slice.ensures)
    (and_lines two three all many bound c.in_ok-append_many.ensures e)))
    c.append_bound.ensures
