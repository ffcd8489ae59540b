use Rattle.std.proofs.Common.{◌+◌, ◌++◌, drop, ◌∙◌}
use Rattle.std.specs.Prelude.{codes}
use Rattle.self_timed.specs.Acts.{acts_of, is_on}
use Rattle.svg_text.proofs.Appending.{goes_on}
use Rattle.chart_picture.specs.Picture.{lane_part, operator_lanes}
use Rattle.chart_picture.proofs.Drawn.{operator_step}
use Rattle.chart_picture.proofs.picture.append_operators.Goals as goal

pub loop-operator-preserved : goal.loop-operator-preserved
loop-operator-preserved c =
    let sheet = c.args.sheet.now in
    let g = sheet.flat.now in
    let a = sheet.archi.now in
    let xs = acts_of c.args.decisions.now in
    let names = c.args.operators.now in
    let i = c.loop-operator.operator in
    let name = c.index-operators-operator.result in
    let m = c.loop-operator.out.items in
    goes_on c.args.out.now.items m c.append_operator.new.out.items (lane_part g a sheet.scale (codes "lane") (codes "operator-") name i (is_on i) xs)
    (operator_lanes g a sheet.scale xs i (drop i names)) (operator_lanes g a sheet.scale xs (i + 1) (drop (i + 1) names)) (operator_lanes g a sheet.scale xs 0 names)
    (c.in_ok-append_operator.ensures ∙ (λ j. m ++ lane_part g a sheet.scale (codes "lane") (codes "operator-") (c.as_bytes.ensures.same j) i (is_on i) xs))
    (operator_step g a sheet.scale xs names i name c.loop-operator-test.true c.index-operators-operator.is)
    c.loop-operator.invariant
