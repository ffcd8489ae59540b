use Rattle.std.proofs.Common.{◌≡◌, ◌∙◌, ◌<◌, ◌+◌, ◌++◌, ℤ, length, drop, ap, rules, arith, w64, FitsSigned, to_z, of_z}
use Rattle.std.proofs.lemmas.Int.{to_z-of_z}
use Rattle.syn_base.specs.Rows.{element}
use Rattle.svg_text.specs.Plot.{step_text, steps_text}
use Rattle.svg_text.proofs.Steps.{step_more}
use Rattle.svg_text.proofs.Appending.{goes_on}
use Rattle.svg_text.proofs.curve.append_steps.Goals as goal

pub loop-k-preserved : goal.loop-k-preserved
loop-k-preserved c =
    let panel = c.args.panel.now in
    let rows = panel.rows.now.reactions in
    let place = c.args.place in
    let k = c.loop-k.k in
    let out = c.loop-k.out.items in
    let left : k < length rows = let less = c.loop-k-test.true in let count = c.count-k-end.ensures in omega arith in
    let fits : FitsSigned w64 c.value_of-value.result = search rules in
    let value : to_z w64 (of_z w64 c.value_of-value.result) ≡ element rows k panel.number place = to_z-of_z w64 c.value_of-value.result fits ∙ c.value_of-value.ensures in
    goes_on c.args.out.now.items out c.append_step.new.out.items (step_text panel.scale panel.range k (element rows k panel.number place))
    (steps_text panel.scale panel.range panel.number place k (drop k rows)) (steps_text panel.scale panel.range panel.number place (k + 1) (drop (k + 1) rows))
    (steps_text panel.scale panel.range panel.number place 0 rows)
    (c.in_ok-append_step.ensures ∙ ap (λ (v : ℤ). out ++ step_text panel.scale panel.range k v) value)
    (step_more panel.scale panel.range panel.number place rows k left) c.loop-k.invariant
