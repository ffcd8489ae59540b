use Rattle.std.proofs.Common.{◌≡◌, ◌∙◌, ◌++◌, ℤ, ap, subst, rules, w64, FitsSigned, to_z, of_z}
use Rattle.std.specs.Prelude.{OnOk}
use Rattle.std.proofs.lemmas.Int.{to_z-of_z}
use Rattle.syn_base.specs.Bytes.{Bytes}
use Rattle.syn_base.specs.Rows.{element}
use Rattle.svg_text.specs.Level.{level}
use Rattle.svg_text.specs.Plot.{begin_text, curve_text, end_text, steps_text}
use Rattle.svg_text.proofs.Appending.{three}
use Rattle.svg_text.proofs.curve.append_curve.Goals as goal

pub returns : goal.returns
unfolding curve_text
returns c =
    let panel = c.args.panel.now in
    let rows = panel.rows.now.reactions in
    let place = c.args.place in
    let out = c.args.out.now.items in
    let fits : FitsSigned w64 c.value_of-first.result = search rules in
    let first : to_z w64 (of_z w64 c.value_of-first.result) ≡ element rows 0 panel.number place = to_z-of_z w64 c.value_of-first.result fits ∙ c.value_of-first.ensures in
    let steps = steps_text panel.scale panel.range panel.number place 0 rows in
    let end = end_text panel.scale.width panel.name.now place in
    subst (λ (l : Bytes). OnOk c.append_end.result (c.append_end.new.out.items ≡ l))
    (three out c.append_begin.new.out.items c.append_steps.new.out.items (begin_text place c.level.result) steps end
    c.in_ok-append_begin.ensures c.in_ok-append_steps.ensures
    ∙ (λ i. out ++ (begin_text place (c.level.ensures i) ++ (steps ++ end)))
    ∙ ap (λ (v : ℤ). out ++ (begin_text place (level panel.range v) ++ (steps ++ end))) first)
    c.append_end.ensures
