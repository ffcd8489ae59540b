use Rattle.std.proofs.Common.{◌≡◌, ◌++◌, List, length, sym, ap, subst, ◌∙◌}
use Rattle.syn_base.specs.Bytes.{Bytes}
use Rattle.self_timed.specs.declared.Decision.{Decision}
use Rattle.self_timed.specs.Acts.{acts_of}
use Rattle.dates_text.specs.Printed.{EachFits}
use Rattle.dates_text.proofs.Fitting.{each_fits}
use Rattle.chart_picture.specs.DatesPicture.{scale_for}
use Rattle.chart_picture.specs.Printed.{drawn_picture}
use Rattle.chart_picture.proofs.Told.{drawn_is_dated}
use Rattle.chart_picture.proofs.dates.picture_of.Goals as goal

pub append_picture-requires-clause-fit : goal.append_picture-requires-clause-fit
append_picture-requires-clause-fit c =
    subst (λ (ds : List Decision). EachFits c.args.flat.now ds c.args.dates.now) (sym c.as_slice.ensures)
    (each_fits c.args.flat.now c.args.archi.now c.args.schedule.now c.args.dates.now c.requires.valid c.requires.entries)

pub returns : goal.returns
returns c =
    let g = c.args.flat.now in
    let a = c.args.archi.now in
    let s = c.args.schedule.now in
    let reactions = c.args.dates.now in
    c.in_ok-append_picture.ensures
    ∙ ap (λ (l : Bytes). l ++ drawn_picture g a c.scale_for-scale.result c.length-ticks.result reactions (acts_of c.as_slice.result.now)) c.new-text.ensures.items
    ∙ (λ i. drawn_picture g a (c.scale_for-scale.ensures.scale i) c.length-ticks.result reactions (acts_of (c.as_slice.ensures i)))
    ∙ (λ i. drawn_picture g a (scale_for g (length reactions) (c.length-ticks.ensures i)) (c.length-ticks.ensures i) reactions (acts_of s.decisions))
    ∙ drawn_is_dated g a s reactions
