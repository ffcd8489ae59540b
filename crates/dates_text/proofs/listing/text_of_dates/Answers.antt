use Rattle.std.proofs.Common.{◌++◌, List, length, refl, sym, ap, subst, ◌∙◌}
use Rattle.syn_base.specs.Bytes.{Bytes}
use Rattle.self_timed.specs.declared.Decision.{Decision}
use Rattle.self_timed.specs.Acts.{acts_of}
use Rattle.dates_text.specs.Listing.{Dated, dated_text}
use Rattle.dates_text.specs.Printed.{EachFits, entry_span, dates_up_to}
use Rattle.dates_text.proofs.Entered.{told_is}
use Rattle.dates_text.proofs.Fitting.{each_fits}
use Rattle.dates_text.proofs.listing.text_of_dates.Goals as goal

pub append_dates-requires : goal.append_dates-requires
append_dates-requires c =
    subst (λ (ds : List Decision). EachFits c.args.flat.now ds c.args.dates.now) (sym c.as_slice.ensures)
    (each_fits c.args.flat.now c.args.archi.now c.args.schedule.now c.args.dates.now c.requires.valid c.requires.entries)

pub returns : goal.returns
returns c =
    let g = c.args.flat.now in
    let a = c.args.archi.now in
    let s = c.args.schedule.now in
    let reactions = c.args.dates.now in
    c.in_ok-append_dates.ensures
    ∙ ap (λ (l : Bytes). l ++ dated_text g a (dates_up_to reactions (length g.vertices) (acts_of c.as_slice.result.now) (length reactions))) c.new-text.ensures.items
    ∙ ap (λ (ds : List Decision). dated_text g a (dates_up_to reactions (length g.vertices) (acts_of ds) (length reactions))) c.as_slice.ensures
    ∙ ap (λ (ds : List Dated). dated_text g a ds) (told_is g s reactions (entry_span g s reactions) (length reactions) (λ k l i x e. refl))
