use Rattle.std.proofs.Common.{◌∙◌, length, replicate}
use Rattle.std.proofs.lemmas.Result.{IfOk-weaker}
use Rattle.self_timed.proofs.Dated.{at_least}
use Rattle.self_timed.specs.Told.{AreDatesOf}
use Rattle.self_timed.specs.Period.{AreStatedDates}
use Rattle.self_timed.specs.Stated.{stated_row}
use Rattle.self_timed.proofs.StatedDates.{has_entries, is_told, is_within, ops_there}
use Rattle.self_timed.proofs.stated.stated_dates.Goals as goal

pub stated_actual-requires : goal.stated_actual-requires
stated_actual-requires c =
    ops_there c.args.flat.now c.args.archi.now c.args.schedule.now c.vertices-operations.ensures.valid c.operators-operators.ensures.valid
    c.requires.valid c.as_slice-decisions.result.now c.vertices-operations.result.now
    c.as_slice-decisions.ensures c.vertices-operations.ensures.same

pub dates_at_depth-requires-clause-entries : goal.dates_at_depth-requires-clause-entries
dates_at_depth-requires-clause-entries c =
    has_entries c.args.flat.now c.args.archi.now c.args.schedule.now c.requires.valid c.args.reactions c.in_ok-actual.actual
    (c.in_ok-actual.ensures ∙ (λ j. replicate c.args.reactions (stated_row (length (c.vertices-operations.ensures.same j)) (c.as_slice-decisions.ensures j))))

pub dates_at_depth-requires-clause-within : goal.dates_at_depth-requires-clause-within
dates_at_depth-requires-clause-within c =
    is_within c.args.flat.now c.args.archi.now c.args.schedule.now c.requires.valid c.args.reactions c.in_ok-actual.actual
    (c.in_ok-actual.ensures ∙ (λ j. replicate c.args.reactions (stated_row (length (c.vertices-operations.ensures.same j)) (c.as_slice-decisions.ensures j))))

pub returns : goal.returns
returns c = IfOk-weaker c.dates_at_depth.result
    (AreDatesOf c.args.archi.now.depth c.args.flat.now c.args.schedule.now c.in_ok-actual.actual)
    (AreStatedDates c.args.flat.now c.args.archi.now c.args.schedule.now c.args.reactions)
    (is_told c.args.flat.now c.args.archi.now c.args.schedule.now c.requires.valid c.args.reactions c.in_ok-actual.actual
    (c.in_ok-actual.ensures ∙ (λ j. replicate c.args.reactions (stated_row (length (c.vertices-operations.ensures.same j)) (c.as_slice-decisions.ensures j))))
    (at_least c.args.archi.now c.depth-depth.ensures.valid))
    c.dates_at_depth.ensures.dates
