use Rattle.std.proofs.Common.{◌≤◌, arith, length}
use Rattle.self_timed.proofs.Decided.{few_operations}
use Rattle.self_timed.specs.Table.{entry_in}
use Rattle.lower_bound.proofs.Busy.{no_line_is_overfull}
use Rattle.lower_bound.proofs.WholeReport.{report_is}
use Rattle.lower_bound.proofs.report.report_of.Goals as goal

pub operator_loads-requires : goal.operator_loads-requires
operator_loads-requires c = λ o. (no_line_is_overfull c.args.flat.now c.args.archi.now (entry_in c.args.durations.now) c.args.schedule.now c.requires.valid o).0

pub medium_loads-requires : goal.medium_loads-requires
medium_loads-requires c = λ m. (no_line_is_overfull c.args.flat.now c.args.archi.now (entry_in c.args.durations.now) c.args.schedule.now c.requires.valid m).1

pub all_alone-requires : goal.all_alone-requires
all_alone-requires c =
    let few = few_operations c.args.flat.now c.vertices-vertices.ensures.valid in
    let rows = c.requires.fits.operations in
    omega arith

pub returns : goal.returns
returns c =
    report_is c.args.flat.now c.args.archi.now c.args.durations.now c.args.schedule.now c.requires.fits c.length-length.result
    c.operators.result.now c.media.result.now c.in_ok-operators.operators c.in_ok-media.media
    c.in_ok-alone.alone c.in_ok-bound.bound c.ratio_of-above.result c.length-length.ensures c.operators.ensures.same c.media.ensures.same
    c.in_ok-operators.ensures c.in_ok-media.ensures c.in_ok-alone.ensures
    c.in_ok-bound.ensures.bound c.ratio_of-above.ensures
