use Rattle.std.proofs.Common.{arith}
use Rattle.algo_reader.proofs.LineCounts.{lines_at_most}
use Rattle.elaboration.proofs.Whole.{have_periods}
use Rattle.worked_calls.proofs.stages.read_defs.Goals as goal

pub returns-clause-read : goal.returns-clause-read
returns-clause-read c = c.accepted_are_well_read.ensures c.args.text.now c.in_ok-defs.defs c.in_ok-defs.ensures

pub returns-clause-periods : goal.returns-clause-periods
returns-clause-periods c =
    let defs = c.in_ok-defs.defs in
    have_periods defs.version defs.defs (c.accepted_have_periods.ensures c.args.text.now defs c.in_ok-defs.ensures)

pub returns-clause-few : goal.returns-clause-few
returns-clause-few c = omega (arith, c.accepted_are_few.ensures c.args.text.now c.in_ok-defs.defs c.in_ok-defs.ensures, lines_at_most c.args.text.now, c.requires)

pub returns-clause-printable : goal.returns-clause-printable
returns-clause-printable c = c.canonical_text_reads_back.ensures.printable c.args.text.now c.in_ok-defs.defs c.in_ok-defs.ensures
