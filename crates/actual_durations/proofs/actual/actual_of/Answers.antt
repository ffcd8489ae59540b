use Rattle.schedule.specs.Text.{described_by}
use Rattle.actual_durations.proofs.actual.actual_of.Goals as goal

pub actual_by-requires-clause-lines : goal.actual_by-requires-clause-lines
actual_by-requires-clause-lines c = c.accepted_are_durations.ensures c.args.text.now (described_by c.in_ok-text.text) c.in_ok-text.ensures
