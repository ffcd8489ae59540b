use Rattle.std.proofs.Common.{◌∙◌}
use Rattle.schedule.specs.Acts.{acts_of}
use Rattle.schedule.proofs.Starts.{fed_at_start}
use Rattle.schedule.proofs.check.are_fed_from.Goals as goal

pub returns : goal.returns
returns c = c.are_fed.ensures ∙ fed_at_start c.args.vertices.now c.new-window.result c.args.window (acts_of c.args.decisions.now) c.new-window.ensures
