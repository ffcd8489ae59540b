use Rattle.compiler.proofs.stages.find_schedule.Goals as goal
use Rattle.sequence_build_laws.specs.Text.{described_by}

pub adequation-requires : goal.adequation-requires
adequation-requires c = (c.durations_fit.ensures c.args.problem.now.flat (described_by c.args.problem.now.text) c.args.problem.now.durations c.requires).0
