use Rattle.self_timed.proofs.laws.buffers_have_depth.Goals as goal
use Rattle.self_timed.proofs.Whole as whole

pub returns : goal.returns
returns c = whole.buffers_have_depth
