use Rattle.std.proofs.Common.{vec_len}
use Rattle.reference_graph.proofs.walk.Walk.complete.Given as goal

abbrev pub decreases-loop-member : goal.decreases-loop-member
decreases-loop-member l = vec_len l.self.held
