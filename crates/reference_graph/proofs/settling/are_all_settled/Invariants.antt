use Rattle.std.proofs.Common.{ℕ, ◌<◌, get_or}
use Rattle.reference_graph.proofs.settling.are_all_settled.Given as goal

abbrev pub invariant-loop-b : goal.invariant-loop-b
invariant-loop-b l = (k : ℕ) → k < l.b-index → 0 < get_or l.depths (get_or l.refs k 0) 0
