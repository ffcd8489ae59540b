use Rattle.std.proofs.Common.{◌≡◌, max, drop, map}
use Rattle.std.specs.Prelude.{slice_index}
use Rattle.reference_graph.proofs.settling.greatest_depth.Given as goal
use Rattle.syn_base.specs.Numbers.{greatest}

abbrev pub invariant-loop-b : goal.invariant-loop-b
invariant-loop-b l = max l.most (greatest (map (slice_index l.depths) (drop l.b-index l.refs))) ≡ greatest (map (slice_index l.depths) l.refs)
