use Rattle.std.proofs.Common.{◌≡◌, [], ◌∷◌, ◌++◌, length, take, drop}
use Rattle.level_meaning.specs.Level.{all_joined}
use Rattle.flat_graph.proofs.put.put_joined.Given as goal
use Rattle.syn_base.specs.Vectors.{vector_at}

-- the vectors so far
abbrev pub invariant-loop-port : goal.invariant-loop-port
invariant-loop-port l = record {
  outs : l.outs ≡ (all_joined (take l.port l.ins) ++ drop l.from (vector_at l.fn.outs 0)) ∷ [];
  from : l.from ≡ length (all_joined (take l.port l.ins));
}
