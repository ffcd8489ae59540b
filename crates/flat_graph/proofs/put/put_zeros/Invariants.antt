use Rattle.std.proofs.Common.{◌≡◌, ◌++◌, map, take, drop}
use Rattle.flat_graph.proofs.put.put_zeros.Given as goal
use Rattle.syn_base.specs.Vectors.{zeros}

-- the ports so far
abbrev pub invariant-loop-port : goal.invariant-loop-port
invariant-loop-port l = l.outs ≡ take l.port (map zeros l.lens) ++ drop l.port l.fn.outs
