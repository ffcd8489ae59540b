use Rattle.std.proofs.Common.{◌≡◌, ◌++◌, take, drop}
use Rattle.std.specs.Prelude.{sum}
use Rattle.flat_graph.proofs.put.put_parts.Given as goal
use Rattle.syn_base.specs.Rows.{cut}

-- the ports so far
abbrev pub invariant-loop-port : goal.invariant-loop-port
invariant-loop-port l = record {
  outs : l.outs ≡ take l.port (cut l.lens l.whole) ++ drop l.port l.fn.outs;
  from : l.from ≡ sum (take l.port l.lens);
}
