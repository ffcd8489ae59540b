use Rattle.std.proofs.Common.{◌≡◌, ◌++◌, map, take, drop}
use Rattle.body_lang.specs.Expr.{view, function_outputs}
use Rattle.flat_graph.proofs.put.put_values.Given as goal

-- the ports so far
abbrev pub invariant-loop-port : goal.invariant-loop-port
invariant-loop-port l = l.outs ≡ take l.port (function_outputs l.lens (map view l.body) l.ins) ++ drop l.port l.fn.outs
