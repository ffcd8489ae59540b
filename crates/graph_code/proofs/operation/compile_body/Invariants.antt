use Rattle.std.proofs.Common.{◌≡◌, ◌≤◌, length, map}
use Rattle.flat_graph.specs.Expr.{view}
use Rattle.graph_code.specs.Compiled.{EachFrom, IsOutputAt}
use Rattle.graph_code.proofs.operation.compile_body.Given as goal

-- the outputs so far have their codes
abbrev pub invariant-loop-port : goal.invariant-loop-port
invariant-loop-port l = record {
  count : length l.outputs.items ≡ l.port;
  values : l.sizes.values ≡ l.fn.sizes.values;
  room : l.fn.sizes.all ≤ l.sizes.all;
  each : EachFrom (IsOutputAt l.inputs l.sizes.values l.sizes.all l.start l.outs (map view l.body)) 0 l.outputs.items;
}
