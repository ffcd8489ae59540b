use Rattle.std.proofs.Common.{◌≡◌, ◌≤◌, length}
use Rattle.graph_code.specs.Places.{width_of}
use Rattle.graph_code.specs.Compiled.{EachFrom, IsOperationAt}
use Rattle.graph_code.proofs.graph.compile_all.Given as goal

-- the operations so far have their codes
abbrev pub invariant-loop-v : goal.invariant-loop-v
invariant-loop-v l = record {
  count : length l.operations.items ≡ l.v;
  values : l.sizes.values ≡ width_of l.flat.vertices;
  room : l.fn.sizes.all ≤ l.sizes.all;
  each : EachFrom (IsOperationAt l.flat l.sizes.all) 0 l.operations.items;
}
