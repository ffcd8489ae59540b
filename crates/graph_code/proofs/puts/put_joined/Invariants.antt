use Rattle.std.proofs.Common.{◌≡◌, ◌+◌, length, take}
use Rattle.flat_graph.specs.Level.{all_joined}
use Rattle.graph_code.specs.Fired.{IsPut, rows_of}
use Rattle.graph_code.proofs.puts.put_joined.Given as goal

-- the rows so far are written
abbrev pub invariant-loop-span : goal.invariant-loop-span
invariant-loop-span l = record {
  at : l.at ≡ l.start + length (all_joined (take l.span-index (rows_of l.initial.store l.spans)));
  put : IsPut (length l.initial.store) l.start (all_joined (take l.span-index (rows_of l.initial.store l.spans))) l.initial.store l.store;
}
