use Rattle.std.proofs.Common.{◌≡◌, ◌++◌, drop}
use Rattle.algo_tree.specs.Level.{all_joined}
use Rattle.flat_graph.specs.Meaning.{taken}
use Rattle.sync_meaning.specs.Store.{value_at}
use Rattle.sync_meaning.proofs.run.taken_row.Given as goal

abbrev pub invariant-loop-vertex : goal.invariant-loop-vertex
invariant-loop-vertex l =
    l.row.items ++ all_joined (taken (value_at l.table) (drop l.vertex-index l.vertices)) ≡ all_joined (taken (value_at l.table) l.vertices)
