use Rattle.std.proofs.Common.{◌≡◌, map, take}
use Rattle.algo_tree.specs.View.{view}
use Rattle.algo_tree.proofs.shares.+share.Given as goal

abbrev pub invariant-share_each-loop-vertex : goal.invariant-share_each-loop-vertex
invariant-share_each-loop-vertex l = map view l.all.items ≡ map view (take l.vertex-index l.vertex-items)
