use Rattle.std.proofs.Common.{◌≡◌, map}
use Rattle.algo_tree.specs.View.{view, vertices_view}
use Rattle.multi_period.specs.Marks.{mark_at}
use Rattle.multi_period.proofs.Placed.{made_of}
use Rattle.multi_period.proofs.pass.each_period.Given as goal
use Rattle.syn_base.specs.Numbers.{numbers_below}

abbrev pub invariant-loop-place : goal.invariant-loop-place
invariant-loop-place l = map view l.all.items ≡ map (made_of (mark_at l.marks) (vertices_view l.vertices)) (numbers_below l.place)
