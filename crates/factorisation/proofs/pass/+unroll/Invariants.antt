use Rattle.std.proofs.Common.{◌≡◌, ◌++◌, map, take}
use Rattle.algo_tree.specs.Meaning.{vertices_in}
use Rattle.algo_tree.specs.Typed.{label_of}
use Rattle.algo_tree.specs.View.{view}
use Rattle.flat_laws.specs.Unrolled.{copy, unroll as unrolled}
use Rattle.factorisation.proofs.pass.+unroll.Given as goal
use Rattle.syn_base.specs.Numbers.{numbers_below}

abbrev pub invariant-add_copies_of-loop-i : goal.invariant-add_copies_of-loop-i
invariant-add_copies_of-loop-i l =
    map view l.all.items ≡ map view l.fn.all.items ++ map (copy l.copies.begin l.feeds (label_of (unrolled (view l.body))) (vertices_in (unrolled (view l.body)))) (numbers_below l.i)

abbrev pub invariant-unroll_each-loop-vertex : goal.invariant-unroll_each-loop-vertex
invariant-unroll_each-loop-vertex l = map view l.all.items ≡ map (λ v. unrolled (view v)) (take l.vertex-index l.vertex-items)
