use Rattle.std.proofs.Common.{List, drop, refl, subst, sym}
use Rattle.std.proofs.lemmas.List.{at_drop_all}
use Rattle.algo_tree.specs.declared.vertex.Vertex.{Vertex}
use Rattle.hierarchy.proofs.Staying.{StayUnrolled, vertex_unrolled}
use Rattle.hierarchy.proofs.unchanged.+has_no_repeat.Goals as goal

pub returns : goal.returns
returns t c = λ _.
    let items = c.deref-inner-items.result.now in
    let none : StayUnrolled (drop c.loop-inner.inner-index items) = subst StayUnrolled (sym (at_drop_all (λ (us : List Vertex). us) items c.loop-inner.inner-index c.loop-inner-test.false)) refl in
    vertex_unrolled c.args.vertex.now (c.if-is_repetition.ensures refl) (subst StayUnrolled c.deref-inner-items.ensures.value (c.loop-inner.invariant none))
