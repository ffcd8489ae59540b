use Rattle.std.proofs.Common.{List, drop, refl, subst, sym}
use Rattle.std.proofs.lemmas.List.{at_drop_all}
use Rattle.algo_tree.specs.declared.vertex.Vertex.{Vertex}
use Rattle.hierarchy.proofs.Staying.{StayGuarded, vertex_guarded}
use Rattle.hierarchy.proofs.unchanged.+has_no_case.Goals as goal

pub returns : goal.returns
returns t c = λ _.
    let items = c.deref-inner-items.result.now in
    let none : StayGuarded (drop c.loop-inner.inner-index items) = subst StayGuarded (sym (at_drop_all (λ (us : List Vertex). us) items c.loop-inner.inner-index c.loop-inner-test.false)) refl in
    vertex_guarded c.args.vertex.now (c.if-not-is_unguarded.ensures refl) (subst StayGuarded c.deref-inner-items.ensures.value (c.loop-inner.invariant none))
