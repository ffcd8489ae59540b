use Rattle.std.proofs.Common.{◌≡◌, ◌<◌, ◌≤◌, length, get_or, map, refl, ap, ◌∙◌, rules, arith}
use Rattle.flat_laws.specs.Unrolled.{explodes}
use Rattle.algo_tree.specs.View.{view}
use Rattle.algo_tree.specs.Well.{IsWell}
use Rattle.algo_tree.specs.declared.vertex.Vertex.{out-Vertex, the_lemmas}
use Rattle.algo_tree.specs.Counted.{operations}
use Rattle.factorisation.proofs.Unrolling.{bounded, counted_at, well_at, inside_made, copies_more, plain_answered}
use Rattle.factorisation.proofs.pass.+unroll.Goals as goal

pub unroll_each-unroll_vertex-requires : goal.unroll_each-unroll_vertex-requires
unroll_each-unroll_vertex-requires t c =
    let us = c.args.vertices.now.items in
    let i = c.loop-vertex.vertex-index in
    let u = c.vertex-item.result in
    let items = c.deref-vertex-items.ensures.value in
    let at : u ≡ get_or us i u = rw items at c.vertex-item.is in
    let lt : i < length us = rw items at c.loop-vertex-test.true in
    let well : IsWell (view u) = rw at (well_at us i u c.requires.well lt) in
    let below = counted_at us i u lt in
    let few : operations (view u) ≤ 2048 = rw at (omega (arith, below, c.requires.few)) in
    (search (rules, the_lemmas), (well, few))

pub unroll_inside-add_copies-requires : goal.unroll_inside-add_copies-requires
unroll_inside-add_copies-requires t c =
    let b = bounded c.args.vertex.now c.args.copies.count c.args.feeds.now c.args.gives.now c.requires.kind c.requires.well c.requires.few in
    let lines = ap (map (λ f. f.now)) c.deref-2.ensures.value ∙ c.in_ok-lines.ensures in
    (search (rules, the_lemmas), (lines, (b.one, (b.well, (b.forks, (b.bodies, c.requires.small))))))

pub unroll_inside-returns : goal.unroll_inside-returns
unroll_inside-returns t c =
    inside_made c.args.vertex.now c.args.copies.count c.args.copies.begin c.args.feeds.now c.args.gives.now _ _ _ _ _ c.requires.begin refl c.as_slice.ensures
    (c.in_ok-all.ensures ∙ ap (explodes (out-Vertex c.args.vertex.now).definition c.args.copies.count)
    (ap (map (λ f. f.now)) c.deref.ensures.value ∙ c.in_ok-lines.ensures)) c.in_ok-add_copies.ensures c.in_ok-add_implodes.ensures

pub unroll_vertex-returns-in_ok-inner-in_default : goal.unroll_vertex-returns-in_ok-inner-in_default
unroll_vertex-returns-in_ok-inner-in_default t c =
    plain_answered c.args.vertex.now c.in_ok-inner-in_default.inner.items c.with_inside.result c.in_default.not-Repeat
    c.in_ok-inner-in_default.ensures c.with_inside.ensures

pub add_copies_of-loop-i-preserved : goal.add_copies_of-loop-i-preserved
add_copies_of-loop-i-preserved t c =
    copies_more c.args.copies.begin c.args.feeds.now _ _ c.loop-i.i c.loop-i.all.items _ c.in_ok-vertex.vertex c.in_ok-as_copy.field-0
    c.loop-i.invariant (c.in_ok-vertex.ensures ∙ c.in_ok-unrolled.ensures) c.in_ok-as_copy.ensures c.in_ok-push.ensures.items
