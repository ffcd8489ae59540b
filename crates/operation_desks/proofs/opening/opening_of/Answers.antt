-- One more operation.
use Rattle.std.proofs.Common.{◌<◌, List, refl, get_or, length, ap, subst, ◌∙◌}
use Rattle.executive_program.specs.declared.Vertex.{Vertex}
use Rattle.executive_program.specs.Meaning.{initial_cell, initial_cells}
use Rattle.operation_desks.proofs.Appending.{appended}
use Rattle.operation_desks.proofs.opening.opening_of.Goals as goal

pub loop-x-preserved : goal.loop-x-preserved
loop-x-preserved c =
    let vs = c.args.flat.now.vertices in
    let k = c.loop-x.x-index in
    let x = c.x-item.result in
    let same = c.vertices-x-items.ensures.same in
    appended (λ (y : Vertex). initial_cell y.kind) initial_cells (λ y ys. refl) vs k x c.loop-x.all.items c.push_initial.new.all.items (initial_cells vs)
    (subst (λ (l : List Vertex). k < length l) same c.loop-x-test.true) (c.x-item.is ∙ ap (λ (l : List Vertex). get_or l k x) same) c.in_ok-push_initial.ensures c.loop-x.invariant
