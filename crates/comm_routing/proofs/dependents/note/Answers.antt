use Rattle.std.proofs.Common.{arith}
use Rattle.comm_routing.specs.Dependents.{list_at}
use Rattle.comm_routing.proofs.Depending.{noted_by_parts}
use Rattle.comm_routing.proofs.dependents.note.Goals as goal

pub returns-clause-noted : goal.returns-clause-noted
returns-clause-noted c = λ u l.
    let n = c.note_guards.ensures.size in
    let m = c.note_sources.ensures.size in
    noted_by_parts c.args.op u c.args.vertex.now (list_at c.args.lists.now.items u) (list_at c.note_guards.new.lists.items u)
    (list_at c.note_sources.new.lists.items u) (list_at c.note_half.new.lists.items u)
    _ _ c.as_slice.ensures c.as_slice-2.ensures
    (c.in_ok-note_guards.ensures.noted u (omega arith)) (c.in_ok-note_sources.ensures.noted u (omega arith)) (c.in_ok-note_half.ensures.noted u (omega arith))
