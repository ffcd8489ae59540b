-- One more operation.
use Rattle.std.proofs.Common.{arith, refl, ◌∙◌}
use Rattle.comm_routing.specs.Dependents.{dependents_from, list_at}
use Rattle.comm_routing.proofs.Appending.{all_appended}
use Rattle.comm_routing.proofs.Depending.{dependents_more}
use Rattle.comm_routing.proofs.dependents.all_dependents.Goals as goal

pub loop-op-preserved : goal.loop-op-preserved
loop-op-preserved c = record {
  size = c.note.ensures.size ∙ c.loop-op.invariant.size;
  left = λ u l.
      dependents_more u c.loop-op.op c.args.vertices.now c.index-vertices-op.result (list_at c.loop-op.lists.items u) (list_at c.note.new.lists.items u) _ c.loop-op-test.true c.index-vertices-op.is
      (c.in_ok-note.ensures.noted u (let size = c.loop-op.invariant.size in omega arith)) (c.loop-op.invariant.left u l);
}

pub returns-clause-dependents : goal.returns-clause-dependents
returns-clause-dependents c = λ u l.
    all_appended (dependents_from u c.loop-op.op) c.args.vertices.now c.loop-op.op (list_at c.loop-op.lists.items u) _ refl c.loop-op-test.false (c.loop-op.invariant.left u l)
