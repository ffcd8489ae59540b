use Rattle.std.proofs.Common.{◌∙◌}
use Rattle.comm_routing.proofs.Reading.{guard_step}
use Rattle.comm_routing.proofs.reads.note_guards.Goals as goal

pub loop-guard-preserved : goal.loop-guard-preserved
loop-guard-preserved c = record {
  marked = c.in_ok-note.ensures.marked;
  left = λ rest.
      guard_step c.loop-guard.reads.items c.note.new.reads.items c.args.guards.now c.loop-guard.guard-index c.guard-item.result c.loop-guard-test.true c.guard-item.is c.in_ok-note.ensures.noted rest
      ∙ c.loop-guard.invariant.left rest;
}
