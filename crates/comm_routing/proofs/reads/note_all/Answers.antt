use Rattle.std.proofs.Common.{◌∙◌}
use Rattle.comm_routing.proofs.Reading.{source_step}
use Rattle.comm_routing.proofs.reads.note_all.Goals as goal

pub loop-source-preserved : goal.loop-source-preserved
loop-source-preserved c = record {
  marked = c.in_ok-note.ensures.marked;
  left = source_step c.loop-source.reads.items c.note.new.reads.items c.args.sources.now c.loop-source.source-index _ c.loop-source-test.true c.in_ok-note.ensures.noted ∙ c.loop-source.invariant.left;
}
