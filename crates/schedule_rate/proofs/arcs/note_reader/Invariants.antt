use Rattle.std.proofs.Common.{◌≡◌, drop, length}
use Rattle.schedule_rate.specs.Filling.{with_sources}
use Rattle.schedule_rate.proofs.arcs.note_reader.Given as goal

abbrev pub invariant-loop-source : goal.invariant-loop-source
invariant-loop-source l = record {
  are : with_sources l.steps l.acts l.act l.step.line (drop l.source-index l.source-items) l.readers.items ≡ with_sources l.steps l.acts l.act l.step.line l.source-items l.initial.readers.items;
  size : length l.readers.items ≡ length l.steps;
}
