use Rattle.std.proofs.Common.{◌≡◌, [], drop, length, replicate}
use Rattle.schedule_rate.specs.Filling.{with_steps}
use Rattle.schedule_rate.proofs.arcs.readers_of.Given as goal

abbrev pub invariant-loop-act : goal.invariant-loop-act
invariant-loop-act l = record {
  are : with_steps l.steps l.acts l.act (drop l.act l.steps) l.readers.items ≡ with_steps l.steps l.acts 0 l.steps (replicate (length l.steps) []);
  size : length l.readers.items ≡ length l.steps;
}
