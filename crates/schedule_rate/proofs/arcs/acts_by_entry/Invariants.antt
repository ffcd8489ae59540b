use Rattle.std.proofs.Common.{◌≡◌, drop, length, replicate}
use Rattle.schedule_rate.specs.Filling.{entered}
use Rattle.schedule_rate.proofs.arcs.acts_by_entry.Given as goal

abbrev pub invariant-loop-act : goal.invariant-loop-act
invariant-loop-act l = record {
  are : entered l.act (drop l.act l.steps) l.acts.items ≡ entered 0 l.steps (replicate l.entries 0);
  size : length l.acts.items ≡ l.entries;
}
