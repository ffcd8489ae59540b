use Rattle.std.proofs.Common.{◌≡◌, drop}
use Rattle.schedule_rate.specs.Filling.{AreLow, lasts}
use Rattle.schedule_rate.proofs.arcs.last_acts.Given as goal

abbrev pub invariant-loop-act : goal.invariant-loop-act
invariant-loop-act l = record {
  are : lasts l.last l.act (drop l.act l.steps) ≡ lasts l.initial.last 0 l.steps;
  low : AreLow l.act l.last;
}
