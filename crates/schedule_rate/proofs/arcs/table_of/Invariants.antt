use Rattle.std.proofs.Common.{◌≡◌, ◌++◌, drop}
use Rattle.schedule_rate.specs.Filling.{AreLow, rows_from}
use Rattle.schedule_rate.proofs.arcs.table_of.Given as goal

abbrev pub invariant-loop-act : goal.invariant-loop-act
invariant-loop-act l = record {
  rows : l.rows.items ++ rows_from l.depth l.acts.items l.readers.items l.last l.before l.act (drop l.act l.steps) ≡ rows_from l.depth l.acts.items l.readers.items l.last l.initial.before 0 l.steps;
  low : AreLow l.act l.before;
}
