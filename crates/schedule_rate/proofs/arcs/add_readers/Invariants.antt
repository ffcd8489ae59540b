use Rattle.std.proofs.Common.{◌≡◌, ◌++◌, drop, map}
use Rattle.rates.specs.Arcs.{arc}
use Rattle.schedule_rate.proofs.arcs.add_readers.Given as goal

abbrev pub invariant-loop-reader : goal.invariant-loop-reader
invariant-loop-reader l = l.row.items ++ map (λ j. arc l.depth j) (drop l.reader-index l.readers) ≡ l.initial.row.items ++ map (λ j. arc l.depth j) l.readers
