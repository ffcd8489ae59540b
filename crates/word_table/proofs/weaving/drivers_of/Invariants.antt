use Rattle.std.specs.Prelude.{◌≡◌, length}
use Rattle.word_table.specs.Parts.{fabric_view}
use Rattle.word_table.specs.Weaving.{IsLeft, AreFirst}
use Rattle.word_table.proofs.weaving.drivers_of.Given as goal

abbrev pub invariant-loop-group : goal.invariant-loop-group
invariant-loop-group l = (l.seat.table ≡ l.fabric.table.table) × IsLeft l.fabric.job.now l.fabric.groups l.group l.seat.view
    × (length l.drivers.items ≡ l.group) × AreFirst (fabric_view l.fabric) 0 l.drivers.items
