use Rattle.std.specs.Prelude.{◌≡◌, ◌≤◌, length, take}
use Rattle.word_table.specs.Driver.{counts_of}
use Rattle.word_table.specs.Ends.{IsGathered, IsSameFabric, SeatHolds}
use Rattle.word_table.specs.Parts.{fabric_view}
use Rattle.word_table.proofs.closing.gather_all.Given as goal

abbrev pub invariant-loop-driver : goal.invariant-loop-driver
invariant-loop-driver l = IsSameFabric l.initial.fabric l.fabric
    × (l.drivers.items ≡ take (length l.drivers.items) l.initial.drivers.items)
    × (length l.drivers.items ≤ length l.initial.drivers.items)
    × IsGathered l.initial.fabric.job.now l.initial.fabric.groups (length l.drivers.items) (counts_of (fabric_view l.initial.fabric) l.initial.drivers.items) l.fabric.remains
    × SeatHolds l.initial.fabric.job.now l.initial.fabric.table.table l.initial.fabric.groups (length l.drivers.items) l.seat (counts_of (fabric_view l.initial.fabric) l.initial.drivers.items)

abbrev pub decreases-loop-driver : goal.decreases-loop-driver
decreases-loop-driver l = length l.drivers.items
