use Rattle.word_table.specs.Parts.{fabric_view}
use Rattle.word_table.proofs.Groups.{are_drivers, are_new}
use Rattle.word_table.proofs.weaving.weave.Goals as goal

pub returns-clause-drivers : goal.returns-clause-drivers
returns-clause-drivers c = let e = c.in_ok-drivers.ensures in are_drivers (fabric_view c.in_ok-fabric.fabric) c.in_ok-drivers.drivers.items e.0 e.1

pub returns-clause-new : goal.returns-clause-new
returns-clause-new c = let e = c.in_ok-drivers.ensures in are_new (fabric_view c.in_ok-fabric.fabric) c.in_ok-drivers.drivers.items e.0
