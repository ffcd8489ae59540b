use Rattle.std.proofs.Common.{refl}
use Rattle.syndex_program.proofs.commands.load.finish_load.Goals as goal

pub write_load-requires : goal.write_load-requires
write_load-requires g c = (c.type_bounds.sync-R, (c.type_bounds.sync-G, rw c.in-Ok.is at c.requires))

pub returns-in-Ok : goal.returns-in-Ok
returns-in-Ok g c = rw c.in-Ok.is c.write_load.ensures

pub returns-in-Err : goal.returns-in-Err
returns-in-Err g c = rw c.in-Err.is (refl, refl, refl)
