use Rattle.std.proofs.Common.{inl, refl}
use Rattle.syndex_program.proofs.commands.exec.finish_exec.Goals as goal

pub write_exec-requires : goal.write_exec-requires
write_exec-requires g c = (c.type_bounds.sync-R, (c.type_bounds.sync-G, rw c.in-Ok.is at c.requires))

pub returns-in-Ok : goal.returns-in-Ok
returns-in-Ok g c = rw c.in-Ok.is c.write_exec.ensures

pub returns-in-Err : goal.returns-in-Err
returns-in-Err g c = rw c.in-Err.is (inl (refl, refl, refl))
