use Rattle.std.proofs.Common.{refl}
use Rattle.command_status.proofs.written.write_text.Goals as goal

pub returns-in-Err : goal.returns-in-Err
returns-in-Err g c = rw c.in-Err.is (refl, refl)

pub returns-in-Ok : goal.returns-in-Ok
returns-in-Ok g c = rw c.in-Ok.is (rw c.deref.ensures.value at c.put_text.ensures)
