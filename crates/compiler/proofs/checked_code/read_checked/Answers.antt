use Rattle.std.proofs.lemmas.Result.{err_from_is_err_and}
use Rattle.compiler.proofs.Lacking.{lacking}
use Rattle.compiler.proofs.checked_code.read_checked.Goals as goal

pub returns-in_err-_order : goal.returns-in_err-_order
returns-in_err-_order c =
    let q = err_from_is_err_and c.from_residual-in_err-_order.result c.from_residual-in_err-_order.ensures.1 in
    rw (q.1, q.2) (lacking c.args.bytes.now c.args.flat.now c.args.archi.now c.in_ok-program.program c.in_ok-program.ensures c.in_err-_order.field-0.0 c.in_err-_order.ensures.told)
