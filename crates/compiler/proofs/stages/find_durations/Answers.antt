use Rattle.std.proofs.Common.{refl}
use Rattle.std.proofs.lemmas.Result.{err_from_is_err_and}
use Rattle.compiler.proofs.stages.find_durations.Goals as goal

pub returns-in_err-durations : goal.returns-in_err-durations
returns-in_err-durations c =
    let p = err_from_is_err_and c.from_residual.result c.from_residual.ensures.1 in
    rw (p.1, p.2) c.in_err-durations.ensures.gives

pub returns : goal.returns
returns c = (refl, refl, c.in_ok-durations.ensures.gives)
