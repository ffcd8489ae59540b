use Rattle.std.proofs.lemmas.Result.{err_from_is_err_and}
use Rattle.compiler.proofs.Refused.{by_text, compiled_so}
use Rattle.compiler.proofs.stages.compile_to_durations.Goals as goal

pub returns-in_err-text : goal.returns-in_err-text
returns-in_err-text c =
    let p = err_from_is_err_and c.from_residual.result c.from_residual.ensures.1 in
    rw (p.1, p.2) (by_text c.args.tree.now c.args.text.now c.in_err-text.field-0.0 c.in_err-text.ensures.says)

pub returns : goal.returns
returns c = compiled_so c.args.tree.now c.args.text.now c.in_ok-text.text c.in-Ok.flat c.find_durations.result c.in_ok-text.ensures.says c.in-Ok.ensures c.find_durations.ensures
