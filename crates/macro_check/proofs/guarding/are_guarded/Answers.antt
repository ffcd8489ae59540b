use Rattle.std.proofs.Common.{◌∙◌}
use Rattle.macro_check.proofs.ByReading.{guarded_is}
use Rattle.macro_check.proofs.guarding.are_guarded.Goals as goal

pub returns : goal.returns
returns c =
    let e = c.as_slice.ensures.value in
    c.guard_each.ensures ∙ guarded_is c.args.program.now c.as_slice.result.now (e ∙ c.requires.readings)
