use Rattle.std.proofs.Common.{◌∙◌}
use Rattle.macro_check.proofs.Sourced.{carried_is}
use Rattle.macro_check.proofs.fitting.carries_source.Goals as goal

pub returns : goal.returns
returns c = c.is_source.ensures ∙ carried_is c.args.program.now c.args.sources.now c.args.buffer c.args.source c.requires.table c.requires.within
