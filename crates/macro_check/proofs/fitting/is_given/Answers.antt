use Rattle.std.proofs.Common.{◌∙◌}
use Rattle.macro_check.proofs.Sourced.{given_is}
use Rattle.macro_check.proofs.fitting.is_given.Goals as goal

pub returns : goal.returns
returns c = c.is_given_as.ensures ∙ given_is c.args.program.now c.args.sources.now c.args.buffer c.args.len (record { vertex = c.args.operation; port = c.args.port }) c.requires
