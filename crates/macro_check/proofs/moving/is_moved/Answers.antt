use Rattle.std.proofs.Common.{◌∙◌}
use Rattle.macro_check.proofs.MovedBy.{moved_is}
use Rattle.macro_check.proofs.moving.is_moved.Goals as goal

pub returns : goal.returns
returns c = c.is_moved_by.ensures ∙ moved_is c.args.program.now c.args.number c.args.medium c.args.moved c.args.communicators.now c.requires.here c.requires.all
