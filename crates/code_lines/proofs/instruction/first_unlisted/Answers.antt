use Rattle.std.proofs.Common.{sym}
use Rattle.macro_code.specs.Forms.{arguments_of}
use Rattle.code_lines.proofs.Lists.{all_declared}
use Rattle.code_lines.proofs.instruction.first_unlisted.Goals as goal

pub returns-then-are_known : goal.returns-then-are_known
returns-then-are_known c = all_declared c.args.here.now (arguments_of c.args.list.now) c.args.buffers.now c.requires (sym c.if-are_known.ensures)
