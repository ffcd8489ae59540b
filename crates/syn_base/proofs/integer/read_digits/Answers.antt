use Rattle.std.proofs.Common.{sym}
use Rattle.syn_base.proofs.Digits.{all_digits}
use Rattle.syn_base.proofs.integer.read_digits.Goals as goal

pub magnitude-requires : goal.magnitude-requires
magnitude-requires c = all_digits c.args.from c.args.digits.now (sym c.in-None.ensures)
