use Rattle.std.proofs.Common.{◌≡◌, ◌+◌, drop}
use Rattle.syn_base.specs.Integer.{first_other}
use Rattle.syn_base.proofs.integer.other_byte.Given as goal

abbrev pub invariant-loop-i : goal.invariant-loop-i
invariant-loop-i l = first_other (l.from + l.i) (drop l.i l.digits) ≡ first_other l.from l.digits
