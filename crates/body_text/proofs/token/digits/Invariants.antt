use Rattle.std.proofs.Common.{◌≡◌, ◌+◌, drop}
use Rattle.syn_base.specs.Name.{is_digit}
use Rattle.body_text.specs.Tokens.{front}
use Rattle.body_text.proofs.token.digits.Given as goal

abbrev pub invariant-loop-i : goal.invariant-loop-i
invariant-loop-i l = l.i + front is_digit (drop l.i l.bytes) ≡ front is_digit l.bytes
