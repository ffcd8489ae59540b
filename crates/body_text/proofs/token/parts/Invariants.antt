use Rattle.std.proofs.Common.{◌≡◌, ◌+◌, drop}
use Rattle.syn_base.specs.Name.{is_name_byte}
use Rattle.body_text.specs.Tokens.{front}
use Rattle.body_text.proofs.token.parts.Given as goal

abbrev pub invariant-loop-i : goal.invariant-loop-i
invariant-loop-i l = l.i + front is_name_byte (drop l.i l.bytes) ≡ front is_name_byte l.bytes
