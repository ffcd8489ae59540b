use Rattle.std.proofs.Common.{◌≡◌, drop}
use Rattle.body_text.specs.Tokens.{tokens_from}
use Rattle.body_text.proofs.token.next.Given as goal

abbrev pub invariant-loop-at : goal.invariant-loop-at
invariant-loop-at l = tokens_from l.from 0 (drop l.from l.text) ≡ tokens_from l.at 0 (drop l.at l.text)
