use Rattle.std.proofs.Common.{arith, sym, ◌∙◌}
use Rattle.body_text.proofs.Cuts.{cut_here}
use Rattle.body_text.proofs.token.next.Goals as goal

pub returns-then-not-is_blank_byte : goal.returns-then-not-is_blank_byte
returns-then-not-is_blank_byte c =
    cut_here c.args.text.now c.args.from c.loop-at.at c.token_len.result (omega arith) c.loop-at.invariant c.loop-at-test.true
    (sym c.is_blank_byte.ensures ∙ c.if-not-is_blank_byte.true) c.token_len.ensures.len c.token_len.ensures.within c.token_len.ensures.some
