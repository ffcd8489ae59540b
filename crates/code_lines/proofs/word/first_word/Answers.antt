use Rattle.std.proofs.Common.{sym}
use Rattle.code_lines.proofs.LineParts.{first_read}
use Rattle.code_lines.proofs.word.first_word.Goals as goal

pub returns-then-not-is_blank : goal.returns-then-not-is_blank
returns-then-not-is_blank c = first_read c.args.code.now c.loop-from.from c.word_end-to.result c.loop-from-test.true
    (sym c.if-not-is_blank.ensures) c.word_end-to.ensures.next c.loop-from.invariant.rest
