-- One more word.
use Rattle.std.proofs.Common.{sym, ◌∙◌}
use Rattle.macro_code.specs.Forms.{number_in}
use Rattle.code_lines.proofs.Each.{one_more}
use Rattle.code_lines.proofs.arguments.numbers.Goals as goal

pub loop-word-preserved : goal.loop-word-preserved
loop-word-preserved c =
    one_more number_in c.args.words.now c.loop-word.word-index _ c.loop-word.numbers.items c.push.new.self.items c.in-Some.number _
    c.loop-word-test.true (sym c.in-Some.is ∙ c.read_number.ensures) c.in_ok-push-in-Some.ensures.items
    c.loop-word.invariant
