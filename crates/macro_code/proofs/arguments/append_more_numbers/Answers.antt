-- One more number.
use Rattle.std.specs.Fmt.{decimal}
use Rattle.macro_code.proofs.Appending.{word_more}
use Rattle.macro_code.proofs.arguments.append_more_numbers.Goals as goal

pub loop-number-preserved : goal.loop-number-preserved
loop-number-preserved c =
    word_more decimal c.args.numbers.now c.loop-number.number-index 0 c.loop-number.out.items c.append.new.out.items c.append_count.new.out.items _ c.loop-number-test.true
    c.in_ok-append.ensures.text c.in_ok-append_count.ensures.text c.loop-number.invariant
