use Rattle.std.proofs.Common.{◌∙◌, sym, rules, arith}
use Rattle.command_words.proofs.Numbers.{too_large_at}
use Rattle.command_words.proofs.number.number_up_to.Goals as goal

pub returns-then-number-most : goal.returns-then-number-most
returns-then-number-most c =
    sym (too_large_at c.args.most c.loop-byte.number c.loop-byte.byte-index c.args.text.now c.loop-byte-test.true (search rules) (search (rules, arith))) ∙ c.loop-byte.invariant.so_far
