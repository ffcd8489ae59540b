-- One more pair.
use Rattle.std.proofs.Common.{ℕ, refl}
use Rattle.macro_code.specs.ReadText.{numbered}
use Rattle.code_reader.proofs.Appending.{mapped}
use Rattle.code_reader.proofs.reader.add_pairs.Goals as goal

pub loop-number-preserved : goal.loop-number-preserved
loop-number-preserved c = (
  mapped (numbered c.args.line) c.args.numbers.now c.loop-number.number-index 0 _ c.args.pairs.now.items c.loop-number.pairs.items
      c.push.new.self.items c.loop-number-test.true refl c.in_ok-push.ensures.items c.loop-number.invariant.0,
  mapped (λ (n : ℕ). c.args.operator) c.args.numbers.now c.loop-number.number-index 0 c.args.operator c.args.owners.now.items
      c.loop-number.owners.items c.push-in-loop-number.new.self.items c.loop-number-test.true refl
      c.in_ok-push-2.ensures.items c.loop-number.invariant.1,
)
