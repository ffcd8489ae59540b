-- One more operator.
use Rattle.std.proofs.Common.{List, [], ℕ, refl}
use Rattle.macro_code.specs.Text.{processor_text, processors_from}
use Rattle.macro_code.specs.Text.{names_of}
use Rattle.macro_code.proofs.Appending.{counted}
use Rattle.macro_code.proofs.code.append_processors.Goals as goal

pub loop-operator-preserved : goal.loop-operator-preserved
loop-operator-preserved c =
    counted (λ (n : ℕ) (x : List ℕ). processor_text (names_of c.args.named.now) c.args.program.now n)
    (processors_from (names_of c.args.named.now) c.args.program.now) (λ n x xs. refl) c.args.named.now.operators.now c.loop-operator.operator []
    c.loop-operator.out.items c.append_processor.new.out.items _ c.loop-operator-test.true c.in_ok-append_processor.ensures c.loop-operator.invariant
