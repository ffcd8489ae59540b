-- One more buffer.
use Rattle.std.proofs.Common.{[], cond, nat_eq, refl, ℕ}
use Rattle.executive_program.specs.declared.program.Buffer.{Buffer}
use Rattle.macro_code.specs.Text.{alloc_line, alloc_lines}
use Rattle.macro_code.proofs.Appending.{counted}
use Rattle.macro_code.proofs.processor.append_allocs.Goals as goal

pub loop-number-preserved : goal.loop-number-preserved
loop-number-preserved c =
    counted (λ (n : ℕ) (x : Buffer). cond (nat_eq x.operator c.args.operator) (alloc_line n x) []) (alloc_lines c.args.operator)
    (λ n x xs. refl) c.args.buffers.now c.loop-number.number (record { operator = 0; len = 0; depth = 0 })
    c.loop-number.out.items c.append_alloc.new.out.items _ c.loop-number-test.true c.in_ok-append_alloc.ensures c.loop-number.invariant
