use Rattle.std.proofs.Common.{◌≡◌, true, length, sym, ap, arith, ◌∙◌, below_more}
use Rattle.program_walks.specs.Buffers.{is_buffer}
use Rattle.program_tables.proofs.Below.{one_fails, all_pass}
use Rattle.program_tables.proofs.buffers.are_buffers.Goals as goal

pub returns-then-not-is_right : goal.returns-then-not-is_right
returns-then-not-is_right c =
    one_fails (is_buffer c.args.program.now) (length c.args.program.now.buffers) c.loop-buffer.buffer
    (let n = ap length c.as_slice-buffer-end.ensures in let l = c.loop-buffer-test.true in omega arith) (sym c.is_right.ensures ∙ c.if-not-is_right.true)

pub loop-buffer-preserved : goal.loop-buffer-preserved
loop-buffer-preserved c = below_more (λ b. is_buffer c.args.program.now b ≡ true) c.loop-buffer.buffer c.loop-buffer.invariant (sym c.is_right.ensures ∙ c.if-not-is_right.false)

pub returns : goal.returns
returns c = all_pass (is_buffer c.args.program.now) (length c.args.program.now.buffers)
    (λ b l. c.loop-buffer.invariant b (let n = ap length c.as_slice-buffer-end.ensures in let m = c.loop-buffer-test.false in omega arith))
