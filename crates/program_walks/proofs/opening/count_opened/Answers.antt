use Rattle.std.proofs.Common.{◌≡◌, ℕ, suc, ◌+◌, ◌<◌, List, length, sym, ap, subst, arith, ◌∙◌}
use Rattle.std.specs.Prelude.{Some}
use Rattle.executive_program.specs.declared.program.Buffer.{Buffer}
use Rattle.executive_program.specs.Blocks.{blocks}
use Rattle.executive_program.specs.Instructions.{readers_from}
use Rattle.program_walks.specs.Walks.{passed}
use Rattle.program_walks.specs.Opened.{opens}
use Rattle.program_walks.proofs.Passing.{block_passed, block_stops}
use Rattle.program_walks.proofs.opening.count_opened.Goals as goal

pub returns-in_err-pair : goal.returns-in_err-pair
returns-in_err-pair c =
    let p = c.args.program.now in
    let l : c.loop-buffer.buffer < length p.buffers = let e = ap (λ (b : List Buffer). length b) c.as_slice-buffer-end.ensures in let t = c.loop-buffer-test.true in omega arith in
    c.from_residual.ensures ∙ sym (block_stops (opens p) (readers_from 0 p.seqs) (length p.buffers) c.loop-buffer.buffer c.loop-buffer.pair l c.loop-buffer.invariant (sym c.in_err-pair.ensures))

pub loop-buffer-preserved : goal.loop-buffer-preserved
loop-buffer-preserved c =
    let p = c.args.program.now in
    subst (λ (k : ℕ). passed (opens p) 0 (blocks (readers_from 0 p.seqs) k) ≡ Some c.in_ok-pair.pair) (let s : suc c.loop-buffer.buffer ≡ c.loop-buffer.buffer + 1 = omega arith in s)
    (block_passed (opens p) (readers_from 0 p.seqs) c.loop-buffer.buffer c.loop-buffer.pair (Some c.in_ok-pair.pair) c.loop-buffer.invariant (sym c.in_ok-pair.ensures))
