-- The calls: the lists that were read are those of the instruction. The takes: the table has the places of the pair's buffer.
use Rattle.std.proofs.Common.{◌≡◌, ℕ, ◌+◌, ◌*◌, ◌++◌, List, get_or, ap, ◌∙◌}
use Rattle.executive_program.specs.declared.steps.MicroStep.{MicroStep}
use Rattle.executive_program.specs.Instructions.{pair_depth}
use Rattle.executive_program.specs.Steps.{take_steps}
use Rattle.executive_program.specs.declared.program.Program.{Program}
use Rattle.executive_program.specs.Sizes.{pair_depths}
use Rattle.executive_program.proofs.DepthTable.{pair_depth_is}
use Rattle.executive_program.proofs.Expanding.{same_call}
use Rattle.executive_program.proofs.expand.push_instr.Goals as goal

pub returns-in_ok-push_call-in-Call : goal.returns-in_ok-push_call-in-Call
returns-in_ok-push_call-in-Call c =
    rw c.in-Call.is (same_call c.args.program.now c.in-Call.vertex c.as_slice.result.now c.in-Call.ins c.as_slice-in-Call.result.now c.in-Call.outs c.args.out.now.items c.push_call.new.out.items
    c.as_slice.ensures c.as_slice-in-Call.ensures c.in_ok-push_call-in-Call.ensures)

-- the table has the places of the pair's buffer
take_more : (p : Program) (depths : List ℕ) (depth q x : ℕ) (old new : List MicroStep) → depths ≡ pair_depths p → depth ≡ get_or depths q 1
    → new ≡ old ++ take_steps depth x → new ≡ old ++ take_steps (pair_depth p q) x
take_more p depths depth q x old new d e n = n ∙ ap (λ (k : ℕ). old ++ take_steps k x) (e ∙ ap (λ (l : List ℕ). get_or l q 1) d ∙ pair_depth_is p q)

pub returns-in_ok-push_take-in-Suc0 : goal.returns-in_ok-push_take-in-Suc0
returns-in_ok-push_take-in-Suc0 c = rw c.in-Suc0.is (take_more c.args.program.now c.args.depths.now c.depth_at.result c.in-Suc0.pair (2 * c.in-Suc0.pair) c.args.out.now.items c.push_take.new.out.items
    c.requires.depths c.depth_at.ensures c.in_ok-push_take-in-Suc0.ensures)

pub returns-in_ok-push_take-in-Suc1 : goal.returns-in_ok-push_take-in-Suc1
returns-in_ok-push_take-in-Suc1 c =
    rw c.in-Suc1.is (take_more c.args.program.now c.args.depths.now c.depth_at-in-Suc1.result c.in-Suc1.pair
    (2 * c.in-Suc1.pair + 1) c.args.out.now.items c.push_take-in-Suc1.new.out.items
    c.requires.depths c.depth_at-in-Suc1.ensures c.in_ok-push_take-in-Suc1.ensures)
