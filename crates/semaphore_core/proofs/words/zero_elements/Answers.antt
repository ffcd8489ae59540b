-- One more wire.
use Rattle.std.proofs.Common.{◌++◌, ◌∷◌, [], List, ℤ, ℕ, ap, ◌∙◌}
use Rattle.semaphore_core.specs.Core.{buffer_zeros}
use Rattle.executive_program.specs.MicroSteps.{wire_len}
use Rattle.executive_program.proofs.Expanding.{blocks_more}
use Rattle.semaphore_core.proofs.words.zero_elements.Goals as goal
use Rattle.syn_base.specs.Vectors.{zeros}

pub loop-medium-preserved : goal.loop-medium-preserved
loop-medium-preserved c = blocks_more (λ (m : ℕ). zeros (wire_len c.args.program.now m) ∷ []) c.loop-medium.medium
    (buffer_zeros c.args.program.now) c.loop-medium.all.items c.push.new.self.items c.loop-medium.invariant
    (c.in_ok-push.ensures.items ∙ ap (λ (l : List ℤ). c.loop-medium.all.items ++ l ∷ []) (c.in_ok-zeros.ensures ∙ ap (λ (n : ℕ). zeros n) c.wire_len.ensures))
