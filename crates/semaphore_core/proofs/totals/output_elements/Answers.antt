-- All actuators together.
use Rattle.std.proofs.Common.{ℕ, ◌*◌, ap, ◌∙◌}
use Rattle.semaphore_core.proofs.Counting.{all_taken}
use Rattle.semaphore_core.proofs.totals.output_elements.Goals as goal

pub returns : goal.returns
returns c = ap (λ (n : ℕ). c.args.reactions * n) (c.taken_elements.ensures.value ∙ all_taken c.args.flat.now c.args.flat.now.vertices)
