-- The rows have the actuators' lengths.
use Rattle.std.proofs.Common.{◌≡◌, ◌∙◌, ap, map, replicate}
use Rattle.syn_base.specs.Rows.{Reactions}
use Rattle.executive_program.specs.Graph.{Graph}
use Rattle.executive_program.specs.FlatLaws.{actuator_lens}
use Rattle.semaphore_core.proofs.operations.cells_and_rows.Goals as goal
use Rattle.syn_base.specs.Vectors.{zeros}

pub returns-clause-lens : goal.returns-clause-lens
returns-clause-lens c = ap (λ (r : Reactions). r.lens) c.in_ok-rows.ensures ∙ c.as_slice.ensures ∙ c.in_ok-lens.ensures ∙ ap (λ (g : Graph). actuator_lens g g.vertices) c.flat.ensures

pub returns-clause-rows : goal.returns-clause-rows
returns-clause-rows c =
    let lens : c.as_slice.result.now ≡ actuator_lens c.args.job.now.graph c.args.job.now.graph.vertices = c.as_slice.ensures
    ∙ c.in_ok-lens.ensures ∙ ap (λ (g : Graph). actuator_lens g g.vertices) c.flat.ensures in
    ap (λ (r : Reactions). r.reactions) c.in_ok-rows.ensures ∙ (λ i. replicate (c.reactions.ensures i) (map zeros (lens i)))
