use Rattle.std.proofs.Common.{sym, ◌∙◌}
use Rattle.sequence_build.specs.Program.{assembled}
use Rattle.sequence_build.proofs.Assembling.{made_is}
use Rattle.sequence_build.proofs.Covering.{covered}
use Rattle.sequence_build.proofs.program.build.Goals as goal

pub plain_program-requires : goal.plain_program-requires
plain_program-requires c = covered c.args.flat.now c.args.archi.now c.requires.0 c.args.schedule.now c.vertices.ensures.valid c.media.ensures.valid c.requires.1

pub returns-in_ok-with_semaphores-in-None-clause-ok : goal.returns-in_ok-with_semaphores-in-None-clause-ok
returns-in_ok-with_semaphores-in-None-clause-ok c =
    made_is c.args.flat.now c.args.archi.now c.args.schedule.now c.vertices.ensures.valid c.media.ensures.valid c.depth.ensures.valid
    c.requires c.in_ok-fault.field-0 c.in_ok-fault.ensures (sym c.in-None.is)
    c.in_ok-with_semaphores-in-None.field-0
    (c.in_ok-with_semaphores-in-None.ensures ∙ (λ i. assembled (c.depth.ensures.same i) (c.in_ok-plain-in-None.ensures i)))
