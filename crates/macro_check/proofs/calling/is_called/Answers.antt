use Rattle.std.proofs.Common.{Bool, ap, ◌∙◌}
use Rattle.std.specs.Prelude.{◌&&◌, is_none}
use Rattle.sequence_build_laws.specs.Instructions.{medium}
use Rattle.sequence_build_laws.specs.Places.{caller_of}
use Rattle.program_tables.specs.declared.roles.Role.TheVariants.{Called}
use Rattle.program_tables.specs.Marks.{lone}
use Rattle.program_tables.proofs.Lone.{lone_is}
use Rattle.order_check.specs.Calls.{called_at, is_before_twin}
use Rattle.macro_check.proofs.calling.is_called.Goals as goal

pub returns : goal.returns
returns c =
    let m = c.of-marks.ensures ∙ c.requires.table c.args.operation c.requires.within in
    let s = c.call_of-call.ensures.sequence in
    let a = c.call_of-call.ensures.at in
    c.is_called_at.ensures
    ∙ (λ i. lone (s i) (m i) && is_none (medium c.args.program.now (s i)) && is_before_twin c.args.program.now (s i) (a i) c.args.x.now.kind c.args.x.now.twin)
    ∙ ap (λ (t : Bool). t && is_none (medium c.args.program.now (caller_of c.args.program.now c.args.operation))
    && is_before_twin c.args.program.now (caller_of c.args.program.now c.args.operation)
    (called_at c.args.program.now c.args.operation) c.args.x.now.kind c.args.x.now.twin)
    (lone_is c.args.program.now Called c.args.operation (caller_of c.args.program.now c.args.operation))
