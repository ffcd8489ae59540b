use Rattle.std.proofs.Common.{sym, ap, subst, ◌∙◌}
use Rattle.std.specs.Prelude.{Some}
use Rattle.std.proofs.lemmas.Option.{slice_get_within}
use Rattle.sequence_build_laws.specs.declared.Instr.{Instr}
use Rattle.sequence_build_laws.specs.Instructions.{turn}
use Rattle.sequence_build_laws.specs.WellFormed.{Stands}
use Rattle.order_check.specs.Carries.{origin_of}
use Rattle.macro_check.specs.Carrying.{from_transfer}
use Rattle.macro_check.proofs.Sourced.{received_is}
use Rattle.macro_check.proofs.carrying.origin_of.Goals as goal

pub transfer_of-requires-clause-within : goal.transfer_of-requires-clause-within
transfer_of-requires-clause-within c = slice_get_within (turn c.args.program.now c.args.write.writer) c.args.write.at c.args.instr.now c.requires.here

pub returns-in-Recv : goal.returns-in-Recv
returns-in-Recv c =
    let here = subst (λ (x : Instr). Stands c.args.program.now c.args.write.writer c.args.write.at x) c.in-Recv.is c.requires.here in
    c.from_transfer.ensures ∙ ap from_transfer c.transfer_of.ensures
    ∙ received_is c.args.program.now c.args.tables.now.media c.requires.transferred c.args.write.writer c.args.write.at c.in-Recv.buffer c.in-Recv.from here
    ∙ ap (λ (x : Instr). origin_of c.args.program.now c.args.write.writer c.args.write.at c.args.write.port (Some x)) (sym c.in-Recv.is)
