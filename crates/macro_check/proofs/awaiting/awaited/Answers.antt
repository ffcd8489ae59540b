use Rattle.std.proofs.Common.{sym, ap, subst, inl, ◌∙◌}
use Rattle.std.proofs.lemmas.Option.{slice_get_within}
use Rattle.sequence_build_laws.specs.declared.Instr.{Instr}
use Rattle.sequence_build_laws.specs.Instructions.{turn}
use Rattle.sequence_build_laws.specs.WellFormed.{Stands}
use Rattle.check_laws.specs.Run.{awaited}
use Rattle.macro_check.specs.Awaiting.{received_at, sent_at, stand_or}
use Rattle.macro_check.proofs.Told.{receive_told, send_told, wait_told}
use Rattle.macro_check.proofs.awaiting.awaited.Goals as goal

pub signal_of-requires-clause-within : goal.signal_of-requires-clause-within
signal_of-requires-clause-within c =
    c.requires.run.named c.args.sequence c.args.at c.in-Suc1.pair
    (inl (subst (λ (x : Instr). Stands c.args.program.now c.args.sequence c.args.at x) c.in-Suc1.is c.requires.here))

pub transfer_of-requires-clause-within : goal.transfer_of-requires-clause-within
transfer_of-requires-clause-within c = slice_get_within (turn c.args.program.now c.args.sequence) c.args.at c.args.instr.now c.requires.here

pub transfer_of-requires-in-Sync-clause-within : goal.transfer_of-requires-in-Sync-clause-within
transfer_of-requires-in-Sync-clause-within c = slice_get_within (turn c.args.program.now c.args.sequence) c.args.at c.args.instr.now c.requires.here

pub transfer_before-requires-clause-within : goal.transfer_before-requires-clause-within
transfer_before-requires-clause-within c = slice_get_within (turn c.args.program.now c.args.sequence) c.args.at c.args.instr.now c.requires.here

pub returns-in-Recv : goal.returns-in-Recv
returns-in-Recv c =
    let here = subst (λ (x : Instr). Stands c.args.program.now c.args.sequence c.args.at x) c.in-Recv.is c.requires.here in
    c.sent_at.ensures ∙ ap sent_at c.transfer_of.ensures
    ∙ receive_told c.args.program.now c.args.tables.now.media c.requires.run.transferred c.args.sequence c.args.at c.in-Recv.buffer c.in-Recv.from here
    ∙ ap (λ (x : Instr). stand_or (awaited c.args.program.now c.args.sequence c.args.at x)) (sym c.in-Recv.is)

pub returns-in-Sync : goal.returns-in-Sync
returns-in-Sync c =
    let here = subst (λ (x : Instr). Stands c.args.program.now c.args.sequence c.args.at x) c.in-Sync.is c.requires.here in
    c.received_at.ensures ∙ ap received_at c.transfer_of-in-Sync.ensures
    ∙ wait_told c.args.program.now c.args.tables.now.media c.requires.run.transferred c.args.sequence c.args.at c.in-Sync.from c.in-Sync.to here
    ∙ ap (λ (x : Instr). stand_or (awaited c.args.program.now c.args.sequence c.args.at x)) (sym c.in-Sync.is)

pub returns-in-Send : goal.returns-in-Send
returns-in-Send c =
    let here = subst (λ (x : Instr). Stands c.args.program.now c.args.sequence c.args.at x) c.in-Send.is c.requires.here in
    c.received_at-in-Send.ensures ∙ ap received_at c.transfer_before.ensures
    ∙ send_told c.args.program.now c.args.tables.now.media c.requires.run.transferred c.args.sequence c.args.at c.in-Send.buffer c.in-Send.to here
    ∙ ap (λ (x : Instr). stand_or (awaited c.args.program.now c.args.sequence c.args.at x)) (sym c.in-Send.is)
