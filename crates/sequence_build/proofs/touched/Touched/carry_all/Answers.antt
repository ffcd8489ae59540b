-- One more transfer.
use Rattle.std.proofs.Common.{List, map, ap, subst}
use Rattle.std.specs.List.{flat_map}
use Rattle.std.proofs.lemmas.List.{drop_more}
use Rattle.sequence_build_laws.specs.declared.Transfer.{Transfer}
use Rattle.sequence_build_laws.specs.Acts.{carry}
use Rattle.sequence_build_laws.specs.Serial.{Step}
use Rattle.sequence_build.specs.Plain.{steps_at}
use Rattle.sequence_build.proofs.Touching.{notes_next, NotesUp}
use Rattle.sequence_build.proofs.touched.Touched.carry_all.Goals as goal

pub loop-transfer-preserved : goal.loop-transfer-preserved
loop-transfer-preserved c =
    let ts = c.args.transfers.now in
    let k = c.loop-transfer.transfer-index in
    let none : Transfer = record { source = record { vertex = 0; port = 0 }; medium = 0; from = 0; to = 0; start = 0; end = 0 } in
    notes_next
    (subst (λ (l : List Step). NotesUp c.args.self.now c.loop-transfer.self l (flat_map (steps_at c.args.site.now) (map carry ts)))
    (ap (λ (xs : List Transfer). flat_map (steps_at c.args.site.now) (map carry xs)) (drop_more ts k none c.loop-transfer-test.true)) c.loop-transfer.invariant)
    c.in_ok-carry.ensures
