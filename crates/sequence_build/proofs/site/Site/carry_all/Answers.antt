-- One more transfer.
use Rattle.std.proofs.Common.{List, map, drop, get_or, ◌+◌, ◌∙◌, ap, arith, subst}
use Rattle.std.specs.List.{flat_map}
use Rattle.std.proofs.lemmas.List.{drop_more}
use Rattle.sequence_build_laws.specs.declared.Transfer.{Transfer}
use Rattle.sequence_build_laws.specs.Acts.{carry}
use Rattle.sequence_build_laws.specs.Serial.{Step}
use Rattle.sequence_build.specs.Plain.{steps_at}
use Rattle.sequence_build.proofs.Adding.{comes_next, ComesTo}
use Rattle.sequence_build.proofs.site.Site.carry_all.Goals as goal

pub loop-transfer-preserved : goal.loop-transfer-preserved
loop-transfer-preserved c =
    let steps = λ (ts : List Transfer). flat_map (steps_at c.args.self.now) (map carry ts) in
    let ts = c.args.transfers.now in
    let k = c.loop-transfer.transfer-index in
    let none : Transfer = record { source = record { vertex = 0; port = 0 }; medium = 0; from = 0; to = 0; start = 0; end = 0 } in
    let before = c.loop-transfer.invariant.many in
    record {
      many = c.carry.ensures.many ∙ before;
      left =
          comes_next c.args.loops.now.items c.loop-transfer.loops.items c.carry.new.loops.items (steps_at c.args.self.now (carry (get_or ts k none))) (steps (drop (k + 1) ts)) (steps ts) (omega arith)
          (subst (λ (l : List Step). ComesTo c.args.loops.now.items c.loop-transfer.loops.items l (steps ts)) (ap steps (drop_more ts k none c.loop-transfer-test.true)) c.loop-transfer.invariant.left)
          c.in_ok-carry.ensures.adds;
    }
