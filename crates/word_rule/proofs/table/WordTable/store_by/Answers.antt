use Rattle.std.proofs.Common.{◌≡◌, ap, ◌∙◌, w64}
use Rattle.std.proofs.lemmas.Int.{to_z-of_z}
use Rattle.word_rule.specs.Words.{word_of, IsExact}
use Rattle.word_rule.specs.Steps.{CanStep}
use Rattle.word_rule.proofs.Allowed.{word_there}
use Rattle.word_rule.proofs.Moving.{store_allowed}
use Rattle.word_rule.proofs.Seats.{can_at, stores_at}
use Rattle.word_rule.proofs.table.WordTable.store_by.Goals as goal

pub store-requires : goal.store-requires
store-requires g c = let q = c.requires in let a = c.args in let t = c.self.inside.table.shared in let w = c.seat.inside.seat in
    let can : CanStep (record { table = t.table_id; key = t.key }) (record { table = w.table_id; view = w.me.0 }) a.next = can_at _ _ _ _ a.next c.self.view_is c.seat.view_is q.can in
    let exact : IsExact a.value = to_z-of_z w64 a.value c.ranges.value in
    let word : c.cast_unsigned.result ≡ word_of a.value = c.cast_unsigned.ensures ∙ ap word_of exact in (
      can.seated,
      word_there t.key w.me.0 a.next.seq a.next.reaction a.next.step a.next.word t.table_id.words c.self.invariant.0 can.stands can.word_is c.self.invariant.1,
      rw (q.named, c.seat.invariant, word)
          (store_allowed t.key w.me.0 a.next.seq a.next.reaction a.next.step a.value t.table_id.slots w.id a.next.word c.self.invariant.0
          can.stands (stores_at _ _ a.next a.value c.seat.view_is q.value) exact can.word_is),
    )
