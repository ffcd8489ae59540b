use Rattle.word_rule.specs.Steps.{CanStep}
use Rattle.word_rule.proofs.Allowed.{word_there}
use Rattle.word_rule.proofs.Moving.{lower_allowed}
use Rattle.word_rule.proofs.Seats.{can_at}
use Rattle.word_rule.proofs.table.WordTable.lower_by.Goals as goal

pub fetch_sub-requires : goal.fetch_sub-requires
fetch_sub-requires g c = let q = c.requires in let a = c.args in let t = c.self.inside.table.shared in let w = c.seat.inside.seat in
    let can : CanStep (record { table = t.table_id; key = t.key }) (record { table = w.table_id; view = w.me.0 }) a.next = can_at _ _ _ _ a.next c.self.view_is c.seat.view_is q.can in (
      can.seated,
      word_there t.key w.me.0 a.next.seq a.next.reaction a.next.step a.next.word t.table_id.words c.self.invariant.0 can.stands can.word_is c.self.invariant.1,
      rw (q.named, c.seat.invariant) (lower_allowed t.key w.me.0 a.next.seq a.next.reaction a.next.step t.table_id.slots w.id a.next.word c.self.invariant.0 can.stands q.kind can.word_is),
    )
