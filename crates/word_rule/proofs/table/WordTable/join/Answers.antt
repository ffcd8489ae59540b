use Rattle.std.proofs.Common.{arith}
use Rattle.word_rule.proofs.Splitting.{join_allowed}
use Rattle.word_rule.proofs.Seats.{seated_at}
use Rattle.word_rule.proofs.table.WordTable.join.Goals as goal

pub join_seat-requires : goal.join_seat-requires
join_seat-requires c = let q = c.requires in let t = c.self.inside.table.shared in let w = c.seat.inside.seat in let o = c.other.inside.seat in let e = c.self.invariant.1 in (
  seated_at _ _ _ _ c.self.view_is c.seat.view_is q.seat,
  seated_at _ _ _ _ c.self.view_is c.other.view_is q.other,
  c.other.invariant,
  omega (arith, e),
  join_allowed t.key w.id o.id w.me.0 o.me.0,
)
