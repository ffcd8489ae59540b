use Rattle.std.proofs.Common.{arith}
use Rattle.word_rule.proofs.Splitting.{split_allowed}
use Rattle.word_rule.proofs.Seats.{seated_at}
use Rattle.word_rule.proofs.table.WordTable.split_by.Goals as goal

pub split_seat-seat-requires : goal.split_seat-seat-requires
split_seat-seat-requires g c = let q = c.requires in let t = c.self.inside.table.shared in let w = c.seat.inside.seat in let e = c.self.invariant.1 in (
  seated_at _ _ _ _ c.self.view_is c.seat.view_is q.seat,
  omega (arith, e),
  split_allowed t.key w.id g.N.Picking.test w.me.0,
)
