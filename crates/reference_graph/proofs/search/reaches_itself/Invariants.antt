use Rattle.std.proofs.Common.{◌≡◌, length}
use Rattle.reference_graph.specs.Reached.{IsReached}
use Rattle.reference_graph.proofs.search.reaches_itself.Given as goal

abbrev pub invariant-loop-next : goal.invariant-loop-next
invariant-loop-next l = record { same : length l.marks.items ≡ length l.links; reached : IsReached l.links l.a l.marks.items l.queue.items l.next }
