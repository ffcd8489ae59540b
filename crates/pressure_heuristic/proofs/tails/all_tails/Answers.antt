use Rattle.pressure_heuristic.proofs.Solved.{dates_are}
use Rattle.pressure_heuristic.proofs.tails.all_tails.Goals as goal

pub returns-then-are_same-clause-tails : goal.returns-then-are_same-clause-tails
returns-then-are_same-clause-tails c =
    dates_are c.args.vertices.now c.args.durations.now c.requires.acyclic c.deref.result.now c.deref-in-loop-turn.result.now c.deref-in-loop-turn-2.result.now c.in_ok-next.next.items
    c.deref.ensures.value c.deref-in-loop-turn.ensures.value (c.are_same.ensures c.if-are_same.true) c.deref-in-loop-turn-2.ensures.value c.in_ok-next.ensures.next
