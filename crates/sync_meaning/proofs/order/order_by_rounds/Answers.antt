use Rattle.std.proofs.Common.{◌≡◌, true, length, arith}
use Rattle.std.proofs.lemmas.Bool.{false≢true}
use Rattle.flat_graph.specs.Order.{is_done}
use Rattle.sync_meaning.proofs.Rounds.{done_more, all_are_done, order_if_done}
use Rattle.sync_meaning.proofs.order.order_by_rounds.Goals as goal

pub loop-rounds-init : goal.loop-rounds-init
loop-rounds-init c = record { begun = c.requires.begun; so_far = λ u h. absurd (false≢true h) }

pub loop-rounds-preserved : goal.loop-rounds-preserved
loop-rounds-preserved c = record {
  begun = c.in_ok-one_round.ensures.begun;
  so_far = done_more c.args.vertices.now c.loop-rounds.rounds c.loop-rounds.begun c.one_round.new.begun c.loop-rounds.invariant.so_far c.in_ok-one_round.ensures;
}

pub returns : goal.returns
returns c =
    let l = c.loop-rounds in
    let vertices = c.args.vertices.now in
    let rounds : l.rounds ≡ length vertices = omega arith in
    order_if_done vertices l.begun l.invariant.begun (λ v lt. let done : is_done vertices l.rounds v ≡ true = rw rounds (all_are_done vertices c.requires.acyclic v lt) in l.invariant.so_far v done)
