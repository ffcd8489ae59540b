use Rattle.std.proofs.Common.{arith, ◌∙◌}
use Rattle.flat_graph.proofs.Rounds.{after_a_round, all_done}
use Rattle.flat_graph.proofs.order.is_acyclic.Goals as goal

pub loop-rounds-preserved : goal.loop-rounds-preserved
loop-rounds-preserved c =
    after_a_round c.args.vertices.now c.loop-rounds.done c.one_round_more-done.result c.loop-rounds._rounds c.loop-rounds.invariant c.one_round_more-done.ensures

pub returns : goal.returns
returns c = c.are_all_set.ensures ∙ all_done c.args.vertices.now c.loop-rounds.done c.loop-rounds._rounds (omega arith) (omega arith) c.loop-rounds.invariant
