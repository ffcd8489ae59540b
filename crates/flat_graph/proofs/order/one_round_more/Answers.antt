use Rattle.std.proofs.Common.{arith, length-set, ◌∙◌}
use Rattle.flat_graph.proofs.Rounds.{past_more, rest_more, whole_round}
use Rattle.flat_graph.proofs.order.one_round_more.Goals as goal

pub loop-v-preserved : goal.loop-v-preserved
loop-v-preserved c = record {
  long = length-set c.loop-v.done c.loop-v.v c.is_done_now.result ∙ c.loop-v.invariant.long;
  past = past_more c.args.vertices.now c.args.before.now c.loop-v.done c.loop-v.v c.index-vertices-v.result c.is_done_now.result
      c.loop-v-test.true (omega arith) c.index-vertices-v.is c.is_done_now.ensures c.loop-v.invariant.past;
  rest = rest_more c.args.vertices.now c.args.before.now c.loop-v.done c.loop-v.v c.is_done_now.result c.loop-v.invariant.rest;
}

pub returns : goal.returns
returns c = whole_round c.args.vertices.now c.args.before.now c.loop-v.done c.loop-v.v c.loop-v-test.false c.loop-v.invariant.past c.loop-v.invariant.rest
