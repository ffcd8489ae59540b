use Rattle.std.proofs.Common.{◌≡◌, length, arith}
use Rattle.sync_meaning.proofs.Rounds.{none_tried, one_more_tried, all_tried}
use Rattle.sync_meaning.proofs.order.one_round.Goals as goal

pub loop-v-init : goal.loop-v-init
loop-v-init c = none_tried c.args.vertices.now c.args.begun.now c.requires.begun

pub loop-v-preserved : goal.loop-v-preserved
loop-v-preserved c =
    one_more_tried c.args.vertices.now c.loop-v.v c.args.begun.now c.loop-v.begun c.try_operation.new.begun c.loop-v.invariant c.in_ok-try_operation.ensures

pub returns : goal.returns
returns c =
    let all : c.loop-v.v ≡ length c.args.vertices.now = omega arith in
    all_tried c.args.vertices.now c.loop-v.v c.args.begun.now c.loop-v.begun all c.loop-v.invariant
