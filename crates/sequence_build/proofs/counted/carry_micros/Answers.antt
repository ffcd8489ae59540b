use Rattle.std.proofs.Common.{arith}
use Rattle.sequence_build.proofs.Micros.{carry_is}
use Rattle.sequence_build.proofs.counted.carry_micros.Goals as goal

pub returns : goal.returns
returns c =
    let all = carry_is c.args.bare.now c.args.site.now c.args.transfer.now in
    let sent = c.copy_len-sent.ensures in
    let received = c.copy_len-received.ensures in
    let waits = c.others-waits.ensures in
    omega arith
