use Rattle.std.proofs.Common.{codes, refl}
use Rattle.std.specs.Prelude.{is_ok, false, true}
use Rattle.std.proofs.lemmas.Result.{err_from_is_err_and}
use Rattle.syn_base.specs.Bytes.{Bytes}
use Rattle.command_plan.proofs.Append.{wrote_part, wrote_then}
use Rattle.command_status.specs.Lines.{head, sensors_detail, sensors_word}
use Rattle.command_status.proofs.Heads.{head_wrote}
use Rattle.command_status.proofs.line.write_sensors.Goals as goal

pub returns-in_err-write_head : goal.returns-in_err-write_head
returns-in_err-write_head g c =
    let E = g.E.Sink.sunk in
    let fault = c.args.fault.now in
    let text : Bytes = codes "sensors row " in
    let p = err_from_is_err_and c.from_residual.result c.from_residual.ensures.1 in
    rw p.1 (wrote_part (E c.args.err.now) (E c.write_head.new.err) (head text fault.row (sensors_word fault.cause)) (sensors_detail fault.cause)
    (head_wrote (E c.args.err.now) (E c.write_head.new.err) text _ fault.row _ (sensors_word fault.cause) false refl c.sensors_word-word.ensures c.in_err-write_head.ensures))

pub returns : goal.returns
returns g c =
    let E = g.E.Sink.sunk in
    let fault = c.args.fault.now in
    let text : Bytes = codes "sensors row " in
    wrote_then (E c.args.err.now) (E c.write_head.new.err) (E c.write_sensors_detail.new.err) (head text fault.row (sensors_word fault.cause)) (sensors_detail fault.cause)
    (is_ok c.write_sensors_detail.result)
    (head_wrote (E c.args.err.now) (E c.write_head.new.err) text _ fault.row _
    (sensors_word fault.cause) true refl c.sensors_word-word.ensures c.in_ok-write_head.ensures) c.write_sensors_detail.ensures
