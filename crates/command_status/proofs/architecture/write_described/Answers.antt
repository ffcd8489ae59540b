use Rattle.std.specs.Prelude.{is_ok, false, true}
use Rattle.std.proofs.lemmas.Result.{err_from_is_err_and}
use Rattle.command_plan.proofs.Append.{wrote_part, wrote_then}
use Rattle.command_status.specs.Lines.{head, architecture_detail, architecture_word}
use Rattle.command_status.proofs.Heads.{head_wrote}
use Rattle.command_status.proofs.architecture.write_described.Goals as goal

pub returns-in_err-write_head : goal.returns-in_err-write_head
returns-in_err-write_head g c =
    let E = g.E.Sink.sunk in
    let fault = c.args.fault.now in
    let text = c.args.text.now in
    let p = err_from_is_err_and c.from_residual.result c.from_residual.ensures.1 in
    rw p.1 (wrote_part (E c.args.err.now) (E c.write_head.new.err) (head text fault.line (architecture_word fault.cause)) (architecture_detail fault.cause)
    (head_wrote (E c.args.err.now) (E c.write_head.new.err) text _ fault.line _ (architecture_word fault.cause) false c.from.ensures c.architecture_word-word.ensures c.in_err-write_head.ensures))

pub returns : goal.returns
returns g c =
    let E = g.E.Sink.sunk in
    let fault = c.args.fault.now in
    let text = c.args.text.now in
    wrote_then (E c.args.err.now) (E c.write_head.new.err) (E c.write_architecture_detail.new.err) (head text fault.line (architecture_word fault.cause)) (architecture_detail fault.cause)
    (is_ok c.write_architecture_detail.result)
    (head_wrote (E c.args.err.now) (E c.write_head.new.err) text _ fault.line _
    (architecture_word fault.cause) true c.from.ensures c.architecture_word-word.ensures c.in_ok-write_head.ensures) c.write_architecture_detail.ensures
