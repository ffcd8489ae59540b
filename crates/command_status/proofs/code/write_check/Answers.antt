use Rattle.std.proofs.Common.{subst}
use Rattle.std.specs.Prelude.{is_ok, false, true}
use Rattle.std.proofs.lemmas.Result.{err_from_is_err_and}
use Rattle.syn_base.specs.Bytes.{Bytes}
use Rattle.command_plan.specs.Sink.{Wrote}
use Rattle.command_plan.proofs.Append.{wrote_part, wrote_then}
use Rattle.command_status.specs.Lines.{check_detail, check_head, check_word}
use Rattle.command_status.proofs.code.write_check.Goals as goal

pub returns-in_err-write_check_head : goal.returns-in_err-write_check_head
returns-in_err-write_check_head g c =
    let E = g.E.Sink.sunk in
    let cause = c.args.cause.now in
    let p = err_from_is_err_and c.from_residual.result c.from_residual.ensures.1 in
    rw p.1 (wrote_part (E c.args.err.now) (E c.write_check_head.new.err) (check_head (check_word cause)) (check_detail cause)
    (subst (λ (w : Bytes). Wrote (E c.args.err.now) (E c.write_check_head.new.err) (check_head w) false) c.check_word-word.ensures c.in_err-write_check_head.ensures))

pub returns : goal.returns
returns g c =
    let E = g.E.Sink.sunk in
    let cause = c.args.cause.now in
    wrote_then (E c.args.err.now) (E c.write_check_head.new.err) (E c.write_check_detail.new.err) (check_head (check_word cause)) (check_detail cause)
    (is_ok c.write_check_detail.result)
    (subst (λ (w : Bytes). Wrote (E c.args.err.now) (E c.write_check_head.new.err) (check_head w) true) c.check_word-word.ensures c.in_ok-write_check_head.ensures) c.write_check_detail.ensures
