use Rattle.std.proofs.Common.{◌≤◌, length, take, drop, subst, arith, ◌-◌}
use Rattle.std.proofs.lemmas.Result.{err_from_is_err_and}
use Rattle.std.proofs.lemmas.Grind.{common_steps}
use Rattle.syn_base.specs.Bytes.{Bytes}
use Rattle.outside.specs.Sink.{Appends}
use Rattle.outside.proofs.Append.{appends_more, take_more_within, wrote_front}
use Rattle.outside.proofs.write_whole.Goals as goal

pub returns-in_err-at : goal.returns-in_err-at
returns-in_err-at g c =
    let p = err_from_is_err_and c.from_residual.result c.from_residual.ensures.1 in
    rw p.1 (wrote_front c.loop-at.at c.args.bytes.now c.loop-at.invariant.1 c.in_err-at.ensures.nothing c.in_err-at.ensures.failed c.put.ensures.faults)

pub loop-at-preserved : goal.loop-at-preserved
loop-at-preserved g c =
    let fits = c.in_ok-at.ensures.fits in
    let l : length (take (length c.args.bytes.now - c.loop-at.at) (drop c.loop-at.at c.args.bytes.now)) ≤ length c.args.bytes.now - c.loop-at.at = grind (arith, common_steps) in (
      omega (arith, fits),
      subst (λ (x : Bytes). Appends (g.K.Sink.sunk c.args.sink.now) (g.K.Sink.sunk c.put.new.self) x) (take_more_within c.args.bytes.now c.loop-at.at c.in_ok-at.field-0)
          (appends_more c.loop-at.invariant.1 c.in_ok-at.ensures.took),
    )
