use Rattle.std.proofs.Common.{◌<◌, length, arith, ap, sym, ◌∙◌, length-set}
use Rattle.std.proofs.lemmas.Bool.{true≢false}
use Rattle.self_timed.specs.Turns.{renewed}
use Rattle.self_timed.proofs.Turning.{kept_is, settled_more, turn_done, turn_more}
use Rattle.self_timed.proofs.reach.has_changed.Goals.{then-changed, else-changed}
use Rattle.self_timed.proofs.reach.has_changed.Goals as goal

pub loop-op-preserved : goal.loop-op-preserved
loop-op-preserved c =
    let vs = c.args.vertices.now in
    let v = c.args.on in
    let i = c.loop-op.op in
    let table = c.loop-op.table in
    let after = c.renew-renewed.new.table in
    let is = c.renew-renewed.ensures.renewed in
    let size = c.loop-op.invariant.size in
    let here : i < length table = omega arith in
    record {
      size = ap length is ∙ length-set table i (renewed vs v table i) ∙ size;
      right = λ rounds h. turn_more vs v c.requires.acyclic rounds i table after c.loop-op-test.true here is (c.loop-op.invariant.right rounds h);
      settled = λ e. (elim c.if-changed.branch [
        | then-changed w ↦ absurd (true≢false (sym w.if-changed.true ∙ sym w.changed-is ∙ e))
        | else-changed w ↦ settled_more vs v i table after here is
            (kept_is table after i (renewed vs v table i) here is (c.renew-renewed.ensures.same (sym w.changed-is ∙ e)))
            (c.loop-op.invariant.settled w.if-changed.false)
      ]);
    }

pub returns-clause-right : goal.returns-clause-right
returns-clause-right c = λ rounds h. turn_done c.args.vertices.now c.args.on c.requires.acyclic rounds c.loop-op.op c.loop-op.table c.loop-op-test.false (c.loop-op.invariant.right rounds h)
