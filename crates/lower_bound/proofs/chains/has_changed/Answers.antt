use Rattle.std.proofs.Common.{◌<◌, length, arith, ap, sym, ◌∙◌, length-set}
use Rattle.std.proofs.lemmas.Bool.{true≢false}
use Rattle.self_timed.specs.Table.{entry_in}
use Rattle.lower_bound.specs.Turns.{most_date, renewed}
use Rattle.lower_bound.proofs.Least.{entry_low}
use Rattle.lower_bound.proofs.Renewed.{kept_is, settled_more, turn_done, turn_more, written_low}
use Rattle.lower_bound.proofs.chains.has_changed.Goals.{then-changed, else-changed}
use Rattle.lower_bound.proofs.chains.has_changed.Goals as goal

pub loop-op-preserved : goal.loop-op-preserved
loop-op-preserved c =
    let d = c.args.durations.now in
    let vs = c.args.vertices.now in
    let ms = c.args.media.now in
    let i = c.loop-op.op in
    let dates = c.loop-op.ends in
    let after = c.renew-renewed.new.ends in
    let is = c.renew-renewed.ensures.renewed in
    let size = c.loop-op.invariant.size in
    let here : i < length dates = omega arith in
    let date = renewed d.operators (entry_in d) vs ms dates i in
    record {
      size = ap length is ∙ length-set dates i date ∙ size;
      low = written_low dates after i date most_date here is (omega arith) c.loop-op.invariant.low;
      chains = λ rounds h.
          turn_more d.operators (entry_in d) vs ms c.requires.acyclic c.requires.few
          (entry_low d c.operations-operations.ensures.valid) c.requires.short rounds i dates after c.loop-op-test.true here is
          (c.loop-op.invariant.chains rounds h);
      settled = λ e. (elim c.if-changed.branch [
        | then-changed w ↦ absurd (true≢false (sym w.if-changed.true ∙ sym w.changed-is ∙ e))
        | else-changed w ↦ settled_more d.operators (entry_in d) vs ms i dates after here is
            (kept_is dates after i date here is (c.renew-renewed.ensures.same (sym w.changed-is ∙ e))) (c.loop-op.invariant.settled w.if-changed.false)
      ]);
    }

pub returns-clause-chains : goal.returns-clause-chains
returns-clause-chains c = λ rounds h. (let d = c.args.durations.now in
    turn_done d.operators (entry_in d) c.args.vertices.now c.args.media.now c.requires.acyclic c.requires.few
    (entry_low d c.operations-operations.ensures.valid) c.requires.short rounds c.loop-op.op c.loop-op.ends c.loop-op-test.false
    (c.loop-op.invariant.chains rounds h))
