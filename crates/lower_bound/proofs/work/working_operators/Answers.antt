use Rattle.std.proofs.Common.{arith, length, sym, ◌∙◌}
use Rattle.self_timed.specs.Table.{entry_in}
use Rattle.lower_bound.specs.Bound.{may_work}
use Rattle.lower_bound.proofs.Sums.{count_yes, count_no}
use Rattle.lower_bound.proofs.work.working_operators.Goals.{then-may_work, else-may_work}
use Rattle.lower_bound.proofs.work.working_operators.Goals as goal

pub loop-operator-preserved : goal.loop-operator-preserved
loop-operator-preserved c =
    let d = c.args.durations.now in
    let so_far = c.loop-operator.invariant.count in
    let low = c.loop-operator.invariant.low in
    elim c.if-may_work.branch [
      | then-may_work w ↦
          (let e = count_yes (may_work d.operators (entry_in d) (length d.rows)) c.loop-operator.operator (sym c.may_work.ensures ∙ w.if-may_work.true) in
          let n = w.count-is in
          record { count = omega arith; low = omega arith })
      | else-may_work w ↦
          (let e = count_no (may_work d.operators (entry_in d) (length d.rows)) c.loop-operator.operator (sym c.may_work.ensures ∙ w.if-may_work.false) in
          let n = w.count-is in
          record { count = omega arith; low = omega arith })
    ]
