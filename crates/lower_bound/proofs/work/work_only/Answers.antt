use Rattle.std.proofs.Common.{◌≡◌, Bool, cond, ap, arith, sym, ◌∙◌}
use Rattle.self_timed.specs.Table.{entry_in}
use Rattle.lower_bound.specs.Bound.{least, stands_only}
use Rattle.lower_bound.proofs.Sums.{filtered_more}
use Rattle.lower_bound.proofs.work.work_only.Goals.{then-stands_only, else-stands_only}
use Rattle.lower_bound.proofs.work.work_only.Goals as goal

pub loop-op-preserved : goal.loop-op-preserved
loop-op-preserved c =
    let d = c.args.durations.now in
    let i = c.loop-op.op in
    let e = filtered_more (least d.operators (entry_in d)) (stands_only d.operators (entry_in d) c.args.operator) i in
    let so_far = c.loop-op.invariant.sum in
    let low = c.loop-op.invariant.low in
    elim c.if-stands_only.branch [
      | then-stands_only w ↦
          (let h : cond (stands_only d.operators (entry_in d) c.args.operator i) (least d.operators (entry_in d) i) 0 ≡ least d.operators (entry_in d) i
          = ap (λ (b : Bool). cond b (least d.operators (entry_in d) i) 0) (sym c.stands_only.ensures ∙ w.if-stands_only.true) in
          let n = w.work-is in
          let same = w.least-work.ensures.same in
          let most = w.least-work.ensures.bounded in
          record { sum = omega arith; low = omega arith })
      | else-stands_only w ↦
          (let h : cond (stands_only d.operators (entry_in d) c.args.operator i) (least d.operators (entry_in d) i) 0 ≡ 0
          = ap (λ (b : Bool). cond b (least d.operators (entry_in d) i) 0) (sym c.stands_only.ensures ∙ w.if-stands_only.false) in
          let n = w.work-is in
          record { sum = omega arith; low = omega arith })
    ]
