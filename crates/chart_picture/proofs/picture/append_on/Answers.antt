use Rattle.std.proofs.Common.{◌+◌, ◌++◌, drop, ap, sym, append_assoc, ◌∙◌}
use Rattle.self_timed.specs.Acts.{acts_of, is_on, run}
use Rattle.chart_picture.specs.Bars.{bar_line, bar_of, bars_text}
use Rattle.chart_picture.proofs.Drawn.{on_here, on_past}
use Rattle.chart_picture.proofs.picture.append_on.Goals.{then-decision-operator+in_ok-append_run, else-decision-operator}
use Rattle.chart_picture.proofs.picture.append_on.Goals as goal

pub loop-decision-preserved : goal.loop-decision-preserved
loop-decision-preserved c =
    let g = c.args.sheet.now.flat.now in
    let a = c.args.sheet.now.archi.now in
    let scale = c.args.sheet.now.scale in
    let i = c.loop-decision.decision-index in
    let d = c.decision-item.result in
    let rest = bars_text g a scale (is_on c.args.operator) (acts_of (drop (i + 1) c.args.decisions.now)) in
    elim c.if-decision-operator.branch [
      | then-decision-operator+in_ok-append_run w ↦
          ap (λ v. v.items ++ rest) w.out-is ∙ ap (λ l. l ++ rest) w.in_ok-append_run.ensures
          ∙ append_assoc c.loop-decision.out.items (bar_line (bar_of g a scale (run d))) rest
          ∙ ap (λ l. c.loop-decision.out.items ++ l) (sym (on_here g a scale c.args.operator c.args.decisions.now i d c.loop-decision-test.true c.decision-item.is w.if-decision-operator.true))
          ∙ c.loop-decision.invariant
      | else-decision-operator w ↦
          ap (λ v. v.items ++ rest) w.out-is
          ∙ ap (λ l. c.loop-decision.out.items ++ l) (sym (on_past g a scale c.args.operator c.args.decisions.now i d c.loop-decision-test.true c.decision-item.is w.if-decision-operator.false))
          ∙ c.loop-decision.invariant
    ]
