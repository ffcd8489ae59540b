use Rattle.std.proofs.Common.{◌+◌, ◌++◌, drop, map, ap, sym, append_assoc, ◌∙◌}
use Rattle.std.specs.List.{filter}
use Rattle.schedule.specs.Acts.{acts_of, is_on, run}
use Rattle.timing_chart.specs.Chart.{act_line, line_text, text_of}
use Rattle.timing_chart.proofs.Texts.{on_here, on_past}
use Rattle.timing_chart.proofs.chart.append_on.Goals.{then-decision-operator+in_ok-append_operation, else-decision-operator}
use Rattle.timing_chart.proofs.chart.append_on.Goals as goal

pub loop-decision-preserved : goal.loop-decision-preserved
loop-decision-preserved c =
    let named = c.args.named.now in
    let i = c.loop-decision.decision-index in
    let d = c.decision-item.result in
    let rest = text_of (map (act_line named.vertices.now named.operators.now) (filter (is_on c.args.operator) (acts_of (drop (i + 1) c.args.decisions.now)))) in
    elim c.if-decision-operator.branch [
      | then-decision-operator+in_ok-append_operation w ↦
          ap (λ v. v.items ++ rest) w.out-is ∙ ap (λ l. l ++ rest) w.in_ok-append_operation.ensures
          ∙ append_assoc c.loop-decision.out.items (line_text (act_line named.vertices.now named.operators.now (run d))) rest
          ∙ ap (λ l. c.loop-decision.out.items ++ l)
          (sym (on_here named.vertices.now named.operators.now c.args.operator c.args.decisions.now i d c.loop-decision-test.true
          c.decision-item.is w.if-decision-operator.true))
          ∙ c.loop-decision.invariant
      | else-decision-operator w ↦
          ap (λ v. v.items ++ rest) w.out-is
          ∙ ap (λ l. c.loop-decision.out.items ++ l)
          (sym (on_past named.vertices.now named.operators.now c.args.operator c.args.decisions.now i d c.loop-decision-test.true
          c.decision-item.is w.if-decision-operator.false))
          ∙ c.loop-decision.invariant
    ]
