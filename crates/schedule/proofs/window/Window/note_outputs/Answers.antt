use Rattle.std.proofs.Common.{◌∙◌, sym, ap, length}
use Rattle.schedule.specs.declared.window.Window.{Window}
use Rattle.schedule.specs.Acts.{copy}
use Rattle.schedule.proofs.Starts.{none_past, noted_step}
use Rattle.schedule.proofs.window.Window.note_outputs.Goals.{then-port, else-port}
use Rattle.schedule.proofs.window.Window.note_outputs.Goals as goal

pub loop-port-preserved : goal.loop-port-preserved
loop-port-preserved c = elim c.if-port.branch [
  | then-port w ↦
      let is = w.self-is ∙ w.note.ensures.noted in
      record {
        size = ap (λ (x : Window). length x.held) w.self-is ∙ w.note.ensures.size;
        first = ap (λ (x : Window). x.first) is ∙ c.loop-port.invariant.first;
        left = noted_step c.loop-port.self c.if-port.self c.args.decision.now.operator c.args.decision.now.op c.args.decision.now.end c.loop-port.port c.args.outs.now c.loop-port-test.true is
            ∙ c.loop-port.invariant.left;
      }
  | else-port w ↦
      let past = none_past c.loop-port.self.first c.loop-port.self.held c.args.decision.now.end
      (copy c.args.decision.now.operator (record { vertex = c.args.decision.now.op; port = c.loop-port.port })) w.if-port.false in
      let is = w.self-is ∙ (λ i. record { first = c.loop-port.self.first; held = sym past i }) in
      record {
        size = ap (λ (x : Window). length x.held) w.self-is ∙ c.loop-port.invariant.size;
        first = ap (λ (x : Window). x.first) w.self-is ∙ c.loop-port.invariant.first;
        left = noted_step c.loop-port.self c.if-port.self c.args.decision.now.operator c.args.decision.now.op c.args.decision.now.end c.loop-port.port c.args.outs.now c.loop-port-test.true is
            ∙ c.loop-port.invariant.left;
      }
]
