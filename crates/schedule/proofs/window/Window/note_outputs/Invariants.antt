use Rattle.std.proofs.Common.{◌≡◌, drop, length, map}
use Rattle.schedule.specs.Acts.{copy, outputs_from}
use Rattle.schedule.specs.Windows.{noted_all}
use Rattle.schedule.proofs.window.Window.note_outputs.Given as goal

-- what is left to be noted makes the whole
abbrev pub invariant-loop-port : goal.invariant-loop-port
invariant-loop-port l = record {
  size : length l.self.held ≡ 16384;
  first : l.self.first ≡ l.fn.self.first;
  left : noted_all l.self.first l.self.held l.decision.end
      (map (copy l.decision.operator) (outputs_from l.decision.op l.port (drop l.port l.outs)))
      ≡ noted_all l.fn.self.first l.fn.self.held l.decision.end (map (copy l.decision.operator) (outputs_from l.decision.op 0 l.outs));
}
