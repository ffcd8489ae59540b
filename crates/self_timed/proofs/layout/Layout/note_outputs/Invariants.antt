use Rattle.std.proofs.Common.{◌≡◌, drop, length, map}
use Rattle.sequence_build_laws.specs.Acts.{copy, outputs_from}
use Rattle.self_timed.specs.Laid.{HasRow, with_makers}
use Rattle.self_timed.proofs.layout.Layout.note_outputs.Given as goal

-- what is left of the outputs completes the table of makers
abbrev pub invariant-loop-out : goal.invariant-loop-out
invariant-loop-out l = record {
  port : l.port ≡ l._out-index;
  row : HasRow l.self.makers l.op (length l.outs);
  same : record l.self { makers = l.fn.self.makers } ≡ l.fn.self;
  left : with_makers l.self.makers (map (copy l.operator) (outputs_from l.op l.port (drop l._out-index l.outs))) l.op
      ≡ with_makers l.fn.self.makers (map (copy l.operator) (outputs_from l.op 0 l.outs)) l.op;
}
