use Rattle.code_lines.proofs.Naming.{name_added}
use Rattle.code_lines.proofs.known.operations_of.Goals as goal

pub loop-vertex-preserved : goal.loop-vertex-preserved
loop-vertex-preserved c = name_added c.args.vertices.now c.loop-vertex.vertex-index _ _ _ _ _ c.requires c.loop-vertex-test.true
    c.vertex-item.is c.as_slice.ensures c.loop-vertex.invariant c.in_ok-add.ensures.new c.in_ok-add.ensures.after
