use Rattle.std.proofs.Common.{◌+◌}
use Rattle.load_texts.specs.Algorithm.{references_of_layers, layer_references}
use Rattle.load_texts.proofs.Pieces.{references-more, after_more}
use Rattle.load_texts.proofs.layers.append_references_of_layers.Goals as goal

pub loop-below-preserved : goal.loop-below-preserved
loop-below-preserved c =
    after_more _ _ _ (references_of_layers c.loop-below.below) (layer_references (c.loop-below.below + 1)) _
    c.loop-below.invariant c.in_ok-append_layer_references.ensures (references-more c.loop-below.below)
