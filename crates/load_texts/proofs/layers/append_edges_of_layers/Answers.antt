use Rattle.load_texts.specs.Algorithm.{edges_of_layers, layer_edges}
use Rattle.load_texts.proofs.Pieces.{edges-more, after_more}
use Rattle.load_texts.proofs.layers.append_edges_of_layers.Goals as goal

pub loop-below-preserved : goal.loop-below-preserved
loop-below-preserved c =
    after_more _ _ _ (edges_of_layers c.loop-below.below) (layer_edges c.loop-below.below) _
    c.loop-below.invariant c.in_ok-append_layer_edges.ensures (edges-more c.loop-below.below)
