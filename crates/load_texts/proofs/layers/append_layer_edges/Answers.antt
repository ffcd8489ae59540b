use Rattle.load_texts.specs.Algorithm.{mix_edges}
use Rattle.load_texts.proofs.Pieces.{four}
use Rattle.load_texts.proofs.layers.append_layer_edges.Goals as goal

pub returns : goal.returns
returns c =
    four c.append_mix_edges-4.result
    (mix_edges c.args.below 0) (mix_edges c.args.below 1) (mix_edges c.args.below 2) (mix_edges c.args.below 3) _ _ _ _ _
    c.in_ok-append_mix_edges.ensures c.in_ok-append_mix_edges-2.ensures c.in_ok-append_mix_edges-3.ensures
    c.append_mix_edges-4.ensures
