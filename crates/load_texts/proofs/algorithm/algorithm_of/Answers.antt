use Rattle.load_texts.specs.Lines.{lines_text}
use Rattle.load_texts.specs.Algorithm.{vector_definitions, compound_definitions, main_graph, layers_of}
use Rattle.load_texts.proofs.Pieces.{three_alone}
use Rattle.load_texts.proofs.algorithm.algorithm_of.Goals as goal

pub returns : goal.returns
returns c =
    three_alone (lines_text vector_definitions) (lines_text compound_definitions) (main_graph (layers_of c.args.n))
    _ _ _ _ c.new-text.ensures.items c.in_ok-append_vector_definitions.ensures
    c.in_ok-append_compound_definitions.ensures c.in_ok-append_main.ensures
