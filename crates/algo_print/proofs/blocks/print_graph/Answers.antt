use Rattle.std.proofs.Common.{[], ◌∷◌, map, codes}
use Rattle.algo_print.specs.Canonical.{line_of, port_words, reference_words, edge_words, graph_lines, end_words}
use Rattle.algo_print.proofs.Texts.{lines_then, bytes_last, lines_last}
use Rattle.algo_print.proofs.blocks.print_graph.Goals as goal

pub returns : goal.returns
returns c =
    bytes_last c.put.result _ _ _ (line_of (codes "graph" ∷ c.args.name.now ∷ [])) _ c.in_ok-print_named.ensures
    (lines_last c.put.result _ _ _ (graph_lines c.args.ins.now c.args.outs.now c.args.references.now c.args.edges.now) (end_words ∷ [])
    (lines_then _ _ _ (map (port_words (codes "in")) c.args.ins.now) _ c.in_ok-print_ports.ensures
    (lines_then _ _ _ (map (port_words (codes "out")) c.args.outs.now) _ c.in_ok-print_ports-2.ensures
    (lines_then _ _ _ (map reference_words c.args.references.now) (map edge_words c.args.edges.now) c.in_ok-print_references.ensures c.in_ok-print_edges.ensures)))
    c.put.ensures)
