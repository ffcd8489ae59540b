use Rattle.std.proofs.Common.{[], ◌∷◌, map, codes}
use Rattle.algo_print.specs.Canonical.{line_of, port_words, output_words, function_lines, end_words}
use Rattle.algo_print.proofs.Texts.{lines_then, bytes_last, lines_last}
use Rattle.algo_print.proofs.blocks.print_function.Goals as goal

pub returns : goal.returns
returns c =
    bytes_last c.put.result _ _ _ (line_of (codes "function" ∷ c.args.name.now ∷ [])) _ c.in_ok-print_named.ensures
    (lines_last c.put.result _ _ _ (function_lines c.args.ins.now c.args.outs.now) (end_words ∷ [])
    (lines_then _ _ _ (map (port_words (codes "in")) c.args.ins.now) (map (output_words c.args.ins.now) c.args.outs.now) c.in_ok-print_ports.ensures c.in_ok-print_outputs.ensures)
    c.put.ensures)
