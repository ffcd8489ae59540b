use Rattle.std.proofs.Common.{[], ◌∷◌, map, codes}
use Rattle.algo_print.specs.Canonical.{line_of, port_words, case_words}
use Rattle.algo_print.proofs.Texts.{bytes_last, lines_last}
use Rattle.algo_print.proofs.blocks.print_inputs_and_cases.Goals as goal

pub returns : goal.returns
returns c =
    bytes_last c.print_cases.result _ _ _ (line_of (codes "on" ∷ c.args.switch.now.on.now ∷ [])) _ c.in_ok-print_named.ensures
    (lines_last c.print_cases.result _ _ _ (map (port_words (codes "in")) c.args.switch.now.ins.now) _ c.in_ok-print_ports.ensures
    (lines_last c.print_cases.result _ _ _ (map (port_words (codes "out")) c.args.switch.now.outs.now)
    (map case_words c.args.switch.now.cases.now) c.in_ok-print_ports-2.ensures c.print_cases.ensures))
