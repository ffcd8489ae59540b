use Rattle.std.proofs.Common.{[], ◌∷◌, codes}
use Rattle.algo_print.specs.Canonical.{line_of, switch_lines, end_words, otherwise_lines}
use Rattle.algo_print.proofs.Texts.{bytes_last, lines_last}
use Rattle.algo_print.proofs.blocks.print_switch.Goals as goal

pub returns : goal.returns
returns c =
    bytes_last c.put.result _ _ _ (line_of (codes "switch" ∷ c.args.switch.now.name.now ∷ [])) _ c.in_ok-print_named.ensures
    (lines_last c.put.result _ _ _ (switch_lines c.args.switch.now.on.now c.args.switch.now.ins.now c.args.switch.now.outs.now
    c.args.switch.now.cases.now) (otherwise_lines c.args.switch.now.otherwise.now) c.in_ok-print_inputs_and_cases.ensures
    (bytes_last c.put.result _ _ _ (line_of (codes "otherwise" ∷ c.args.switch.now.otherwise.now ∷ [])) (line_of end_words) c.in_ok-print_named-2.ensures c.put.ensures))
