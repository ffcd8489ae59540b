use Rattle.std.proofs.Common.{[], ◌∷◌, map, codes}
use Rattle.algo_print.specs.Canonical.{line_of, frontier_words, end_words}
use Rattle.algo_print.proofs.Texts.{bytes_last, lines_last}
use Rattle.algo_print.proofs.blocks.print_repeat.Goals as goal
use Rattle.text_lines.specs.Text.{count_text}

pub returns : goal.returns
returns c =
    bytes_last c.put.result _ _ _ (line_of (codes "repeat" ∷ c.args.name.now ∷ count_text c.args.copies ∷ c.args.def.now ∷ [])) _ c.in_ok-print_repeated.ensures
    (lines_last c.put.result _ _ _ (map frontier_words c.args.lines.now) (end_words ∷ []) c.in_ok-print_frontiers.ensures c.put.ensures)
