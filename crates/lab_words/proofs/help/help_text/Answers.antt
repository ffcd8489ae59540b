use Rattle.lab_words.specs.Help.{commands_text, heading, lines_text, option_lines}
use Rattle.lab_words.specs.Table.{told}
use Rattle.lab_words.proofs.Listed.{three_parts}
use Rattle.lab_words.proofs.help.help_text.Goals as goal

pub returns : goal.returns
returns c =
    three_parts _ _ _ _ (lines_text heading) (commands_text told) (lines_text option_lines) c.new-text.ensures.items
    c.in_ok-append_lines.ensures c.in_ok-append_commands.ensures c.in_ok-append_lines-2.ensures
