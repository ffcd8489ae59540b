use Rattle.std.proofs.Common.{◌≡◌, ◌++◌, drop, map}
use Rattle.lab_words.specs.Help.{lines_text}
use Rattle.lab_words.proofs.help.append_lines.Given as goal

-- what is there, with the lines that are left, is the whole
abbrev pub invariant-loop-line : goal.invariant-loop-line
invariant-loop-line l =
    l.text.items ++ lines_text (map (λ s. s.now) (drop l.line-index l.lines)) ≡ l.fn.text.items ++ lines_text (map (λ s. s.now) l.lines)
