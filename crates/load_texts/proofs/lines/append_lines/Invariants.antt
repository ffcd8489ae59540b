use Rattle.std.proofs.Common.{◌≡◌, ◌++◌, drop, map}
use Rattle.load_texts.specs.Lines.{lines_text}
use Rattle.load_texts.proofs.lines.append_lines.Given as goal

-- what is there, with the lines that are left, is the whole
abbrev pub invariant-loop-line : goal.invariant-loop-line
invariant-loop-line l = l.out.items ++ lines_text (map (λ s. s.now) (drop l.line-index l.lines))
    ≡ l.fn.out.items ++ lines_text (map (λ s. s.now) l.lines)
