use Rattle.std.proofs.Common.{◌≡◌, ◌++◌, drop}
use Rattle.macro_code.specs.Text.{medium_lines, names_of}
use Rattle.macro_code.proofs.processor.append_medium_lines.Given as goal

-- what is there, with what is left, is the whole
abbrev pub invariant-loop-code : goal.invariant-loop-code
invariant-loop-code l = l.out.items ++ medium_lines (names_of l.named) l.name l.operator (drop l.code-index l.seqs) ≡ l.fn.out.items ++ medium_lines (names_of l.named) l.name l.operator l.seqs
