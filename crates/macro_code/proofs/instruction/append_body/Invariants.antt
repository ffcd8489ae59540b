use Rattle.std.proofs.Common.{◌≡◌, ◌++◌, drop}
use Rattle.macro_code.specs.Text.{body_text, names_of}
use Rattle.macro_code.proofs.instruction.append_body.Given as goal

-- what is there, with what is left, is the whole
abbrev pub invariant-loop-instr : goal.invariant-loop-instr
invariant-loop-instr l = l.out.items ++ body_text (names_of l.named) (drop l.instr-index l.body) ≡ l.fn.out.items ++ body_text (names_of l.named) l.body
