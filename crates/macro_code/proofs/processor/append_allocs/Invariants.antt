use Rattle.std.proofs.Common.{◌≡◌, ◌++◌, drop}
use Rattle.macro_code.specs.Text.{alloc_lines}
use Rattle.macro_code.proofs.processor.append_allocs.Given as goal

-- what is there, with what is left, is the whole
abbrev pub invariant-loop-number : goal.invariant-loop-number
invariant-loop-number l = l.out.items ++ alloc_lines l.operator l.number (drop l.number l.buffers) ≡ l.fn.out.items ++ alloc_lines l.operator 0 l.buffers
