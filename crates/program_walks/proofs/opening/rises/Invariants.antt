use Rattle.std.proofs.Common.{◌≡◌, drop}
use Rattle.program_walks.specs.Opened.{rises}
use Rattle.program_walks.proofs.opening.rises.Given as goal

-- the instructions that are left decide
abbrev pub invariant-loop-instr : goal.invariant-loop-instr
invariant-loop-instr l = rises l.bound l.least (drop l.instr-index l.list) ≡ rises l.bound 0 l.list
