use Rattle.std.proofs.Common.{◌≡◌, map, take}
use Rattle.code_lines.specs.Views.{instr_of}
use Rattle.code_reader.proofs.written.narrow_body.Given as goal

abbrev pub invariant-loop-written : goal.invariant-loop-written
invariant-loop-written l = l.instrs.items ≡ map instr_of (take l.written-index l.body)
