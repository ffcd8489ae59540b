use Rattle.std.proofs.Common.{◌≡◌, ◌≤◌, ◌^◌, drop}
use Rattle.executive_program.specs.Archi.{ascends_from}
use Rattle.code_lines.proofs.arguments.ascends.Given as goal

abbrev pub invariant-loop-number : goal.invariant-loop-number
invariant-loop-number l = record { few : l.least ≤ 2 ^ 64; rest : ascends_from l.least (drop l.number-index l.numbers) ≡ ascends_from 0 l.numbers }
