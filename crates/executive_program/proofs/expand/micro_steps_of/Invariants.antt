use Rattle.std.proofs.Common.{◌≡◌, take, map}
use Rattle.executive_program.specs.Expanded.{expanded}
use Rattle.executive_program.proofs.expand.micro_steps_of.Given as goal

abbrev pub invariant-loop-code : goal.invariant-loop-code
invariant-loop-code l = l.all.items ≡ map (expanded l.program) (take l.code-index l.program.seqs)
