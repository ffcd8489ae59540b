use Rattle.std.proofs.Common.{◌≡◌, drop}
use Rattle.executive_program.specs.MicroSteps.{transfers_on}
use Rattle.program_walks.proofs.searches.transfers.Given as goal

-- the sequences that are left decide
abbrev pub invariant-loop-code : goal.invariant-loop-code
invariant-loop-code l = transfers_on (drop l.code-index l.program.seqs) l.medium ≡ transfers_on l.program.seqs l.medium
