use Rattle.std.proofs.Common.{◌≡◌, drop}
use Rattle.executive_program.specs.MicroSteps.{sent_by}
use Rattle.order_check.proofs.carrying.sent.Given as goal

-- the sequences that are left decide
abbrev pub invariant-loop-code : goal.invariant-loop-code
invariant-loop-code l = sent_by (drop l.code-index l.program.seqs) l.medium l.number ≡ sent_by l.program.seqs l.medium l.number
