use Rattle.std.proofs.Common.{◌≡◌, drop}
use Rattle.executive_program.specs.Sequences.{communicators}
use Rattle.program_walks.specs.Walks.{passed}
use Rattle.order_check.specs.Sequenced.{is_sequence}
use Rattle.order_check.proofs.sequencing.after_communicators.Given as goal

-- the media that are left decide
abbrev pub invariant-loop-number : goal.invariant-loop-number
invariant-loop-number l =
    passed (is_sequence l.seqs) l.next (communicators l.operator l.number (drop l.number l.media)) ≡ passed (is_sequence l.seqs) l.first (communicators l.operator 0 l.media)
