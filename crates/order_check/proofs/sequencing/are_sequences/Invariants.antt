use Rattle.std.proofs.Common.{◌≡◌, ◌-◌}
use Rattle.std.specs.List.{flat_map, range_with_len}
use Rattle.executive_program.specs.Sequences.{sequences_of}
use Rattle.program_walks.specs.Walks.{passed}
use Rattle.order_check.specs.Sequenced.{is_sequence}
use Rattle.order_check.proofs.sequencing.are_sequences.Given as goal

-- the operators that are left decide
abbrev pub invariant-loop-operator : goal.invariant-loop-operator
invariant-loop-operator l =
    passed (is_sequence l.seqs) l.next (flat_map (sequences_of l.media) (range_with_len l.operator (l.operators - l.operator)))
    ≡ passed (is_sequence l.seqs) 0 (flat_map (sequences_of l.media) (range_with_len 0 l.operators))
