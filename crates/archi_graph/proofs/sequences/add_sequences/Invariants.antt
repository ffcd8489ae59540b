use Rattle.std.proofs.Common.{◌≡◌, ◌++◌, drop}
use Rattle.archi_graph.specs.Sequences.{communicators, sequences_of}
use Rattle.archi_graph.proofs.sequences.add_sequences.Given as goal

-- what is left completes the operator's sequences
abbrev pub invariant-loop-number : goal.invariant-loop-number
invariant-loop-number l =
    l.sequences.items ++ communicators l.operator l.number (drop l.number l.media) ≡ l.fn.sequences.items ++ sequences_of l.media l.operator
