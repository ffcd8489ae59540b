use Rattle.std.proofs.Common.{◌≡◌, ◌++◌, ◌-◌}
use Rattle.std.specs.List.{flat_map, range_with_len}
use Rattle.archi_graph.specs.Sequences.{sequences_of}
use Rattle.archi_graph.proofs.sequences.all_sequences.Given as goal

-- what is left completes the list
abbrev pub invariant-loop-operator : goal.invariant-loop-operator
invariant-loop-operator l =
    l.sequences.items ++ flat_map (sequences_of l.media) (range_with_len l.operator (l.operators - l.operator)) ≡ flat_map (sequences_of l.media) (range_with_len 0 l.operators)
