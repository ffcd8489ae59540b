use Rattle.std.proofs.Common.{◌≡◌, ◌++◌, drop}
use Rattle.std.specs.List.{flat_map}
use Rattle.archi_reader.specs.Canonical.{text_of, connections_of}
use Rattle.archi_reader.proofs.print.print_connections.Given as goal

-- what is left completes the text
abbrev pub invariant-loop-medium : goal.invariant-loop-medium
invariant-loop-medium l = l.text.items ++ text_of (flat_map (connections_of l.operators) (drop l.medium-index l.media)) ≡ l.fn.text.items ++ text_of (flat_map (connections_of l.operators) l.media)
