use Rattle.std.proofs.Common.{◌≡◌, drop}
use Rattle.std.specs.List.{list_all}
use Rattle.archi_graph.specs.Archi.{names_of, occurs_once}
use Rattle.archi_graph.proofs.valid.are_operators_alone.Given as goal

abbrev pub invariant-loop-name : goal.invariant-loop-name
invariant-loop-name l = list_all (occurs_once (names_of l.operators l.media)) (drop l.name-index l.operators) ≡ list_all (occurs_once (names_of l.operators l.media)) l.operators
