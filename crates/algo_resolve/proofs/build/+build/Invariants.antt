use Rattle.std.proofs.Common.{◌≡◌, ◌+◌, ◌*◌, ◌≤◌, ◌++◌, ◌∷◌, [], drop, length, map}
use Rattle.algo_laws.specs.View.{view}
use Rattle.algo_laws.specs.Resolved.{cases_from, references_from}
use Rattle.algo_resolve.specs.Rounds.{pruned_within}
use Rattle.algo_resolve.proofs.build.+build.Given as goal

abbrev pub decreases-build_vertex : goal.decreases-build_vertex
decreases-build_vertex l = 4 * l.fuel

abbrev pub decreases-build_live : goal.decreases-build_live
decreases-build_live l = 4 * l.fuel + 3

abbrev pub decreases-build_copy : goal.decreases-build_copy
decreases-build_copy l = 4 * l.fuel + 1

abbrev pub decreases-build_cases : goal.decreases-build_cases
decreases-build_cases l = 4 * l.fuel + 1

abbrev pub decreases-build_references : goal.decreases-build_references
decreases-build_references l = 4 * l.fuel + 1

abbrev pub decreases-build_inner : goal.decreases-build_inner
decreases-build_inner l = 4 * l.fuel + 2

abbrev pub invariant-build_cases-loop-number : goal.invariant-build_cases-loop-number
invariant-build_cases-loop-number l =
    map view l.inner.items ++ cases_from l.builder.defs.now (pruned_within l.builder.defs.now l.fuel) (length l.names.ins.now) l.number
    (drop l.number (map (λ c. c.def) l.names.cases.now ++ l.names.otherwise.now ∷ []))
    ≡ cases_from l.builder.defs.now (pruned_within l.builder.defs.now l.fuel) (length l.names.ins.now) 0 (map (λ c. c.def) l.names.cases.now ++ l.names.otherwise.now ∷ [])

abbrev pub invariant-build_references-loop-at : goal.invariant-build_references-loop-at
invariant-build_references-loop-at l = record {
  so_far : map view l.inner.items
      ++ references_from l.builder.defs.now
      (pruned_within l.builder.defs.now l.fuel) l.graph.ins.now l.graph.references.now l.graph.edges.now l.sensors l.actuators
      (drop l.at l.graph.references.now)
      ≡ references_from l.builder.defs.now (pruned_within l.builder.defs.now l.fuel) l.graph.ins.now l.graph.references.now l.graph.edges.now 0 0 l.graph.references.now;
  few_sensors : l.sensors ≤ l.at;
  few_actuators : l.actuators ≤ l.at;
}
