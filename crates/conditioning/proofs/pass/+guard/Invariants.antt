use Rattle.std.proofs.Common.{◌≡◌, ◌++◌, map, take, drop, length}
use Rattle.algo_tree.specs.View.{view}
use Rattle.flat_laws.specs.Guarded.{guarded}
use Rattle.conditioning.specs.Listed.{cases_listed}
use Rattle.conditioning.proofs.pass.+guard.Given as goal

abbrev pub invariant-guard_each-loop-vertex : goal.invariant-guard_each-loop-vertex
invariant-guard_each-loop-vertex l = map view l.all.items ≡ map (λ v. guarded l.guards l.before (view v)) (take l.vertex-index l.vertex-items)

abbrev pub invariant-guard_cases-loop-vertex : goal.invariant-guard_cases-loop-vertex
invariant-guard_cases-loop-vertex l = record {
  at : length l.all.items ≡ l.vertex-index;
  so_far : map view l.all.items ++ cases_listed l.guards l.handed l.values l.vertex-index (map view (drop l.vertex-index l.vertex-items))
      ≡ cases_listed l.guards l.handed l.values 0 (map view l.vertex-items);
}
