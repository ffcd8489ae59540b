use Rattle.std.proofs.Common.{◌≡◌, ◌-◌}
use Rattle.std.specs.List.{flat_map, range_with_len}
use Rattle.algo_rules.specs.Links.{first_of}
use Rattle.algo_rules.specs.Resolved.{bodies_fault, faults_at}
use Rattle.algo_check.specs.Tables.{IsTable}
use Rattle.algo_check.proofs.tables.ports_of_bodies.Given as goal

-- the depths that are left decide
abbrev pub invariant-loop-depth : goal.invariant-loop-depth
invariant-loop-depth l = record {
  table : IsTable l.defs l.depth l.table.items;
  left : bodies_fault l.defs ≡ first_of (flat_map (λ n. faults_at l.defs n l.defs l.levels.depths) (range_with_len l.depth (9 - l.depth)));
}
