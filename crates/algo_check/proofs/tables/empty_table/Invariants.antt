use Rattle.std.proofs.Common.{◌≡◌}
use Rattle.std.specs.Prelude.{replicate}
use Rattle.algo_rules.specs.Ports.{no_ports}
use Rattle.algo_check.proofs.tables.empty_table.Given as goal

abbrev pub invariant-loop : goal.invariant-loop
invariant-loop l = l.table.items ≡ replicate l.counter no_ports
