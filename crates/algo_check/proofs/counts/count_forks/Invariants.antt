use Rattle.std.proofs.Common.{◌≡◌, ◌+◌, ◌≤◌, drop}
use Rattle.std.specs.List.{sum_by}
use Rattle.algo_check.proofs.counts.count_forks.Given as goal
use Rattle.algo_rules.specs.Resolved.{vertices_of_line}

abbrev pub invariant-loop-line : goal.invariant-loop-line
invariant-loop-line l = record {
  sum : l.total + sum_by vertices_of_line (drop l.line-index l.lines) ≡ sum_by vertices_of_line l.lines;
  few : l.total ≤ l.line-index;
}
