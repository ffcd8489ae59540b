use Rattle.std.proofs.Common.{◌≡◌, ◌*◌, ◌^◌, ◌≤◌, take}
use Rattle.std.specs.List.{sum_by}
use Rattle.executive_program.specs.Graph.{len_of}
use Rattle.semaphore_core.proofs.totals.source_elements.Given as goal

abbrev pub invariant-loop-source : goal.invariant-loop-source
invariant-loop-source l = record {
  sum_is : l.total ≡ sum_by (len_of l.flat.vertices) (take l.source-index l.sources);
  bound : l.total ≤ l.source-index * 2 ^ 32;
}
