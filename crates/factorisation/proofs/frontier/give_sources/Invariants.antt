use Rattle.std.proofs.Common.{◌≡◌, ◌+◌, ◌≤◌, ◌++◌, drop, length}
use Rattle.algo_tree.specs.Well.{join_names}
use Rattle.flat_laws.specs.Unrolled.{give_sources as sources_given}
use Rattle.factorisation.proofs.frontier.give_sources.Given as goal

abbrev pub invariant-loop-give : goal.invariant-loop-give
invariant-loop-give l = record {
  few : l.joins + length (join_names (drop l.give-index l.gives)) ≤ 2048;
  so_far : l.all.items ++ sources_given l.copies.begin l.copies.count l.joins (drop l.give-index l.gives) ≡ sources_given l.copies.begin l.copies.count 0 l.gives;
}
