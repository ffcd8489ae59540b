use Rattle.std.proofs.Common.{◌≡◌, drop}
use Rattle.algo_tree.specs.Order.{sources_ready}
use Rattle.hierarchy.specs.Order.{is_done}
use Rattle.hierarchy.proofs.order.are_sources_ready.Given as goal

abbrev pub invariant-loop-source : goal.invariant-loop-source
invariant-loop-source l = sources_ready (is_done l.done) (drop l.source-index l.sources) ≡ sources_ready (is_done l.done) l.sources
