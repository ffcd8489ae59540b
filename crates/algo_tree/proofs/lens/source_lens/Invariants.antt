use Rattle.std.proofs.Common.{◌≡◌, drop, ◌++◌, map}
use Rattle.algo_tree.specs.View.{vertices_view}
use Rattle.algo_tree.specs.Typed.{outs_of, source_length}
use Rattle.algo_tree.proofs.lens.source_lens.Given as goal

-- those that are left decide
abbrev pub invariant-loop-source : goal.invariant-loop-source
invariant-loop-source l = l.lens.items ++ map (source_length l.own (outs_of (vertices_view l.vertices))) (drop l.source-index l.sources)
    ≡ map (source_length l.own (outs_of (vertices_view l.vertices))) l.sources
