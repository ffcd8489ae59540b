use Rattle.std.proofs.Common.{◌≡◌, drop}
use Rattle.std.specs.List.{list_all}
use Rattle.flat_graph.specs.Graph.{lens_of}
use Rattle.flat_graph.specs.Valid.{is_only}
use Rattle.flat_graph.proofs.forms.have_length_of.Given as goal

-- the sources that are left decide
abbrev pub invariant-loop-source : goal.invariant-loop-source
invariant-loop-source l =
    list_all (λ n. is_only n l.outs) (lens_of l.vertices (drop l.source-index l.sources)) ≡ list_all (λ n. is_only n l.outs) (lens_of l.vertices l.sources)
