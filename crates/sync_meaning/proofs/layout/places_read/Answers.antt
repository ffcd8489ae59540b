use Rattle.std.proofs.Common.{◌++◌, ℕ, List, length, ap, ◌∙◌}
use Rattle.std.specs.Prelude.{replicate}
use Rattle.flat_graph.proofs.KindLens.{length-zeros}
use Rattle.sync_meaning.specs.Store.{lengths}
use Rattle.sync_meaning.proofs.layout.places_read.Goals as goal

pub returns : goal.returns
returns c =
    let lens = rw (c.as_slice.ensures, c.new-lens.ensures.items) at c.in_ok-push_lens.ensures in
    let ones = rw c.as_slice-2.ensures at c.in_ok-push_ones.ensures in
    ap lengths c.in_ok-new.ensures ∙ length-zeros c.deref.result.now ∙ c.deref.ensures.value ∙ ones
    ∙ ap (λ (ns : List ℕ). ns ++ replicate (length c.args.vertex.now.guards) 1) lens
