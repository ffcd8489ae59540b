use Rattle.std.proofs.Common.{◌≡◌, ℕ, false, length, subst, ◌∙◌, arith}
use Rattle.std.proofs.lemmas.List.{get_or_default}
use Rattle.reference_graph.specs.Reached.{IsReached}
use Rattle.reference_graph.proofs.Queues.{reached_all}
use Rattle.reference_graph.proofs.search.reaches_itself.Goals as goal

pub returns : goal.returns
returns c =
    let links = c.args.links.now in
    let marks = c.loop-next.marks.items in
    let end : c.loop-next.next ≡ length links = omega arith in
    let reached : IsReached links c.args.a marks c.loop-next.queue.items (length links) =
    subst (λ (n : ℕ). IsReached links c.args.a marks c.loop-next.queue.items n) end c.loop-next.invariant.reached in
    c.index.ensures ∙ get_or_default marks c.args.a c.index.result.now false (omega (arith, c.loop-next.invariant.same, c.requires.place))
    ∙ reached_all links c.args.a marks c.loop-next.queue.items c.loop-next.invariant.same reached
