use Rattle.std.proofs.Common.{◌≡◌, ℕ, List, length, map, get_or, refl, ap, ◌∙◌, arith}
use Rattle.std.specs.Prelude.{slice_index}
use Rattle.reference_graph.specs.Links.{numbers}
use Rattle.reference_graph.specs.Settled.{depth_by}
use Rattle.reference_graph.proofs.Deeper.{no_round, one_round, rounds_bound, rounds_length, depths_within}
use Rattle.reference_graph.proofs.rounds.depths_by_rounds.Goals as goal

pub loop-round-init : goal.loop-round-init
loop-round-init c = c.in_ok-depths.ensures ∙ no_round c.args.links.now (length c.args.links.now) refl

pub one_deeper-requires-clause-same : goal.one_deeper-requires-clause-same
one_deeper-requires-clause-same c =
    ap (λ (ds : List ℕ). length ds) (c.deref.ensures.value ∙ c.loop-round.invariant) ∙ rounds_length c.args.links.now c.loop-round._round

pub one_deeper-requires-clause-few : goal.one_deeper-requires-clause-few
one_deeper-requires-clause-few c = λ b.
    let same : slice_index c.deref.result.now b ≡ get_or (depths_within c.args.links.now c.loop-round._round) b 0 =
    ap (λ (ds : List ℕ). get_or ds b 0) (c.deref.ensures.value ∙ c.loop-round.invariant) in
    omega (arith, same, rounds_bound c.args.links.now c.loop-round._round b)

pub loop-round-preserved : goal.loop-round-preserved
loop-round-preserved c =
    let links = c.args.links.now in
    c.in_ok-depths-2.ensures ∙ ap (λ (ds : List ℕ). map (depth_by links ds) (numbers links)) (c.deref.ensures.value ∙ c.loop-round.invariant) ∙ one_round links c.requires.links c.loop-round._round
