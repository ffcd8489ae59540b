use Rattle.std.proofs.Common.{◌<◌, true, false, List, ℕ, Option, sym, ap, subst, ◌∙◌}
use Rattle.std.specs.Prelude.{IfSome}
use Rattle.archi_graph.specs.declared.medium.Hop.{Hop}
use Rattle.route_table.specs.Search.{pick_over}
use Rattle.route_table.proofs.Picks.{among_next}
use Rattle.route_table.proofs.search.first_hop.Goals as goal
use Rattle.route_table.proofs.search.first_hop.Goals.{then-is_stand, else-is_stand}

pub loop-number-preserved : goal.loop-number-preserved
loop-number-preserved c =
    let t = c.args.routes.now in
    let m = c.index-media-number.result in
    let best = c.loop-number.best in
    let number = c.loop-number.number in
    elim c.if-is_stand.branch [
      | then-is_stand w ↦ (
        among_next t c.args.hops c.args.to c.args.from number best c.if-is_stand.best c.args.media.now m true c.loop-number-test.true
            c.index-media-number.is (sym c.is_stand.ensures ∙ w.if-is_stand.true)
            (w.best-is ∙ w.first_over-best.ensures.chosen ∙ ap (λ (xs : List ℕ). pick_over t c.args.hops c.args.to number best xs) w.as_slice-stands.ensures) ∙ c.loop-number.invariant.0,
        subst (λ (o : Option Hop). IfSome o (λ h. h.to < t.operators)) (sym w.best-is) w.first_over-best.ensures.below,
      )
      | else-is_stand w ↦ (
        among_next t c.args.hops c.args.to c.args.from number best c.if-is_stand.best c.args.media.now m false c.loop-number-test.true
            c.index-media-number.is (sym c.is_stand.ensures ∙ w.if-is_stand.false)
            w.best-is ∙ c.loop-number.invariant.0,
        subst (λ (o : Option Hop). IfSome o (λ h. h.to < t.operators)) (sym w.best-is) c.loop-number.invariant.1,
      )
    ]
