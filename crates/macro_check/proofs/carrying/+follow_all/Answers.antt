use Rattle.std.proofs.Common.{◌≡◌, ◌+◌, ◌/◌, List, map, ap, arith, ◌∙◌}
use Rattle.order_check.specs.declared.carrying.Origin.{Origin}
use Rattle.macro_check.specs.Carrying.{follow_all, further_in}
use Rattle.macro_check.proofs.Follows.{even_is, odd_is}
use Rattle.macro_check.proofs.Results.{if_ok}
use Rattle.macro_check.proofs.carrying.+follow_all.Goals as goal

pub returns-then-hops-eq0 : goal.returns-then-hops-eq0
returns-then-hops-eq0 t c =
    let one = c.as_slice.ensures.value in
    let two = c.as_slice-2.ensures.value in
    even_is c.args.program.now c.requires.low c.args.hops c.in_ok-half.half.items c.in_ok-even.even.items c.in_ok-half.ensures (c.in_ok-even.ensures ∙ (λ i. map (further_in (two i)) (one i)))
    ∙ ap (follow_all c.args.program.now) (let q = c.if-hops-eq0.true in let z : c.args.hops / 2 + c.args.hops / 2 ≡ c.args.hops = omega arith in z)

pub returns : goal.returns
returns t c =
    let one = c.as_slice.ensures.value in
    let two = c.as_slice-2.ensures.value in
    let three = c.as_slice-3.ensures.value in
    let even = even_is c.args.program.now c.requires.low c.args.hops c.in_ok-half.half.items c.in_ok-even.even.items c.in_ok-half.ensures
    (c.in_ok-even.ensures ∙ (λ i. map (further_in (two i)) (one i))) in
    if_ok c.further_each-2.result _ _ (λ all h.
    odd_is c.args.program.now c.requires.low
    (c.args.hops / 2 + c.args.hops / 2) c.args.origins.now c.in_ok-even.even.items all.items c.requires.table even
    (h ∙ ap (λ (xs : List Origin). map (further_in xs) c.args.origins.now) three)
    ∙ ap (follow_all c.args.program.now) (let q = c.if-hops-eq0.false in let z : 1 + (c.args.hops / 2 + c.args.hops / 2) ≡ c.args.hops = omega arith in z)) c.further_each-2.ensures
