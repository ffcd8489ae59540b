use Rattle.std.proofs.Common.{◌≡◌, ℕ, List, map, ap, subst, ◌∙◌, arith}
use Rattle.std.specs.List.{range_with_len}
use Rattle.std.proofs.Math.Numerals.{suc-eq-add-one}
use Rattle.algo_resolve.specs.Rounds.{passing_view, round}
use Rattle.algo_resolve.proofs.Rounds.{first-round, rounds-more}
use Rattle.algo_resolve.proofs.passing.rounds.Goals as goal

pub loop-init : goal.loop-init
loop-init c = record { made = ap (map (map passing_view)) c.new-rounds.ensures.items; newest = c.in_ok-last.ensures ∙ first-round c.args.checked.now.defs.now }

pub loop-preserved : goal.loop-preserved
loop-preserved c =
    let ds = c.args.checked.now.defs.now in
    let n = c.loop.counter in
    record {
      made = rw c.in_ok-push.ensures.items (rounds-more ds n c.loop.rounds.items c.loop.last c.loop.invariant.made c.loop.invariant.newest);
      newest = c.in_ok-next.ensures n (ap (map passing_view) c.as_slice.ensures ∙ c.loop.invariant.newest) ∙ ap (round ds) (suc-eq-add-one n);
    }

pub returns : goal.returns
returns c =
    let ds = c.args.checked.now.defs.now in
    let all : c.loop.counter ≡ 8 = omega arith in
    let made = subst (λ (n : ℕ). map (map passing_view) c.loop.rounds.items ≡ map (round ds) (range_with_len 0 n)) all c.loop.invariant.made in
    let newest = subst (λ (n : ℕ). map passing_view c.loop.last ≡ round ds n) all c.loop.invariant.newest in
    rw c.in_ok-push-2.ensures.items (rounds-more ds 8 c.loop.rounds.items c.loop.last made newest)
