use Rattle.std.proofs.Common.{◌≡◌, ◌+◌, ◌++◌, List, [], ◌∷◌, map, length, drop, ap, sym, subst, ◌∙◌}
use Rattle.self_timed.specs.declared.Transfer.{Transfer}
use Rattle.self_timed.specs.declared.Decision.{Decision}
use Rattle.self_timed.specs.Acts.{acts_of, carry, run}
use Rattle.self_timed.specs.Told.{reaction_at}
use Rattle.dates_text.specs.Printed.{Fit, dated_by}
use Rattle.dates_text.proofs.Left.{decision_from, goes_on, left_from}
use Rattle.dates_text.proofs.reaction.append_reaction.Goals as goal

pub loop-decision-preserved : goal.loop-decision-preserved
loop-decision-preserved c =
    let r = c.args.reaction.now in
    let g = r.flat.now in
    let a = r.archi.now in
    let k = r.number in
    let row = reaction_at r.dates.now k in
    let ds = c.args.decisions.now in
    let i = c.loop-decision.decision-index in
    let x = c.decision-item.result in
    let n = c.loop-decision.next in
    let here = dated_by k row n (map carry x.transfers ++ run x ∷ []) in
    let rest = drop (i + 1) ds in
    let next = dated_by k row (n + length c.as_slice.result.now) (acts_of rest) in
    let all = dated_by k row (length g.vertices) (acts_of ds) in
    let begins : drop i ds ≡ x ∷ rest = left_from ds i x c.loop-decision-test.true c.decision-item.is in
    let fit : Fit (length row) n (x ∷ rest) = subst (λ (l : List Decision). Fit (length row) n l) begins c.loop-decision.invariant.fit in
    let one_more : dated_by k row n (acts_of (drop i ds)) ≡ here ++ next
    = decision_from k row n ds i x c.loop-decision-test.true c.decision-item.is ∙ ap (λ (l : List Transfer). here ++ dated_by k row (n + length l) (acts_of rest)) (sym c.as_slice.ensures) in
    record {
      fit = subst (λ (l : List Transfer). Fit (length row) (n + length l) rest) (sym c.as_slice.ensures) fit.2;
      left = goes_on g a c.args.out.now.items c.loop-decision.out.items c.append_decision.new.out.items c.loop-decision.latest c.in_ok-append_decision.field-0 c.max-latest.result
          here (dated_by k row n (acts_of (drop i ds))) next all c.loop-decision.invariant.left one_more c.in_ok-append_decision.ensures c.max-latest.ensures;
    }
