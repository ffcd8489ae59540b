use Rattle.std.proofs.Common.{◌≡◌, ℕ, suc, ◌+◌, length, subst, arith}
use Rattle.self_timed.specs.Acts.{acts_of}
use Rattle.self_timed.specs.Told.{reaction_at}
use Rattle.dates_text.specs.Printed.{Appends, dated_by, dates_up_to}
use Rattle.dates_text.proofs.Left.{both}
use Rattle.dates_text.proofs.listing.append_reactions.Goals as goal

pub loop-number-preserved : goal.loop-number-preserved
loop-number-preserved c =
    let g = c.args.flat.now in
    let a = c.args.archi.now in
    let xs = acts_of c.args.decisions.now in
    let k = c.loop-number.number in
    let before = dates_up_to c.args.dates.now (length g.vertices) xs k in
    let now = dated_by k (reaction_at c.args.dates.now k) (length g.vertices) xs in
    let one : suc k ≡ k + 1 = omega arith in
    subst (λ (n : ℕ). Appends g a c.args.out.now.items c.append_reaction.new.out.items c.max-latest.result (dates_up_to c.args.dates.now (length g.vertices) xs n)) one
    (both g a c.args.out.now.items c.loop-number.out.items c.append_reaction.new.out.items c.loop-number.latest c.in_ok-append_reaction.field-0 c.max-latest.result before now
    c.loop-number.invariant c.in_ok-append_reaction.ensures c.max-latest.ensures)
