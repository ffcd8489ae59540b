use Rattle.std.proofs.Common.{◌≡◌, List, ap, arith, map, ◌∙◌}
use Rattle.self_timed.specs.declared.Guard.{Guard}
use Rattle.self_timed.specs.declared.Source.{Source}
use Rattle.self_timed.specs.FlatOrder.{depends_on}
use Rattle.lower_bound.specs.Turns.{at, most_date}
use Rattle.lower_bound.proofs.Renewed.{greatest_low, latest_by_parts}
use Rattle.lower_bound.proofs.links.latest_needed.Goals as goal
use Rattle.syn_base.specs.Numbers.{greatest}

pub returns : goal.returns
returns c =
    let dates = c.args.ends.now in
    let e = latest_by_parts (at dates) c.args.vertex.now in
    let l = greatest_low (at dates) most_date c.requires (depends_on c.args.vertex.now) in
    let guards = c.latest_of_guards-guards.ensures ∙ ap (λ (gs : List Guard). greatest (map (at dates) (map (λ g. g.source.vertex) gs))) c.as_slice.ensures in
    let inputs = c.latest_of_sources-inputs.ensures ∙ ap (λ (xs : List Source). greatest (map (at dates) (map (λ s. s.vertex) xs))) c.as_slice-2.ensures in
    let half = c.end_of_half.ensures in
    let one = c.max.ensures in
    let two = c.max-2.ensures in
    record { latest = omega arith; low = omega arith }
