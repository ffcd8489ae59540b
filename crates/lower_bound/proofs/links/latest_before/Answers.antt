use Rattle.std.proofs.Common.{◌≡◌, List, ap, map, ◌∙◌}
use Rattle.std.specs.Option.{option_or}
use Rattle.self_timed.specs.declared.Guard.{Guard}
use Rattle.self_timed.specs.declared.Source.{Source}
use Rattle.lower_bound.specs.Chain.{first_at}
use Rattle.lower_bound.specs.Turns.{at}
use Rattle.lower_bound.proofs.Follow.{before_is}
use Rattle.lower_bound.proofs.links.latest_before.Goals as goal

pub returns : goal.returns
returns c =
    let dates = at c.args.ends.now in
    let latest = c.latest_needed-latest.result in
    let guards = c.first_guard-guard.ensures ∙ ap (λ (gs : List Guard). first_at dates latest (map (λ g. g.source.vertex) gs)) c.as_slice.ensures in
    let sources = c.first_source-source.ensures ∙ ap (λ (xs : List Source). first_at dates latest (map (λ s. s.vertex) xs)) c.as_slice-2.ensures in
    c.or-2.ensures
    ∙ (λ i. option_or (c.or.ensures i) c.half_at.result)
    ∙ before_is dates c.args.vertex.now latest c.first_guard-guard.result c.first_source-source.result c.half_at.result c.latest_needed-latest.ensures.latest guards sources c.half_at.ensures
