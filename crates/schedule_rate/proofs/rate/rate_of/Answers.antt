use Rattle.std.proofs.Common.{◌≡◌, List, map, ap, ◌∙◌}
use Rattle.std.proofs.lemmas.Result.{IfOk-weaker}
use Rattle.self_timed.specs.declared.Decision.{Decision}
use Rattle.self_timed.specs.Acts.{acts, acts_of}
use Rattle.self_timed.specs.Entries.{stated}
use Rattle.rates.specs.ExactRates.{IsExactIn, IsExactRateOf}
use Rattle.rates.specs.Rates.{stated_at}
use Rattle.rates.specs.Tables.{at}
use Rattle.schedule_rate.proofs.Rated.{found_is, searchable}
use Rattle.schedule_rate.proofs.rate.rate_of.Goals as goal

pub rate_of_table-requires : goal.rate_of_table-requires
rate_of_table-requires c =
    let long : c.as_slice-2.result.now ≡ map stated (acts c.args.schedule.now) = c.as_slice-2.ensures.value ∙ c.in_ok-long.ensures ∙ ap (λ (ds : List Decision). map stated (acts_of ds)) c.as_slice.ensures in
    record { searchable = searchable c.args.flat.now c.args.archi.now c.args.schedule.now c.vertices-vertices.ensures.valid c.operators-operators.ensures.valid c.depth-depth.ensures.valid c.requires.valid c.in_ok-arcs.arcs c.in_ok-arcs.ensures c.as_slice-2.result.now long }

pub returns : goal.returns
returns c =
    let long : c.as_slice-2.result.now ≡ map stated (acts c.args.schedule.now) = c.as_slice-2.ensures.value ∙ c.in_ok-long.ensures ∙ ap (λ (ds : List Decision). map stated (acts_of ds)) c.as_slice.ensures in
    IfOk-weaker c.rate_of_table.result (λ f. IsExactIn c.in_ok-arcs.arcs (at c.as_slice-2.result.now) f) (λ f. IsExactRateOf c.args.archi.now.depth c.args.flat.now.vertices (acts c.args.schedule.now) (stated_at (acts c.args.schedule.now)) f)
    (λ f x. found_is c.args.flat.now c.args.archi.now c.args.schedule.now c.vertices-vertices.ensures.valid c.operators-operators.ensures.valid c.depth-depth.ensures.valid c.requires.valid c.in_ok-arcs.arcs c.in_ok-arcs.ensures c.as_slice-2.result.now long f x)
    c.rate_of_table.ensures
