use Rattle.std.proofs.Common.{◌≡◌, List, ap, arith, map, ◌∙◌}
use Rattle.self_timed.specs.declared.Guard.{Guard}
use Rattle.self_timed.specs.declared.Source.{Source}
use Rattle.self_timed.specs.FlatOrder.{get_half}
use Rattle.self_timed.specs.Table.{entry_in}
use Rattle.lower_bound.specs.Bound.{arrival}
use Rattle.lower_bound.specs.Turns.{at, most_date}
use Rattle.lower_bound.proofs.Renewed.{greatest_low}
use Rattle.lower_bound.proofs.Starting.{start_is}
use Rattle.lower_bound.proofs.arrivals.start_on.Goals as goal
use Rattle.syn_base.specs.Numbers.{greatest}

pub returns : goal.returns
returns c =
    let d = c.args.durations.now in
    let vs = c.args.vertices.now in
    let ms = c.args.media.now in
    let x = c.args.vertex.now in
    let o = c.args.operator in
    let dates = at c.args.ends.now in
    let guards = c.last_of_guards-guards.ensures.last ∙ ap (λ (gs : List Guard). greatest (map (arrival d.operators (entry_in d) vs ms dates o) (map (λ g. g.source) gs))) c.as_slice.ensures in
    let inputs = c.last_of_sources-inputs.ensures.last ∙ ap (λ (xs : List Source). greatest (map (arrival d.operators (entry_in d) vs ms dates o) xs)) c.as_slice-2.ensures in
    let half = c.end_of_half.ensures in
    let low = greatest_low dates most_date c.requires.low (get_half x.kind x.twin) in
    let guards_low = c.last_of_guards-guards.ensures.low in
    let inputs_low = c.last_of_sources-inputs.ensures.low in
    let one = c.max.ensures in
    let two = c.max-2.ensures in
    record {
      start = start_is d.operators (entry_in d) vs ms dates o x c.last_of_guards-guards.result c.last_of_sources-inputs.result c.end_of_half.result c.max-2.result guards inputs half (omega arith);
      low = omega arith;
    }
