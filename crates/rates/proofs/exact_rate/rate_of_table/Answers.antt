use Rattle.std.proofs.Common.{◌≤◌, List, sym, subst}
use Rattle.rates.specs.declared.search.Found.{Found}
use Rattle.rates.specs.declared.table.Arc.{Arc}
use Rattle.rates.specs.ExactRates.{IsRateOver}
use Rattle.rates.specs.Rates.{lags, length_over}
use Rattle.rates.specs.Search.{IsFit, IsOver}
use Rattle.rates.specs.Tables.{at}
use Rattle.rates.proofs.Rising.{at_start, goes_on, less, low, short}
use Rattle.rates.proofs.exact_rate.rate_of_table.Goals as goal

pub loop-way-init : goal.loop-way-init
loop-way-init c = at_start _ _ _ _

pub rate_over-rate-requires-clause-short : goal.rate_over-rate-requires-clause-short
rate_over-rate-requires-clause-short c =
    let is_over : IsOver c.args.arcs.now c.args.long.now c.loop-way.rate c.in-Over.first c.in-Over.cycle =
    subst (λ (f : Found). IsFit c.args.arcs.now c.args.long.now c.loop-way.rate f) c.in-Over.is c.in_ok-offsets.ensures in
    subst (λ (w : List Arc). length_over (at c.args.long.now) w ≤ 4503599627370496) (sym c.as_slice.ensures)
    (short c.args.arcs.now c.args.long.now c.requires.searchable c.loop-way.rate c.in-Over.first c.in-Over.cycle is_over)

pub rate_over-rate-requires-clause-low : goal.rate_over-rate-requires-clause-low
rate_over-rate-requires-clause-low c =
    let is_over : IsOver c.args.arcs.now c.args.long.now c.loop-way.rate c.in-Over.first c.in-Over.cycle =
    subst (λ (f : Found). IsFit c.args.arcs.now c.args.long.now c.loop-way.rate f) c.in-Over.is c.in_ok-offsets.ensures in
    subst (λ (w : List Arc). lags w ≤ 1073741824) (sym c.as_slice.ensures) (low c.args.arcs.now c.args.long.now c.requires.searchable c.loop-way.rate c.in-Over.first c.in-Over.cycle is_over)

pub loop-way-preserved : goal.loop-way-preserved
loop-way-preserved c =
    let is_over : IsOver c.args.arcs.now c.args.long.now c.loop-way.rate c.in-Over.first c.in-Over.cycle =
    subst (λ (f : Found). IsFit c.args.arcs.now c.args.long.now c.loop-way.rate f) c.in-Over.is c.in_ok-offsets.ensures in
    let is : IsRateOver (at c.args.long.now) c.in-Over.cycle c.rate_over-rate.result =
    subst (λ (w : List Arc). IsRateOver (at c.args.long.now) w c.rate_over-rate.result) c.as_slice.ensures c.rate_over-rate.ensures in
    goes_on c.args.arcs.now c.args.long.now c.requires.searchable c.loop-way.rate c.in-Over.first c.in-Over.cycle is_over c.loop-way.act c.loop-way.way c.loop-way.invariant c.rate_over-rate.result is

pub loop-way-smaller : goal.loop-way-smaller
loop-way-smaller c =
    let is_over : IsOver c.args.arcs.now c.args.long.now c.loop-way.rate c.in-Over.first c.in-Over.cycle =
    subst (λ (f : Found). IsFit c.args.arcs.now c.args.long.now c.loop-way.rate f) c.in-Over.is c.in_ok-offsets.ensures in
    let is : IsRateOver (at c.args.long.now) c.in-Over.cycle c.rate_over-rate.result =
    subst (λ (w : List Arc). IsRateOver (at c.args.long.now) w c.rate_over-rate.result) c.as_slice.ensures c.rate_over-rate.ensures in
    less c.args.arcs.now c.args.long.now c.requires.searchable c.loop-way.rate c.in-Over.first c.in-Over.cycle is_over c.loop-way.act c.loop-way.way c.loop-way.invariant c.rate_over-rate.result is
