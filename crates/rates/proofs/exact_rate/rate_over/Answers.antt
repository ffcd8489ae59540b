use Rattle.std.proofs.Common.{ℕ, ◌*◌, ◌<◌, sym, ap, arith, ◌∙◌}
use Rattle.std.specs.Prelude.{◌/◌}
use Rattle.rates.proofs.Rising.{divided, divisor_some}
use Rattle.rates.proofs.exact_rate.rate_over.Goals as goal

pub nonzero_div-result : goal.nonzero_div-result
nonzero_div-result c =
    let t = c.ticks_over-ticks.ensures.value in
    let l = c.lags_over-reactions.ensures.value in
    let later : 0 < c.lags_over-reactions.result = (let z = c.requires.later in omega arith) in
    divisor_some c.ticks_over-ticks.result c.lags_over-reactions.result c.greatest_divisor-divisor.result c.greatest_divisor-divisor.ensures later

pub nonzero_div-result-2 : goal.nonzero_div-result-2
nonzero_div-result-2 c =
    let t = c.ticks_over-ticks.ensures.value in
    let l = c.lags_over-reactions.ensures.value in
    let later : 0 < c.lags_over-reactions.result = (let z = c.requires.later in omega arith) in
    divisor_some c.ticks_over-ticks.result c.lags_over-reactions.result c.greatest_divisor-divisor.result c.greatest_divisor-divisor.ensures later

pub returns : goal.returns
returns c =
    let t = c.ticks_over-ticks.ensures.value in
    let l = c.lags_over-reactions.ensures.value in
    let later : 0 < c.lags_over-reactions.result = (let z = c.requires.later in omega arith) in
    let d = divided c.ticks_over-ticks.result c.lags_over-reactions.result c.greatest_divisor-divisor.result c.greatest_divisor-divisor.ensures later in
    record {
      some = d.some;
      lowest = d.lowest;
      same =
          ap (λ (n : ℕ). c.lags_over-reactions.result / c.greatest_divisor-divisor.result * n) (sym t) ∙ d.same ∙ ap (λ (n : ℕ). c.ticks_over-ticks.result / c.greatest_divisor-divisor.result * n) l;
      few = (let z = d.few in omega arith);
      low = (let z = d.low in omega arith);
    }
