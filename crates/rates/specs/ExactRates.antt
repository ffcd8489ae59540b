-- What an exact rate is, with its certificate: offsets that fit, and a critical cycle.
use Rattle.std.specs.Prelude.{◌≡◌, ◌⊎◌, ◌*◌, ◌<◌, ◌≤◌, ℕ, IsTrue, List}
use Rattle.std.specs.Int.{IsGcd}
use Rattle.self_timed.specs.declared.Vertex.{Vertex}
use Rattle.self_timed.specs.Acts.{Act}
use Rattle.rates.specs.declared.table.Arc.{Arc}
use Rattle.rates.specs.declared.table.Rate.{Rate}
use Rattle.rates.specs.declared.exact_rate.ExactRate.{ExactRate}
use Rattle.rates.specs.Rates.{Sustains, IsCriticalCycle, lags, length_over}
use Rattle.rates.specs.Tables.{at, is_critical_in, rows_fit}

-- The rate is exact over a table, if act i lasts `long i`: it is in lowest terms, its offsets fit,
-- and it has no ticks, so that none is lower, or its cycle is critical.
pub record IsExactIn (table : List (List Arc)) (long : ℕ → ℕ) (found : ExactRate) : Type 0 where
  pub some : 0 < found.rate.reactions
  pub lowest : IsGcd found.rate.ticks found.rate.reactions 1
  pub sustained : IsTrue (rows_fit long found.rate.ticks found.rate.reactions (at found.offsets) table)
  pub exact : (found.rate.ticks ≡ 0)
      ⊎ IsTrue (is_critical_in table long found.rate.ticks found.rate.reactions found.act found.way)

-- The same of the acts xs of a schedule, if buffers that another sequence reads have this depth.
pub record IsExactRateOf (depth : ℕ) (vertices : List Vertex) (xs : List Act) (long : ℕ → ℕ)
    (found : ExactRate) : Type 0 where
  pub some : 0 < found.rate.reactions
  pub lowest : IsGcd found.rate.ticks found.rate.reactions 1
  pub sustained : Sustains depth vertices xs long found.rate.ticks found.rate.reactions
      (at found.offsets)
  pub exact : (found.rate.ticks ≡ 0)
      ⊎ IsCriticalCycle depth vertices xs long found.rate.ticks found.rate.reactions found.act found.way

-- The rate is that of the cycle, in lowest terms: as many ticks as its acts last, for the reactions
-- over which it leads.
pub record IsRateOver (long : ℕ → ℕ) (way : List Arc) (rate : Rate) : Type 0 where
  pub some : 0 < rate.reactions
  pub lowest : IsGcd rate.ticks rate.reactions 1
  pub same : rate.reactions * length_over long way ≡ rate.ticks * lags way
  pub few : rate.ticks ≤ length_over long way
  pub low : rate.reactions ≤ lags way
