-- What is made of a text of actual durations.
use Rattle.std.specs.Prelude.{ℕ}
use Rattle.compiler.specs.Schedules.{schedule_of}
use Rattle.syn_base.specs.Bytes.{Bytes}
use Rattle.self_timed.specs.Graph.{Graph}
use Rattle.self_timed.specs.Archi.{Architecture as Archi}
use Rattle.self_timed.specs.Table.{Table}
use Rattle.top_plans.specs.Listing.{dates_text}
use Rattle.top_plans.specs.Plan.{give}
use Rattle.top_plans.specs.Given.{written}
use Rattle.top_plans.specs.Plans.{Made, durations_in, program_plan}

-- the dates of this many reactions under the durations of a text, within the limits of the program
abbrev pub dated_in : Bytes → Graph → Archi → Table → ℕ → Made
dated_in text g a t n =
    durations_in text g a t (λ ticks.
    program_plan g a t (λ p.
    give (written (dates_text g a (schedule_of g a t) ticks n))))
