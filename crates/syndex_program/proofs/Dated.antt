-- The plan of dates, part by part.
use Rattle.std.proofs.Common.{◌≡◌, ℕ, List, Result, Err, subst}
use Rattle.compiler.specs.Schedules.{schedule_of}
use Rattle.std.specs.Prelude.{Vec}
use Rattle.syn_base.specs.Bytes.{Bytes}
use Rattle.algo_tree.specs.Tree.{Vertex}
use Rattle.self_timed.specs.Graph.{Graph}
use Rattle.self_timed.specs.Archi.{Architecture as Archi}
use Rattle.self_timed.specs.Table.{Table}
use Rattle.self_timed.specs.declared.Schedule.{Schedule}
use Rattle.self_timed.specs.Text.{Described}
use Rattle.top_plans.specs.Shelf.{Held}
use Rattle.top_plans.specs.declared.ActualError.{ActualError}
use Rattle.top_plans.specs.declared.ActualError.TheVariants as error
use Rattle.top_plans.specs.Actual.{actual_of}
use Rattle.top_plans.specs.ActualAnswers as answers
use Rattle.top_plans.specs.FlatOf.{flat_of}
use Rattle.top_plans.specs.declared.File.TheVariants.{Durations}
use Rattle.top_plans.specs.Listing.{dates_text}
use Rattle.top_plans.specs.Plan.{after, give}
use Rattle.top_plans.specs.Run.{Makes}
use Rattle.top_plans.proofs.Makes.{after_err, memory}
use Rattle.top_plans.specs.Status.{ending_of, of_durations, status_of_durations}
use Rattle.top_plans.specs.Given.{written}
use Rattle.top_plans.specs.Plans.{Made, durations_in, program_plan, read_file}
use Rattle.syndex_program.specs.Dates.{dated_in}

-- a text of actual durations is refused
durations_refused : (A : Type 0) (g : Graph) (a : Archi) (t : Table) (s : Schedule) (text : Bytes) → s ≡ schedule_of g a t → (held : Held) (next : List ℕ → Made) (e : ActualError)
    → answers.Gives {A = A} (Err e) (actual_of g a t s text) → Makes held held (durations_in text g a t next) (Err (ending_of (status_of_durations e)))
durations_refused A g a t s text run held next e h = by e (subst (λ (u : Schedule). answers.Gives {A = A} (Err e) (actual_of g a t u text)) run h)
  where
    by : (e : ActualError) → answers.Gives {A = A} (Err e) (actual_of g a t (schedule_of g a t) text) → Makes held held (durations_in text g a t next) (Err (ending_of (status_of_durations e)))
    by (error.Refused fault) h = after_err held of_durations (actual_of g a t (schedule_of g a t) text) next (error.Refused fault) h
    by (error.Limit fault) h = after_err held of_durations (actual_of g a t (schedule_of g a t) text) next (error.Limit fault) h
    by error.OutOfMemory h = memory held (after of_durations (actual_of g a t (schedule_of g a t) text) next)

-- the same of what was answered
pub refused_by : {A : Type 0} (g : Graph) (a : Archi) (t : Table) (s : Schedule) (text : Bytes) → s ≡ schedule_of g a t → (r : Result (Vec ℕ A) ActualError) → answers.Gives r (actual_of g a t s text)
    → (e : ActualError) → r ≡ Err e → (held : Held) (next : List ℕ → Made) → Makes held held (durations_in text g a t next) (Err (ending_of (status_of_durations e)))
refused_by {A = A} g a t s text run r h e was held next =
    durations_refused A g a t s text run held next e (subst (λ (q : Result (Vec ℕ A) ActualError). answers.Gives {A = A} q (actual_of g a t s text)) was h)

-- what is made of a text with these ticks
module _ (g : Graph) (a : Archi) (t : Table) (n : ℕ) where
  abbrev pub behind : List ℕ → Made
  behind ticks = program_plan g a t (λ p. give (written (dates_text g a (schedule_of g a t) ticks n)))

-- what is made after an architecture
abbrev pub behind_architecture : Bytes → ℕ → Vertex → Described → Table → Made
behind_architecture name n main d t = read_file Durations name (λ text. dated_in text (flat_of main) d.archi t n)
