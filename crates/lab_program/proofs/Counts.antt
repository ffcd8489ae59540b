-- Words give numbers of reactions from 1 to 1,000.
use Rattle.std.proofs.Common.{◌≡◌, ℕ, ◌≤◌, Bool, true, false, ◌&&◌, List, length, Option, Some, None, refl, arith}
use Rattle.std.specs.Prelude.{if◌then◌else◌, nat_le, option_and_then, option_map}
use Rattle.std.specs.List.{list_all}
use Rattle.std.proofs.lemmas.Bool.{leb-true}
use Rattle.clap.specs.Faults.{fault_of}
use Rattle.clap.specs.Simple.{subcommand_of}
use Rattle.clap.specs.Walk.{Row, is_empty}
use Rattle.syn_base.specs.Bytes.{Bytes}
use Rattle.syn_base.specs.Integer.{number_of}
use Rattle.syn_base.specs.Name.{is_digit}
use Rattle.command_words.specs.Command.{number_up_to}
use Rattle.command_words.specs.Table.{kind_named}
use Rattle.lab_words.specs.App.{the_app}
use Rattle.lab_words.specs.Table.{table}
use Rattle.lab_words.specs.declared.table.AlgorithmText.{AlgorithmText}
use Rattle.lab_words.specs.declared.table.AlgorithmText.TheVariants.{Graph, Table}
use Rattle.lab_words.specs.declared.table.ScheduleText.{ScheduleText}
use Rattle.lab_words.specs.declared.table.ScheduleText.TheVariants.{Chart, Flat, Code}
use Rattle.lab_words.specs.declared.table.CommandKind.{CommandKind}
use Rattle.lab_words.specs.declared.table.CommandKind.TheVariants.{Help, Algorithm, Lint, Plot, Why, Schedule, Report, Trace, Dates}
use Rattle.lab_words.specs.Command.{
  Command,
  Form,
  Subject,
  Values,
  schedule,
  lint,
  dates,
  report,
  trace,
  drawn,
  traced,
  why,
  plot,
  command_in,
  command_of,
  command_with,
  dates_given,
  dates_on,
  effort_given,
  number_given,
  of_algorithm,
  placed,
  report_given,
  schedule_given,
  subject_of,
  trace_by,
  values_of,
}
use Rattle.lab_program.specs.Counts.{IsCountedOf, IsReactions, IsCounted}

-- If there is a command, its numbers are within their bounds.
abbrev pub AreCounted : Option Command → Type 0
AreCounted None = Unit {0}
AreCounted (Some command) = IsCounted command

either : {X : Type 0} (P : X → Type 0) (b : Bool) (x y : X) → P x → P y → P (if b then x else y)
either P true x y h k = h
either P false x y h k = k

with_some : {X : Type 0} (go : X → Option Command) → ((x : X) → AreCounted (go x)) → (o : Option X) → AreCounted (option_and_then go o)
with_some go h None = tt
with_some go h (Some x) = h x

module _ (P : Option ℕ → Type 0) (none : P None) (some : (n : ℕ) → 1 ≤ n → n ≤ 1000 → P (Some n)) where
  -- a number that is given where four tests hold, two of which bound it
  bounded : (a b c d : Bool) (n : ℕ) → (c ≡ true → 1 ≤ n) → (d ≡ true → n ≤ 1000) → P (if a && b && c && d then Some n else None)
  bounded true true true true n p q = some n (p refl) (q refl)
  bounded true true true false n p q = none
  bounded true true false d n p q = none
  bounded true false c d n p q = none
  bounded false b c d n p q = none

  by_number : (w : Bytes) → P (number_up_to 1000 w)
  by_number w =
      bounded (nat_le 1 (length w)) (list_all is_digit w) (nat_le 1 (number_of w)) (nat_le (number_of w) 1000) (number_of w)
      (leb-true 1 (number_of w)) (leb-true (number_of w) 1000)

with_last : {X : Type 0} (go : X → Command) → ((x : X) → IsCounted (go x)) → (o : Option X) → AreCounted (option_map go o)
with_last go h None = tt
with_last go h (Some x) = h x

-- a command of an algorithm on an architecture
on_board : (go : Bytes → Bytes → Option Command) → ((a h : Bytes) → AreCounted (go a h)) → (v : Values) → AreCounted (placed go v)
on_board go k v = with_some (λ a. option_and_then (go a) v.architecture) (λ a. with_some (go a) (k a) v.architecture) v.algorithm

of_dates : (form : Form) (v : Values) → AreCounted (dates_given form v)
of_dates form v = on_board (λ a h. dates_on form a h v) (λ a h. with_some _ (λ g. with_some _ (λ w. of_number a h g w) v.reactions) v.durations) v
  where
    of_number : (a h g w : Bytes) → AreCounted (option_and_then (λ n. option_map (dates form a h g n) (effort_given v)) (number_up_to 1000 w))
    of_number a h g w =
        by_number (λ o. AreCounted (option_and_then (λ n. option_map (dates form a h g n) (effort_given v)) o)) tt
        (λ n low high. with_last (dates form a h g n) (λ effort. (low, high)) (effort_given v)) w

abbrev AreCountedOf : Option Subject → Type 0
AreCountedOf None = Unit {0}
AreCountedOf (Some subject) = IsCountedOf subject

-- a report of 50 reactions, or of as many as the words say
fifty : IsReactions 50
fifty = (omega arith, omega arith)

of_report : (o : Option Bytes) → AreCountedOf (option_map (λ n. report n) (number_given 1000 50 o))
of_report None = fifty
of_report (Some w) = by_number (λ n. AreCountedOf (option_map (λ k. report k) n)) tt (λ n low high. (low, high)) w

of_text : (text : ScheduleText) → IsCountedOf (subject_of text)
of_text Chart = tt
of_text Flat = tt
of_text Code = tt

of_schedule : (subject : Subject) → IsCountedOf subject → (v : Values) → AreCounted (schedule_given subject v)
of_schedule subject k v =
    on_board (λ a h. option_map (schedule subject a h) (effort_given v)) (λ a h. with_last (schedule subject a h) (λ effort. k) (effort_given v)) v

by_report : (o : Option Subject) → AreCountedOf o → (v : Values) → AreCounted (option_and_then (λ subject. schedule_given subject v) o)
by_report None k v = tt
by_report (Some subject) k v = of_schedule subject k v

of_trace : (o : Option Bytes) (v : Values) → AreCounted (trace_by o v)
of_trace None v = of_schedule trace tt v
of_trace (Some g) v = of_dates traced v

of_algorithm_text : (text : AlgorithmText) (a : Bytes) → IsCounted (of_algorithm text a)
of_algorithm_text Graph a = tt
of_algorithm_text Table a = tt

-- whatever the kind of the command
by_kind : (kind : CommandKind) (v : Values) → AreCounted (command_with kind v)
by_kind Help v = tt
by_kind (Algorithm text) v = with_last (of_algorithm text) (of_algorithm_text text) v.algorithm
by_kind Lint v = with_last (λ a. lint a v.architecture) (λ a. tt) v.algorithm
by_kind Plot v = with_some (λ a. option_map (plot a) v.sensors) (λ a. with_last (plot a) (λ s. tt) v.sensors) v.algorithm
by_kind Why v = on_board (λ a h. option_map (why a h) v.macros) (λ a h. with_last (why a h) (λ c. tt) v.macros) v
by_kind (Schedule text) v = of_schedule (subject_of text) (of_text text) v
by_kind Report v = by_report (report_given v) (of_report v.reactions) v
by_kind Trace v = of_trace v.durations v
by_kind Dates v = of_dates drawn v

by_found : (found : Bytes × List Row) → AreCounted (command_in found)
by_found (name, rows) = with_some (λ kind. command_with kind (values_of rows)) (λ kind. by_kind kind (values_of rows)) (kind_named table name)

pub counted_words : (words : List Bytes) → AreCounted (command_of words)
counted_words words = either AreCounted (is_empty (fault_of the_app words)) _ _ (with_some command_in by_found (subcommand_of the_app words)) tt
