-- What is answered of the schedule that was found: a text, or why there is none.
use Rattle.std.specs.Prelude.{
  ℕ,
  nat_eq,
  if◌then◌else◌,
  List,
  length,
  replicate,
  Option,
  Some,
  None,
  Result,
  Ok,
  Err,
}
use Rattle.top_plans.specs.Schedules.{schedule_of}
use Rattle.syn_base.specs.Bytes.{Bytes}
use Rattle.syn_base.specs.declared.limits.LimitFault.{LimitFault}
use Rattle.chart_picture.specs.Picture.{picture}
use Rattle.chart_picture.specs.DatesPicture.{dates_picture}
use Rattle.trace_events.specs.DatesTrace.{dates_trace}
use Rattle.trace_events.specs.Trace.{chart_trace}
use Rattle.graph_drawing.specs.FlatDrawing.{placed_drawing}
use Rattle.self_timed.specs.Archi.{Architecture as Archi}
use Rattle.self_timed.specs.Table.{entry_in}
use Rattle.self_timed.specs.Graph.{Graph}
use Rattle.self_timed.specs.declared.Schedule.{Schedule}
use Rattle.self_timed.specs.Acts.{length_of}
use Rattle.self_timed.specs.declared.Program.{Program}
use Rattle.self_timed.specs.Built.{program_of}
use Rattle.self_timed.specs.declared.period.Period.{Period}
use Rattle.self_timed.specs.Period.{period_of_schedule}
use Rattle.self_timed.specs.StatedLatencies.{latencies_of_schedule}
use Rattle.lower_bound.specs.Numbers as numbers
use Rattle.lower_bound.specs.Transfers.{transfers}
use Rattle.lower_bound.specs.declared.report.Report.{Report}
use Rattle.lower_bound.specs.Busiest.{busiest}
use Rattle.lower_bound.specs.Chain.{chain_links}
use Rattle.report_text.specs.Text.{report_text}
use Rattle.report_text.specs.declared.figures.Figures.{Figures}
use Rattle.report_text.specs.declared.figures.Pace.{Pace}
use Rattle.top_plans.specs.Limit.{program_limit}
use Rattle.top_plans.specs.CodeText.{macro_code}
use Rattle.top_plans.specs.declared.ActualError.{ActualError}
use Rattle.top_plans.specs.Actual.{actual_of}
use Rattle.top_plans.specs.Status.{Refusal, above, of_durations}
use Rattle.lab_words.specs.Command.{Subject, chart, trace, flat, code, report, Form, drawn, traced}
use Rattle.lab_plans.specs.Asked.{Request, Asked, of_text, of_schedule, of_dates}

-- the program of a schedule, and the limit that it is above, if any
abbrev pub program : Request → Schedule → Program
program p s = program_of p.graph p.archi s

-- The first limit that the program of a schedule is above, and None if it is within all of them.
abbrev pub limit : Request → Schedule → Option LimitFault
limit p s = program_limit (program p s) (length p.archi.media)

-- a text, where there is no limit fault
abbrev pub within : Option LimitFault → Bytes → Result Bytes Refusal
within None text = Ok text
within (Some fault) text = Err (above fault)

-- the numbers of a schedule, and its period over so many reactions
abbrev pub numbers_of : Request → Schedule → Report
numbers_of p s = numbers.report p.graph p.archi (entry_in p.table) s

-- The period of a schedule over n reactions: how long the last half of them takes, and how many
-- they are.
abbrev pub period_over : Request → ℕ → Schedule → Period
period_over p n s = period_of_schedule p.graph p.archi s n

-- how long a schedule is, and how fast so many of its reactions follow each other
abbrev pub pace : Request → ℕ → Schedule → Pace
pace p n s = record { length = length_of s; period = period_over p n s }

-- the pressure run, beside which a schedule stands that was searched
abbrev pub beside : Request → ℕ → Option Pace
beside p n = if nat_eq p.effort.tries 0 then None else Some (pace p n (schedule_of p.graph p.archi p.table))

-- all that a report tells of a schedule, and of so many of its reactions
abbrev pub figures : Request → ℕ → Schedule → Figures
figures p n s = record {
  numbers = numbers_of p s;
  transfers = transfers p.graph s;
  beside = beside p n;
  period = period_over p n s;
  busiest = busiest (numbers_of p s) (period_over p n s);
  latencies = latencies_of_schedule p.graph p.archi s n;
  chain = chain_links p.table.operators (entry_in p.table) p.graph.vertices;
}

-- what is written of a schedule: the macro-code is that of its program, within its limits
abbrev pub subject_text : Subject → Request → Schedule → Result Bytes Refusal
subject_text chart p s = Ok (picture p.graph p.archi s)
subject_text trace p s = Ok (chart_trace p.graph p.archi s)
subject_text flat p s = Ok (placed_drawing p.graph p.archi s)
subject_text code p s = within (limit p s) (macro_code (program p s) p.graph p.archi)
subject_text (report n) p s = Ok (report_text p.graph.vertices p.archi (figures p n s))

-- the dates of reactions that last these ticks, one after another, in a form
abbrev pub form_text : Form → Graph → Archi → Schedule → List (List ℕ) → Bytes
form_text drawn g a s ticks = dates_picture g a s ticks
form_text traced g a s ticks = dates_trace g a s ticks

-- the dates of so many reactions that last these ticks each, within the limits of the program
abbrev pub dates_by : Form → Request → ℕ → Schedule → Result (List ℕ) ActualError → Result Bytes Refusal
dates_by form p n s (Ok ticks) = within (limit p s) (form_text form p.graph p.archi s (replicate n ticks))
dates_by form p n s (Err error) = Err (of_durations error)

-- The dates of n reactions in which the operations and transfers of the schedule last as a text
-- says, or its refusal.
abbrev pub dates_of : Form → Request → Bytes → ℕ → Schedule → Result Bytes Refusal
dates_of form p text n s = dates_by form p n s (actual_of p.graph p.archi p.table s text)

-- what is asked for, of this schedule
abbrev pub answer : Asked → Schedule → Result Bytes Refusal
answer (of_text text) s = Ok text
answer (of_schedule subject p) s = subject_text subject p s
answer (of_dates form p text n) s = dates_of form p text n s
