-- What the texts say that commands write, in the subject's own words: of each, that it is right for what its files say.
use Rattle.std.specs.Prelude.{
  ◌≡◌,
  ◌++◌,
  ◌+◌,
  ◌*◌,
  ◌≤◌,
  true,
  ℕ,
  List,
  Option,
  Some,
  Ok,
  codes,
  length,
  map,
  replicate,
  slice_get,
}
use Rattle.syn_base.specs.Bytes.{Bytes}
use Rattle.syn_base.specs.Vectors.{Values}
use Rattle.algo_print.specs.ReadBack.{Says}
use Rattle.multi_period.specs.Meaning.{act_row_at}
use Rattle.algo_rules.specs.declared.Defs.{Defs}
use Rattle.algo_rules.specs.Text.{definitions_of}
use Rattle.self_timed.specs.Text.{Described, description_of}
use Rattle.self_timed.specs.Sequences.{sequences}
use Rattle.self_timed.specs.Table.{Table, durations_of, entry_in}
use Rattle.self_timed.specs.Graph.{Graph}
use Rattle.self_timed.specs.FlatValid.{is_flat}
use Rattle.self_timed.specs.Meaning.{initial_cells, flat_act_row}
use Rattle.self_timed.specs.declared.Schedule.{Schedule}
use Rattle.self_timed.specs.Acts.{Act, acts, start_of, end_of, length_of}
use Rattle.self_timed.specs.Tight.{is_tight}
use Rattle.self_timed.specs.ScheduleValid.{is_valid}
use Rattle.self_timed.specs.declared.Program.{Program}
use Rattle.self_timed.specs.WellFormed.{IsWellFormed}
use Rattle.self_timed.specs.Dates.{dates}
use Rattle.self_timed.specs.Entries.{IsFirstStated, dates_of_reaction, lasting}
use Rattle.actual_durations.specs.Actual.{actual_of}
use Rattle.dates_text.specs.Chart.{chart}
use Rattle.dates_text.specs.Listing.{dates_text}
use Rattle.command_status.specs.CodeText.{macro_code}
use Rattle.command_status.specs.ReadText.{program_in}
use Rattle.command_words.specs.declared.table.AlgorithmText.{AlgorithmText}
use Rattle.accepted_laws.specs.Told.{Algorithm}
use Rattle.top_plans.specs.GraphText.{graph_text}

-- The written text is read as the same definitions as the text of an algorithm, its version and its marks included.
pub record SaysAgain (text written : Bytes) : Type 0 where
  pub defs : Defs
  pub says : definitions_of text ≡ Ok defs
  pub back : Says written defs

-- The written text describes the same architecture as this text, with the same version and the same durations.
pub record DescribesAgain (lines written : Bytes) : Type 0 where
  pub described : Described
  pub describes : description_of lines ≡ Ok described
  pub back : description_of written ≡ Ok described

-- A valid flat graph whose actuators take in each reaction, over all rows, what the actuators of the text take. Its
-- delays begin with their initial values.
pub record DoesTheSame (text : Bytes) (g : Graph) : Type 0 where
  pub algorithm : Algorithm text
  pub valid : is_flat g ≡ true
  pub takes : (rows : List Values) (k : ℕ) →
      flat_act_row g rows (initial_cells g.vertices) k ≡ act_row_at algorithm.marks algorithm.main rows k

-- A schedule of such a graph on the architecture of a text, by the durations of that text: it is valid, so that each
-- operation is placed once, where it has a duration, and nothing overlaps or comes before what it reads; and it is
-- tight, so that nothing waits longer than for what comes before it.
pub record IsScheduled (text lines : Bytes) (g : Graph) (d : Described) (s : Schedule) : Type 0 where
  pub same : DoesTheSame text g
  pub describes : description_of lines ≡ Ok d
  pub table : Table
  pub lasts : durations_of g d ≡ Ok table
  pub valid : is_valid g d.archi (entry_in table) s ≡ true
  pub tight : is_tight g s ≡ true

-- The written macro-code is that of a program which is well formed for such a graph on the architecture of a text, and
-- it is read as that program.
pub record IsCode (g : Graph) (d : Described) (p : Program) (written : Bytes) : Type 0 where
  pub formed : IsWellFormed p g (sequences d.archi) (length d.archi.media)
  pub printed : written ≡ macro_code p g d.archi
  pub back : program_in written g d.archi ≡ Ok p

module _ (told : Bytes → Option Bytes) where
  -- `check A`: the definitions again.
  pub record ChecksAlgorithm (a written : Bytes) : Type 0 where
    pub text : Bytes
    pub text_told : told a ≡ Some text
    pub again : SaysAgain text written

  -- `check A H`: the definitions again, an empty line, and the architecture again.
  pub record ChecksBoth (a h written : Bytes) : Type 0 where
    pub text : Bytes
    pub lines : Bytes
    pub text_told : told a ≡ Some text
    pub lines_told : told h ≡ Some lines
    pub first : Bytes
    pub second : Bytes
    pub parts : written ≡ first ++ (codes "\n" ++ second)
    pub algorithm : SaysAgain text first
    pub architecture : DescribesAgain lines second

  -- `flat A`: the listing, or another text, of a graph that does the same.
  pub record TellsTrue (what : AlgorithmText) (a written : Bytes) : Type 0 where
    pub text : Bytes
    pub text_told : told a ≡ Some text
    pub graph : Graph
    pub same : DoesTheSame text graph
    pub tells : written ≡ graph_text what graph

  -- The texts of an algorithm and of an architecture have this schedule.
  pub record Schedules (a h : Bytes) (g : Graph) (d : Described) (s : Schedule) : Type 0 where
    pub text : Bytes
    pub lines : Bytes
    pub text_told : told a ≡ Some text
    pub lines_told : told h ≡ Some lines
    pub scheduled : IsScheduled text lines g d s

  -- `chart A H`: the chart of a valid and tight schedule.
  pub record ChartsTrue (a h written : Bytes) : Type 0 where
    pub graph : Graph
    pub described : Described
    pub schedule : Schedule
    pub schedules : Schedules a h graph described schedule
    pub drawn : written ≡ chart graph described.archi schedule

  -- `code A H`: the macro-code of a program.
  pub record CodesTrue (a h written : Bytes) : Type 0 where
    pub graph : Graph
    pub described : Described
    pub schedule : Schedule
    pub schedules : Schedules a h graph described schedule
    pub program : Program
    pub code : IsCode graph described program written

  -- `dates A H G N`: the dates of N reactions of a schedule in which everything lasts as the text of real durations
  -- says. In reaction k each act ends no later than k lengths of the schedule after its end there; and if everything
  -- lasts as stated, the first reaction is the schedule itself.
  pub record DatesTrue (a h g : Bytes) (n : ℕ) (written : Bytes) : Type 0 where
    pub graph : Graph
    pub described : Described
    pub schedule : Schedule
    pub schedules : Schedules a h graph described schedule
    pub real : Bytes
    pub real_told : told g ≡ Some real
    pub ticks : List ℕ
    pub lasts : actual_of graph described.archi schedules.scheduled.table schedule real ≡ Ok ticks
    pub listed : written ≡ dates_text graph described.archi schedule ticks n
    pub in_time : (k i : ℕ) (x : Act) → slice_get (acts schedule) i ≡ Some x →
        dates described.archi.depth graph.vertices (acts schedule)
        (lasting graph.vertices (acts schedule) (replicate n ticks)) k i ≤ k * length_of schedule + end_of x
    pub first : IsFirstStated graph.vertices (acts schedule) (replicate n ticks) →
        dates_of_reaction described.archi.depth graph.vertices (acts schedule)
        (lasting graph.vertices (acts schedule) (replicate n ticks)) 0
        ≡ map (λ x. (start_of x, end_of x)) (acts schedule)
