-- The text of a report.
use Rattle.std.specs.Prelude.{
  ℕ,
  ◌+◌,
  ◌/◌,
  ◌%◌,
  List,
  [],
  ◌∷◌,
  ◌++◌,
  map,
  Option,
  Some,
  None,
  option_map,
  slice_get,
  unwrap_or,
  codes,
}
use Rattle.std.specs.Fmt.{decimal}
use Rattle.syn_base.specs.Bytes.{Bytes}
use Rattle.timing_chart.specs.Chart.{Line, text_of}
use Rattle.self_timed.specs.declared.Vertex.{Vertex}
use Rattle.self_timed.specs.declared.Medium.{Medium}
use Rattle.self_timed.specs.Archi.{Architecture, operator_name}
use Rattle.self_timed.specs.Windows.{lesser_date}
use Rattle.self_timed.specs.Graph.{operation_name}
use Rattle.self_timed.specs.declared.period.Period.{Period}
use Rattle.self_timed.specs.declared.latency.Latency.{Latency}
use Rattle.lower_bound.specs.declared.links.Link.{Link}
use Rattle.lower_bound.specs.Numbers.{ratio}
use Rattle.lower_bound.specs.declared.ratio.Ratio.{Ratio}
use Rattle.lower_bound.specs.declared.loads.Load.{Load}
use Rattle.lower_bound.specs.declared.alone.Alone.{Alone}
use Rattle.lower_bound.specs.declared.report.Report.{Report}
use Rattle.lower_bound.specs.declared.transfers.Transfers.{Transfers}
use Rattle.lower_bound.specs.declared.busiest.Busiest.{Busiest}
use Rattle.lower_bound.specs.declared.busiest.Line as busy
use Rattle.lower_bound.specs.declared.busiest.Line.TheVariants as busy_line
use Rattle.report_text.specs.declared.figures.Figures.{Figures}
use Rattle.report_text.specs.declared.figures.Pace.{Pace}

-- the last digit of a number
abbrev pub digit : ℕ → ℕ
digit n = 48 + n % 10

-- the whole part, a point, and three digits
abbrev pub ratio_word : Ratio → Bytes
ratio_word r =
    decimal r.whole ++ (codes "." ++
    (digit (r.thousandths / 100) ∷ digit (r.thousandths / 10) ∷ digit r.thousandths ∷ []))

-- how long one of the last half of some reactions takes, in the mean
abbrev pub period_word : Period → Bytes
period_word p = ratio_word (ratio p.ticks p.reactions)

-- The line `WORD NUMBER`.
abbrev pub number_line : Bytes → ℕ → Line
number_line word n = word ∷ decimal n ∷ []

-- WORD NAME busy TICKS share RATIO
abbrev pub load_line : Bytes → Bytes → Load → Line
load_line word name l = word ∷ name ∷ codes "busy" ∷ decimal l.busy ∷ codes "share" ∷ ratio_word l.share ∷ []

-- a line for each name and its load
abbrev pub load_lines : Bytes → List Bytes → List Load → List Line
load_lines word [] ls = []
load_lines word (n ∷ ns) [] = []
load_lines word (n ∷ ns) (l ∷ ls) = load_line word n l ∷ load_lines word ns ls

-- transfers COUNT constants COUNT delays COUNT
abbrev pub transfers_line : Transfers → Line
transfers_line t =
    codes "transfers" ∷ decimal t.all ∷ codes "constants" ∷ decimal t.constants ∷ codes "delays" ∷ decimal t.delays ∷ []

-- alone NAME TICKS speed-up RATIO
abbrev pub alone_line : Bytes → Alone → Line
alone_line name x = codes "alone" ∷ name ∷ decimal x.time ∷ codes "speed-up" ∷ ratio_word x.speed_up ∷ []

-- a line for each operator where all operations may stand
abbrev pub alone_lines : List Bytes → List (Option Alone) → List Line
alone_lines [] xs = []
alone_lines (n ∷ ns) [] = []
alone_lines (n ∷ ns) (None ∷ xs) = alone_lines ns xs
alone_lines (n ∷ ns) (Some x ∷ xs) = alone_line n x ∷ alone_lines ns xs

-- one reaction: its length, how busy operators and media are, its transfers, and how long operators take alone
abbrev pub reaction_lines : Architecture → Report → Transfers → List Line
reaction_lines a r t =
    number_line (codes "length") r.length ∷
    (load_lines (codes "operator") a.operators r.operators ++
    (load_lines (codes "medium") (map (λ m. m.name) a.media) r.media ++
    transfers_line t ∷ alone_lines a.operators r.alone))

-- the least time of operators where all operations may stand, with the best one before them
abbrev pub best_from : Option ℕ → List (Option Alone) → Option ℕ
best_from best [] = best
best_from best (None ∷ xs) = best_from best xs
best_from best (Some x ∷ xs) = best_from (Some (lesser_date best x.time)) xs

-- The least time that all operations take one after another on one operator, among the operators on
-- which all of them may stand, and None if there is no such operator.
abbrev pub best_alone : List (Option Alone) → Option ℕ
best_alone xs = best_from None xs

-- pressure-run LENGTH period RATIO
abbrev pub run_line : Pace → Line
run_line r = codes "pressure-run" ∷ decimal r.length ∷ codes "period" ∷ period_word r.period ∷ []

-- best-alone TICKS, where there is such an operator
abbrev pub best_lines : Option ℕ → List Line
best_lines None = []
best_lines (Some t) = number_line (codes "best-alone") t ∷ []

-- what a schedule that was searched stands beside: the pressure run, and the best of operators alone
abbrev pub beside_lines : Option Pace → List (Option Alone) → List Line
beside_lines None alone = []
beside_lines (Some run) alone = run_line run ∷ best_lines (best_alone alone)

-- period RATIO reactions COUNT
abbrev pub period_line : Period → Line
period_line p = codes "period" ∷ period_word p ∷ codes "reactions" ∷ decimal p.reactions ∷ []

-- The name of medium m, and the empty text if there is no such medium.
abbrev pub medium_name : List Medium → ℕ → Bytes
medium_name media m = unwrap_or (option_map (λ x. x.name) (slice_get media m)) []

-- the word of an operator or a medium, and its name
abbrev pub line_word : busy.Line → Bytes
line_word (busy_line.Operator o) = codes "operator"
line_word (busy_line.Medium m) = codes "medium"

-- The name of an operator or a medium, and the empty text if the architecture has none of this
-- number.
abbrev pub line_name : Architecture → busy.Line → Bytes
line_name a (busy_line.Operator o) = operator_name a.operators o
line_name a (busy_line.Medium m) = medium_name a.media m

-- busiest WORD NAME share RATIO
abbrev pub share_line : Bytes → Bytes → Ratio → Line
share_line word name share = codes "busiest" ∷ word ∷ name ∷ codes "share" ∷ ratio_word share ∷ []

-- The line of the report for the busiest operator or medium and its share of the period.
abbrev pub busiest_line : Architecture → Busiest → Line
busiest_line a b = share_line (line_word b.line) (line_name a b.line) b.share

-- of operations by number
module _ (vertices : List Vertex) where
  -- The name of operation v, and the empty text if there is no operation v.
  abbrev pub name_of : ℕ → Bytes
  name_of v = operation_name vertices v

  -- latency SENSOR ACTUATOR TICKS
  abbrev pub latency_line : Latency → Line
  latency_line l = codes "latency" ∷ name_of l.sensor ∷ name_of l.actuator ∷ decimal l.ticks ∷ []

  -- many reactions: their period, which line is busiest in it, and how long actuators take after sensors
  abbrev pub period_lines : Architecture → Figures → List Line
  period_lines a f = period_line f.period ∷ busiest_line a f.busiest ∷ map latency_line f.latencies

  -- The line `chain NAME TICKS` of an operation of the chain.
  abbrev pub chain_line : Link → Line
  chain_line k = codes "chain" ∷ name_of k.op ∷ decimal k.ticks ∷ []

-- bound TICKS ratio RATIO
abbrev pub bound_line : ℕ → Ratio → Line
bound_line bound above = codes "bound" ∷ decimal bound ∷ codes "ratio" ∷ ratio_word above ∷ []

-- the bound, and the operations of a longest chain
abbrev pub bound_lines : List Vertex → Figures → List Line
bound_lines vertices f = bound_line f.numbers.bound f.numbers.above ∷ map (chain_line vertices) f.chain

-- one reaction, what stands beside it, many reactions, and the bound
abbrev pub report_lines : List Vertex → Architecture → Figures → List Line
report_lines vertices a f =
    reaction_lines a f.numbers f.transfers ++
    (beside_lines f.beside f.numbers.alone ++
    (period_lines vertices a f ++
    bound_lines vertices f))

-- The text of a report with these figures: those of one reaction, those of a search if there was
-- one, those of many reactions, and the bound with a longest chain.
abbrev pub report_text : List Vertex → Architecture → Figures → Bytes
report_text vertices a f = text_of (report_lines vertices a f)
