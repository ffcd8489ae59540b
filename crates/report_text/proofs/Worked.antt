-- Worked lines of a report, and a whole one.
use Rattle.std.proofs.Common.{◌≡◌, ℕ, List, [], ◌∷◌, Option, None, Some, false, refl, codes}
use Rattle.std.specs.Fmt.{digits}
use Rattle.syn_base.specs.Bytes.{Bytes}
use Rattle.timing_chart.specs.Chart.{line_text, text_of}
use Rattle.self_timed.specs.declared.Vertex.{Vertex}
use Rattle.self_timed.specs.declared.MediumKind.TheVariants.{PointToPoint}
use Rattle.self_timed.specs.declared.Kind.TheVariants.{Sensor, Actuator}
use Rattle.self_timed.specs.Archi.{Architecture}
use Rattle.self_timed.proofs.Examples.{archi, medium, source, vertex}
use Rattle.self_timed.specs.declared.period.Period.{Period}
use Rattle.self_timed.specs.declared.latency.Latency.{Latency}
use Rattle.lower_bound.specs.declared.links.Link.{Link}
use Rattle.lower_bound.specs.declared.ratio.Ratio.{Ratio}
use Rattle.lower_bound.specs.declared.loads.Load.{Load}
use Rattle.lower_bound.specs.declared.alone.Alone.{Alone}
use Rattle.lower_bound.specs.declared.report.Report.{Report}
use Rattle.lower_bound.specs.declared.transfers.Transfers.{Transfers}
use Rattle.lower_bound.specs.declared.busiest.Line.{Line}
use Rattle.lower_bound.specs.declared.busiest.Line.TheVariants.{Medium, Operator}
use Rattle.report_text.specs.declared.figures.Figures.{Figures}
use Rattle.report_text.specs.declared.figures.Pace.{Pace}
use Rattle.report_text.specs.Text.{alone_lines, beside_lines, best_alone, busiest_line, load_lines, period_line, ratio_word, report_text, transfers_line}

abbrev times : ℕ → ℕ → Ratio
times whole thousandths = record { whole = whole; thousandths = thousandths }

abbrev busy_for : ℕ → ℕ → ℕ → Load
busy_for ticks whole thousandths = record { busy = ticks; share = times whole thousandths }

abbrev alone_for : ℕ → ℕ → ℕ → Option Alone
alone_for ticks whole thousandths = Some (record { time = ticks; speed_up = times whole thousandths })

abbrev over : ℕ → ℕ → Period
over ticks reactions = record { ticks = ticks; reactions = reactions }

abbrev counted : ℕ → ℕ → ℕ → Transfers
counted all constants delays = record { all = all; constants = constants; delays = delays }

-- thousandths have three digits, whatever they are
small : ratio_word (times 1 7) ≡ codes "1.007"
unfolding digits
small = refl

-- a line for each name, as far as there are loads
loads : text_of (load_lines (codes "operator") (codes "P" ∷ codes "Q" ∷ []) (busy_for 3 0 250 ∷ [])) ≡ codes "operator P busy 3 share 0.250\n"
unfolding digits
loads = refl

-- an operator where not all may stand has no line
alone : text_of (alone_lines (codes "P" ∷ codes "Q" ∷ []) (None ∷ alone_for 12 2 0 ∷ [])) ≡ codes "alone Q 12 speed-up 2.000\n"
unfolding digits
alone = refl

carried : line_text (transfers_line (counted 12 3 4)) ≡ codes "transfers 12 constants 3 delays 4\n"
unfolding digits
carried = refl

-- the mean of the reactions, rounded down, and 0 of none
periods : (line_text (period_line (over 50 3)) ≡ codes "period 16.666 reactions 3\n") × (line_text (period_line (over 0 0)) ≡ codes "period 0.000 reactions 0\n")
unfolding digits
periods = (refl, refl)

-- the least of those that are there, whichever stands first
best : (best_alone (None ∷ alone_for 12 2 0 ∷ alone_for 9 1 500 ∷ None ∷ alone_for 10 1 666 ∷ []) ≡ Some 9) × (best_alone (None ∷ None ∷ []) ≡ None)
best = (refl, refl)

-- beside a schedule that was searched, also where all operations may stand on no operator, and where nothing was searched
beside : (text_of (beside_lines (Some (record { length = 13; period = over 21 2 })) (alone_for 12 2 0 ∷ [])) ≡ codes "pressure-run 13 period 10.500\nbest-alone 12\n")
    × (text_of (beside_lines (Some (record { length = 13; period = over 21 2 })) (None ∷ [])) ≡ codes "pressure-run 13 period 10.500\n")
    × (text_of (beside_lines None (alone_for 12 2 0 ∷ [])) ≡ [])
unfolding digits
beside = (refl, refl, refl)

-- Two operators on a bus, a sensor and two actuators.
abbrev lines : Architecture
lines = archi ((80 ∷ []) ∷ (81 ∷ []) ∷ []) (medium 109 PointToPoint (0 ∷ 1 ∷ []) ∷ [])

abbrev vertices : List Vertex
vertices = vertex 115 (Sensor 0) [] (1 ∷ []) ∷ vertex 97 (Actuator 0) (source 0 ∷ []) [] ∷ vertex 98 (Actuator 1) (source 0 ∷ []) [] ∷ []

abbrev busiest_on : Line → ℕ → ℕ → Bytes
busiest_on line whole thousandths = line_text (busiest_line lines (record { line = line; share = times whole thousandths }))

busiest : (busiest_on (Operator 1) 0 750 ≡ codes "busiest operator Q share 0.750\n") × (busiest_on (Medium 0) 1 0 ≡ codes "busiest medium m share 1.000\n")
unfolding digits
busiest = (refl, refl)

abbrev latency : ℕ → ℕ → ℕ → Latency
latency sensor actuator ticks = record { sensor = sensor; actuator = actuator; ticks = ticks }

abbrev link : ℕ → ℕ → Link
link op ticks = record { op = op; ticks = ticks }

abbrev numbers : Report
numbers = record {
  length = 8;
  operators = busy_for 3 0 375 ∷ busy_for 6 0 750 ∷ [];
  media = busy_for 4 0 500 ∷ [];
  alone = alone_for 9 1 125 ∷ None ∷ [];
  bound = 5;
  above = times 1 600;
}

abbrev told : Option Pace → Figures
told beside = record {
  numbers = numbers;
  transfers = counted 2 1 0;
  beside = beside;
  period = over 20 3;
  busiest = record { line = Operator 1; share = times 0 900 };
  latencies = latency 0 1 7 ∷ latency 0 2 10 ∷ [];
  chain = link 0 1 ∷ link 2 4 ∷ [];
}

-- all figures in their order, and without what only a search has
whole : report_text vertices lines (told (Some (record { length = 11; period = over 33 3 })))
    ≡ codes "length 8\noperator P busy 3 share 0.375\noperator Q busy 6 share 0.750\nmedium m busy 4 share 0.500\ntransfers 2 constants 1 delays 0\nalone P 9 speed-up 1.125\npressure-run 11 period 11.000\nbest-alone 9\nperiod 6.666 reactions 3\nbusiest operator Q share 0.900\nlatency s a 7\nlatency s b 10\nbound 5 ratio 1.600\nchain s 1\nchain b 4\n"
unfolding digits
whole = refl

unsearched : report_text vertices lines (told None)
    ≡ codes "length 8\noperator P busy 3 share 0.375\noperator Q busy 6 share 0.750\nmedium m busy 4 share 0.500\ntransfers 2 constants 1 delays 0\nalone P 9 speed-up 1.125\nperiod 6.666 reactions 3\nbusiest operator Q share 0.900\nlatency s a 7\nlatency s b 10\nbound 5 ratio 1.600\nchain s 1\nchain b 4\n"
unfolding digits
unsearched = refl
