-- Which operator or medium is busy for longest, and for which share of a period.
use Rattle.std.specs.Prelude.{ℕ, suc, ◌*◌, nat_lt, if◌then◌else◌, List, [], ◌∷◌}
use Rattle.self_timed.specs.declared.period.Period.{Period}
use Rattle.lower_bound.specs.declared.loads.Load.{Load}
use Rattle.lower_bound.specs.declared.report.Report.{Report}
use Rattle.lower_bound.specs.Numbers.{ratio}
use Rattle.lower_bound.specs.declared.busiest.Line.{Line}
use Rattle.lower_bound.specs.declared.busiest.Line.TheVariants.{Operator, Medium}
use Rattle.lower_bound.specs.declared.busiest.Busy.{Busy}
use Rattle.lower_bound.specs.declared.busiest.Busiest.{Busiest}

-- This operator or medium, which is busy for this many ticks of a reaction.
abbrev pub busy_line : Line → ℕ → Busy
busy_line line ticks = record { line = line; ticks = ticks }

-- Of lines that are called so, of which the first has number n: the first that is busy for longest, where it is busy
-- for longer than the one before them.
abbrev pub busier : Busy → (ℕ → Line) → ℕ → List Load → Busy
busier best name n [] = best
busier best name n (l ∷ ls) =
    busier (if nat_lt best.ticks l.busy then busy_line (name n) l.busy else best) name (suc n) ls

-- of operators, and then of media; the first operator, where nothing is busy
abbrev pub longest_busy : List Load → List Load → Busy
longest_busy operators media = busier (busier (busy_line (Operator 0) 0) Operator 0 operators) Medium 0 media

-- the share of a period that it is busy in as many reactions
abbrev pub busiest : Report → Period → Busiest
busiest r p = record {
  line = (longest_busy r.operators r.media).line;
  share = ratio ((longest_busy r.operators r.media).ticks * p.reactions) p.ticks;
}
