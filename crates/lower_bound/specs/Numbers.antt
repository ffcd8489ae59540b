-- The numbers of a schedule.
use Rattle.std.specs.Prelude.{
  ℕ,
  ◌*◌,
  ◌/◌,
  ◌%◌,
  Bool,
  nat_eq,
  if◌then◌else◌,
  List,
  length,
  map,
  Option,
  Some,
  None,
  is_some,
  unwrap_or,
  filter,
  sum_by,
}
use Rattle.std.specs.List.{list_all, range_with_len}
use Rattle.lower_bound.specs.Bound.{lower_bound, all_operations}
use Rattle.lower_bound.specs.declared.ratio.Ratio.{Ratio}
use Rattle.lower_bound.specs.declared.loads.Load.{Load}
use Rattle.lower_bound.specs.declared.alone.Alone.{Alone}
use Rattle.lower_bound.specs.declared.report.Report.{Report}
use Rattle.self_timed.specs.Graph.{Graph}
use Rattle.self_timed.specs.Archi.{Architecture}
use Rattle.self_timed.specs.declared.Schedule.{Schedule}
use Rattle.self_timed.specs.Acts.{Act, acts, is_on, is_over, length_of}
use Rattle.self_timed.specs.Entries.{stated}

-- how often the second number is in the first, and thousandths of it, rounded down; 0 where the second is 0
abbrev pub ratio : ℕ → ℕ → Ratio
ratio n m =
    if nat_eq m 0 then record { whole = 0; thousandths = 0 }
    else record { whole = n / m; thousandths = n % m * 1000 / m }

-- the time of those of these acts that pass
abbrev pub busy : (Act → Bool) → List Act → ℕ
busy test xs = sum_by stated (filter test xs)

-- the time of a line, and its share of the length
abbrev pub load : ℕ → ℕ → Load
load length time = record { busy = time; share = ratio time length }

-- the loads of so many lines: of operators, where the test is of the acts on one, or of media
abbrev pub loads : (ℕ → Act → Bool) → ℕ → Schedule → List Load
loads test lines s = map (λ n. load (length_of s) (busy (test n) (acts s))) (range_with_len 0 lines)

-- how long each operation lasts on each operator, where it may stand
module _ (ticks : ℕ → ℕ → Option ℕ) (operations : ℕ) where
  -- Each operation may stand on operator o, so that all of them could run there one after another.
  abbrev pub may_all_stand : ℕ → Bool
  may_all_stand o = list_all (λ v. is_some (ticks v o)) (all_operations operations)

  -- all operations, one after another, on this operator
  abbrev pub time_alone : ℕ → ℕ
  time_alone o = sum_by (λ v. unwrap_or (ticks v o) 0) (all_operations operations)

  -- that time, and how often a schedule of this length is as fast, where they all may stand there
  abbrev pub alone : ℕ → ℕ → Option Alone
  alone length o =
      if may_all_stand o then Some (record { time = time_alone o; speed_up = ratio (time_alone o) length }) else None

-- the numbers of a schedule on an architecture
abbrev pub report : Graph → Architecture → (ℕ → ℕ → Option ℕ) → Schedule → Report
report g a ticks s = record {
  length = length_of s;
  operators = loads is_on (length a.operators) s;
  media = loads is_over (length a.media) s;
  alone = map (alone ticks (length g.vertices) (length_of s)) (range_with_len 0 (length a.operators));
  bound = lower_bound (length a.operators) ticks g.vertices a.media;
  above = ratio (length_of s) (lower_bound (length a.operators) ticks g.vertices a.media);
}
