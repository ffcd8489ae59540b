-- The check of a schedule's lines: the operations of each operator, and the transfers of each medium. What is kept
-- of the acts so far stands in tables by number.
use Rattle.std.specs.Prelude.{
  ◌≡◌,
  ℕ,
  ◌≤◌,
  Bool,
  true,
  false,
  ◌&&◌,
  nat_le,
  nat_lt,
  List,
  [],
  ◌∷◌,
  length,
  Option,
  Some,
  None,
  is_none,
  is_some,
  slice_get,
  slice_index_or,
  slice_set,
}
use Rattle.std.specs.List.{list_all, range_with_len}
use Rattle.syn_base.specs.Limits.{bound_of, most_operations}
use Rattle.syn_base.specs.declared.limits.LimitKind.TheVariants.{Media, Operators}
use Rattle.durations.specs.declared.Kind.{Kind}
use Rattle.durations.specs.declared.Kind.TheVariants.{Set}
use Rattle.durations.specs.Graph.{with_vertex, len_of}
use Rattle.durations.specs.FlatValid.{is_number}
use Rattle.durations.specs.Table.{entry_in}
use Rattle.schedule.specs.declared.decision.Transfer.{Transfer}
use Rattle.schedule.specs.declared.decision.Decision.{Decision}
use Rattle.schedule.specs.declared.setting.Setting.{Setting}
use Rattle.schedule.specs.declared.line.Lines.{Lines}
use Rattle.schedule.specs.Acts.{Act, carry, run}
use Rattle.schedule.specs.Valid.{is_carried, lasts}

-- there are few operations, operators and media
pub record IsSetting (setting : Setting) : Type 0 where
  pub operations : length setting.vertices.now ≤ most_operations
  pub operators : setting.operators ≤ bound_of Operators
  pub media : length setting.media.now ≤ bound_of Media

-- the tables have their sizes
pub record HasPlaces (lines : Lines) : Type 0 where
  pub places : length lines.places ≡ most_operations
  pub busy : length lines.busy ≡ bound_of Operators
  pub ends : length lines.ends ≡ bound_of Media

-- nothing was done so far
pub record IsStart (lines : Lines) : Type 0 where
  pub sizes : HasPlaces lines
  pub places : (v : ℕ) → slice_index_or lines.places v None ≡ None
  pub busy : (o : ℕ) → slice_index_or lines.busy o 0 ≡ 0
  pub ends : (m : ℕ) → slice_index_or lines.ends m 0 ≡ 0

-- the get half runs on this operator, where the operation is the set half
abbrev pub follows : Lines → ℕ → Kind → Option ℕ → Bool
follows l o Set (Some u) = is_number (slice_index_or l.places u None) o
follows l o _ _ = true

module _ (s : Setting) where
  -- The medium joins both operators, and carries the value, which is there, in this time and when it is free.
  abbrev pub may_carry : Lines → Transfer → Bool
  may_carry l t =
      nat_le 1 (len_of s.vertices.now t.source) &&
      is_carried (slice_get s.media.now t.medium) (len_of s.vertices.now t.source) t &&
      nat_le (slice_index_or l.ends t.medium 0) t.start

  -- The operation was not placed before, and it runs on this operator for its time and when the operator is free.
  abbrev pub runs_in_time : Lines → Decision → Bool
  runs_in_time l d =
      nat_lt d.operator s.operators && (lasts (entry_in s.durations.now d.op d.operator) d.start d.end &&
      is_none (slice_index_or l.places d.op None) && nat_le (slice_index_or l.busy d.operator 0) d.start)

  abbrev pub may_run : Lines → Decision → Bool
  may_run l d =
      with_vertex (slice_get s.vertices.now d.op) false (λ x. follows l d.operator x.kind x.twin && runs_in_time l d)

  abbrev pub may_follow : Lines → Act → Bool
  may_follow l (carry t) = may_carry l t
  may_follow l (run d) = may_run l d

  abbrev pub lines_after : Lines → Act → Lines
  lines_after l (carry t) = record { places = l.places; busy = l.busy; ends = slice_set l.ends t.medium t.end }
  lines_after l (run d) = record {
    places = slice_set l.places d.op (Some d.operator);
    busy = slice_set l.busy d.operator d.end;
    ends = l.ends;
  }

  -- each operation is placed
  abbrev pub are_all_placed : Lines → Bool
  are_all_placed l = list_all (λ v. is_some (slice_index_or l.places v None)) (range_with_len 0 (length s.vertices.now))

  -- these acts may follow, one after the other, and place what is left
  abbrev pub are_in_line : Lines → List Act → Bool
  are_in_line l [] = are_all_placed l
  are_in_line l (x ∷ xs) = may_follow l x && are_in_line (lines_after l x) xs
