-- What a text of actual durations gives may be dated.
use Rattle.std.specs.Prelude.{◌≡◌, ℕ, IsTrue, List, replicate, Ok}
use Rattle.syn_base.specs.Bytes.{Bytes}
use Rattle.self_timed.specs.Graph.{Graph}
use Rattle.self_timed.specs.Archi.{Architecture}
use Rattle.self_timed.specs.Table.{Table, entry_in}
use Rattle.self_timed.specs.declared.Schedule.{Schedule}
use Rattle.self_timed.specs.Acts.{acts}
use Rattle.self_timed.specs.ScheduleValid.{is_valid}
use Rattle.self_timed.specs.Entries.{AreWithin}
use Rattle.self_timed.specs.Told.{HaveEntries, entries_of}
use Rattle.actual_durations.specs.Actual.{actual_of}

-- Where a schedule is valid for the stated durations, the ticks of every text that is accepted are one for each entry,
-- and none is longer than stated.
abbrev pub ActualAreWithin : Type 0
ActualAreWithin = (g : Graph) (a : Architecture) (t : Table) (s : Schedule) (text : Bytes) (ticks : List ℕ) (n : ℕ)
    → IsTrue (is_valid g a (entry_in t) s) → actual_of g a t s text ≡ Ok ticks
    → HaveEntries (entries_of g s) (replicate n ticks) × AreWithin g.vertices (acts s) (replicate n ticks)
