-- Accepted marks may stand in the tree that the definitions resolve to.
use Rattle.std.specs.Prelude.{◌≡◌, ℕ, ◌≤◌, List, Option, Some, None, Ok, All}
use Rattle.multi_period.specs.declared.mark.Mark.{Mark}
use Rattle.multi_period.specs.Marks.{MayHaveMarks}
use Rattle.elaboration.specs.Marking.{marking_of}
use Rattle.wiring_laws.specs.Pruned.{pruned}
use Rattle.algo_laws.specs.Tree.{Vertex}
use Rattle.algo_laws.specs.declared.Def.{Def}
use Rattle.algo_laws.specs.Resolved.{resolution_of}
use Rattle.algo_laws.specs.WellRead.{AreWellRead}
use Rattle.algo_laws.specs.Periods.{references_of}

-- A mark is a number from 1 to 16.
abbrev pub IsPeriod : Option ℕ → Type 0
IsPeriod None = Unit {0}
IsPeriod (Some n) = (1 ≤ n) × (n ≤ 16)

-- Each mark in these definitions is a number from 1 to 16.
abbrev pub HavePeriods : List Def → Type 0
HavePeriods ds = All (λ d. All (λ r. IsPeriod r.every) (references_of d.body)) ds

-- If well-read definitions resolve to a tree and their marks, numbers from 1 to 16, are accepted, then the marks are on
-- references of that tree that may have them, and so they are in the pruned tree.
abbrev pub AcceptedMarksStand : Type 0
AcceptedMarksStand =
    (ds : List Def) (main : Vertex) (marks : List Mark) →
    AreWellRead ds → HavePeriods ds → resolution_of ds ≡ Ok main → marking_of ds ≡ Ok marks →
    MayHaveMarks marks main × MayHaveMarks marks (pruned main)
