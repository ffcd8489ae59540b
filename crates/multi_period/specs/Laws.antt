-- What making periods keeps, and what it makes.
use Rattle.std.specs.Prelude.{◌≡◌, ℕ, suc, ◌+◌, ◌*◌, ◌≤◌, List, ◌∷◌, length, Option, Some, None, codes}
use Rattle.algo_tree.specs.declared.Part.TheVariants.{Named, Numbered}
use Rattle.algo_tree.specs.Level.{State, Path}
use Rattle.algo_tree.specs.Tree.{Label, Vertex, vertex, Vertices, no_vertices, and_vertex}
use Rattle.algo_tree.specs.Meaning.{vertices_in, past, act_row}
use Rattle.algo_tree.specs.Counted.{operations}
use Rattle.algo_tree.specs.Valid.{IsTree}
use Rattle.multi_period.specs.declared.mark.Mark.{Mark}
use Rattle.multi_period.specs.Marks.{mark_at}
use Rattle.multi_period.specs.Meaning.{act_row_at, history}
use Rattle.multi_period.specs.Periods.{periods, period}
use Rattle.syn_base.specs.Vectors.{Values}

-- In each reaction the actuators of another main graph take what the meaning with periods says.
abbrev pub DoesAsMarked : List Mark → Vertex → Vertex → Type 0
DoesAsMarked marks main made = (rows : List Values) (k : ℕ) → act_row made rows k ≡ act_row_at marks main rows k

-- The tree with its marks made has the meaning of the marked tree: over any rows of the sensors its
-- actuators take the same values in every reaction.
abbrev pub PeriodsKeep : List Mark → Vertex → Type 0
PeriodsKeep marks main = DoesAsMarked marks main (periods marks main)

-- A marked reference becomes its own operations, two for each reaction that its count looks back, and three for each
-- output.
abbrev pub PeriodCounts : Mark → Label → Vertices → Type 0
PeriodCounts m l us = operations (period m l us) ≡ operations (vertex l us) + (2 * m.every + 3 * length l.outs)

-- The number of operations that the mark on a reference adds, 0 without a mark: two for each
-- reaction that its count looks back, and three for each output.
abbrev pub added_by : Option Mark → Label → ℕ
added_by None l = 0
added_by (Some m) l = 2 * m.every + 3 * length l.outs

-- How many operations the marks add, without making anything.
abbrev pub added : (ℕ → Option Mark) → Vertices → ℕ
added mark no_vertices = 0
added mark (and_vertex (vertex l vs) us) = added_by (mark 0) l + added (λ r. mark (suc r)) us

-- The number of operations of the tree with its marks made is that of the tree before, plus
-- what the marks add.
abbrev pub PeriodsCount : List Mark → Vertex → Type 0
PeriodsCount marks main = operations (periods marks main) ≡ operations main + added (mark_at marks) (vertices_in main)

-- The made tree is a tree again, where it has few enough operations.
abbrev pub PeriodsAreTrees : List Mark → Vertex → Type 0
PeriodsAreTrees marks main = operations (periods marks main) ≤ 2048 → IsTree (periods marks main)

-- The path at which what stood below a reference stands in the made tree.
abbrev pub moved : Option Mark → Path → Path
moved None q = q
moved (Some m) q = Named (codes "body") ∷ Numbered 0 ∷ Named (codes "run") ∷ q

-- For each of these vertices, what the first state keeps below it the second state keeps at the
-- path to which making the marks has moved it.
abbrev pub ValuesMoved : (ℕ → Option Mark) → State → State → Vertices → Type 0
ValuesMoved mark before after no_vertices = Unit {0}
ValuesMoved mark before after (and_vertex (vertex l vs) us) =
    ((q : Path) → after (l.part ∷ moved (mark 0) q) ≡ before (l.part ∷ q)) ×
    ValuesMoved (λ r. mark (suc r)) before after us

-- What is kept below each reference is kept in the made tree after each reaction.
abbrev pub PeriodsKeepValues : List Mark → Vertex → Type 0
PeriodsKeepValues marks main =
    (rows : List Values) (k : ℕ) →
    ValuesMoved (mark_at marks)
    (history (mark_at marks) main rows k).past
    (past (periods marks main) rows k)
    (vertices_in main)
