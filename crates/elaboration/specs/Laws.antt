-- What the tree of an accepted text is.
use Rattle.std.specs.Prelude.{◌≡◌, List, Ok}
use Rattle.syn_base.specs.Bytes.{Bytes}
use Rattle.multi_period.specs.declared.mark.Mark.{Mark}
use Rattle.multi_period.specs.Laws.{DoesAsMarked}
use Rattle.multi_period.specs.Marks.{MayHaveMarks}
use Rattle.multi_period.specs.Periods.{periods}
use Rattle.algo_laws.specs.Tree.{Vertex}
use Rattle.algo_laws.specs.Valid.{IsTree}
use Rattle.algo_laws.specs.declared.Def.{Def}
use Rattle.algo_laws.specs.declared.Defs.{Defs}
use Rattle.algo_laws.specs.Text.{definitions_of}
use Rattle.algo_laws.specs.Resolved.{resolution_of}
use Rattle.elaboration.specs.Marking.{marking_of}
use Rattle.wiring_laws.specs.Pruned.{pruned}
use Rattle.elaboration.specs.Elaborated.{elaboration_of}

-- The tree that the definitions resolve to, and their marks: the made tree is made of the pruned one, it is a tree,
-- and its actuators take what the meaning says of the whole one, which looks back over the reactions.
pub record IsElaborated (ds : List Def) (made : Vertex) : Type 0 where
  pub resolved : Vertex
  pub marks : List Mark
  pub resolves : resolution_of ds ≡ Ok resolved
  pub marked : marking_of ds ≡ Ok marks
  pub may : MayHaveMarks marks resolved
  pub made_is : made ≡ periods marks (pruned resolved)
  pub meaning : DoesAsMarked marks resolved made
  pub tree : IsTree made

-- What is made of every accepted text is the tree to which its definitions resolve, pruned and with its marks made; it
-- is a tree, and does what the meaning with marks says.
abbrev pub AcceptedAreElaborated : Type 0
AcceptedAreElaborated =
    (text : Bytes) (defs : Defs) (made : Vertex) → definitions_of text ≡ Ok defs → elaboration_of defs ≡ Ok made →
    IsElaborated defs.defs made
