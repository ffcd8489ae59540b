-- Which references of the main graph run in some reactions only.
use Rattle.std.specs.Prelude.{
  ◌≡◌,
  ℕ,
  suc,
  ◌<◌,
  ◌≤◌,
  ◌==◌,
  false,
  List,
  [],
  ◌∷◌,
  length,
  Option,
  Some,
  None,
  if◌then◌else◌,
}
use Rattle.algo_tree.specs.Tree.{
  Kind,
  function,
  graph,
  switch,
  repeat,
  Label,
  Vertex,
  Vertices,
  no_vertices,
  and_vertex,
  vertex,
}
use Rattle.algo_tree.specs.Code.{count_of}
use Rattle.algo_tree.specs.Meaning.{vertices_in}
use Rattle.algo_tree.specs.Named.{AreNames}
use Rattle.algo_tree.specs.Well.{AreDistinctNames}
use Rattle.multi_period.specs.declared.mark.Mark.{Mark}

-- The mark on a reference.
abbrev pub mark_at : List Mark → ℕ → Option Mark
mark_at [] r = None
mark_at (m ∷ ms) r = if m.reference == r then Some m else mark_at ms r

-- A sensor, actuator, constant or delay has no mark.
abbrev pub IsMarkable : Kind → Type 0
IsMarkable (function es) = Unit {0}
IsMarkable (graph outs) = Unit {0}
IsMarkable (switch values names) = Unit {0}
IsMarkable (repeat n feeds gives) = Unit {0}
IsMarkable _ = ⊥

-- A reference of such a kind may run in every nth reaction. Each of its outputs has a name of its own, a word, after
-- which the delay that keeps its last value is named.
pub record IsMark (mark : Mark) (label : Label) : Type 0 where
  pub some : 1 ≤ mark.every
  pub few : mark.every ≤ 16
  pub kind : IsMarkable label.kind
  pub guards : label.guards ≡ []
  pub named : length label.names ≡ length label.outs
  pub distinct : AreDistinctNames label.names
  pub words : AreNames label.names

-- If there is a mark, a reference with this label may have it.
abbrev pub MayHave : Option Mark → Label → Type 0
MayHave None l = Unit {0}
MayHave (Some m) l = IsMark m l

-- Each reference may have the mark that is on it.
abbrev pub AreMarked : (ℕ → Option Mark) → Vertices → Type 0
AreMarked mark no_vertices = Unit {0}
AreMarked mark (and_vertex (vertex l vs) us) = MayHave (mark 0) l × AreMarked (λ r. mark (suc r)) us

-- No other of these marks is on this reference.
abbrev pub IsOnce : ℕ → List Mark → Type 0
IsOnce r [] = Unit {0}
IsOnce r (m ∷ ms) = ((m.reference == r) ≡ false) × IsOnce r ms

-- Each mark is on a reference below n that no other is on.
abbrev pub AreOnce : ℕ → List Mark → Type 0
AreOnce n [] = Unit {0}
AreOnce n (m ∷ ms) = ((m.reference < n) × IsOnce m.reference ms) × AreOnce n ms

-- The marks are on references of the main graph that may have them, each on one of its own.
pub record MayHaveMarks (marks : List Mark) (main : Vertex) : Type 0 where
  pub stand : AreMarked (mark_at marks) (vertices_in main)
  pub once : AreOnce (count_of (vertices_in main)) marks
