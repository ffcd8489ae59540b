-- The lengths of values fit, and every source is there.
use Rattle.std.specs.Prelude.{◌≡◌, ℕ, suc, ◌*◌, ◌≤◌, ℤ, List, [], ◌∷◌, map, length, replicate, slice_index_or, sum}
use Rattle.body_lang.specs.Expr.{Expr, PortsBelow}
use Rattle.level_meaning.specs.declared.source.Source.{Source}
use Rattle.level_meaning.specs.declared.source.Source.TheVariants.{Own, Of}
use Rattle.level_meaning.specs.declared.source.Guard.{Guard}
use Rattle.level_meaning.specs.declared.frontier.Feed.{Feed}
use Rattle.level_meaning.specs.declared.frontier.Feed.TheVariants.{Fork, Diffuse, Iterate}
use Rattle.level_meaning.specs.declared.frontier.Give.{Give}
use Rattle.level_meaning.specs.declared.frontier.Give.TheVariants.{Last, Join}
use Rattle.algo_tree.specs.Tree.{
  Kind,
  sensor,
  actuator,
  constant,
  delay,
  function,
  explode,
  implode,
  merge,
  graph,
  switch,
  repeat,
  Label,
  Vertex,
  vertex,
  Vertices,
  no_vertices,
  and_vertex,
}

-- Vectors have 1 to 64 elements.
abbrev pub IsLength : ℕ → Type 0
IsLength n = (1 ≤ n) × (n ≤ 64)

-- Each of these is the length of a vector.
abbrev pub AreLengths : List ℕ → Type 0
AreLengths [] = Unit {0}
AreLengths (n ∷ ns) = IsLength n × AreLengths ns

-- What is said of a vertex beside what is inside it.
abbrev pub label_of : Vertex → Label
label_of (vertex l us) = l

-- The lengths of the outputs of each vertex.
abbrev pub outs_of : Vertices → List (List ℕ)
outs_of no_vertices = []
outs_of (and_vertex u us) = (label_of u).outs ∷ outs_of us

-- The length of the value of a source, from those of the level's own inputs and of its vertices' outputs: 0 for one
-- that is not there.
abbrev pub source_length : List ℕ → List (List ℕ) → Source → ℕ
source_length own outs (Own k) = slice_index_or own k 0
source_length own outs (Of r p) = slice_index_or (slice_index_or outs r []) p 0

-- A guard's source has one element, and its case is there.
abbrev pub AreGuardsTyped : (Source → ℕ) → List Guard → Type 0
AreGuardsTyped len [] = Unit {0}
AreGuardsTyped len (g ∷ gs) = ((len g.source ≡ 1) × (g.case ≤ length g.values)) × AreGuardsTyped len gs

-- Each expression names ports below n alone.
abbrev pub AllPortsBelow : ℕ → List Expr → Type 0
AllPortsBelow n [] = Unit {0}
AllPortsBelow n (e ∷ es) = PortsBelow n e × AllPortsBelow n es

-- Each case gives what the switch gives.
abbrev pub AllGive : List ℕ → List (List ℕ) → Type 0
AllGive outs [] = Unit {0}
AllGive outs (o ∷ os) = (o ≡ outs) × AllGive outs os

-- An outer input that is forked has a part for each copy; one that is iterated has the length of the body's output.
abbrev pub IsFed : ℕ → List ℕ → List ℕ → Feed → Type 0
IsFed n lens outs (Fork name k len) = slice_index_or lens k 0 ≡ n * len
IsFed n lens outs (Diffuse k) = Unit {0}
IsFed n lens outs (Iterate k y) = slice_index_or lens k 0 ≡ slice_index_or outs y 0

-- Each line of an input fits.
abbrev pub AllFed : ℕ → List ℕ → List ℕ → List Feed → Type 0
AllFed n lens outs [] = Unit {0}
AllFed n lens outs (f ∷ fs) = IsFed n lens outs f × AllFed n lens outs fs

-- The length of an input of the body.
abbrev pub fed_length : List ℕ → Feed → ℕ
fed_length lens (Fork name k len) = len
fed_length lens (Diffuse k) = slice_index_or lens k 0
fed_length lens (Iterate k y) = slice_index_or lens k 0

-- The length of an output of a repetition.
abbrev pub given_length : ℕ → List ℕ → Give → ℕ
given_length n outs (Last y) = slice_index_or outs y 0
given_length n outs (Join name y) = n * slice_index_or outs y 0

-- Each group of initial values has the length of the one output.
abbrev pub AreGroups : List ℕ → List (List ℤ) → Type 0
AreGroups outs [] = Unit {0}
AreGroups outs (v ∷ vs) = (outs ≡ length v ∷ []) × AreGroups outs vs

-- All of these lengths are the same.
abbrev pub AreEqual : List ℕ → Type 0
AreEqual ns = ns ≡ replicate (length ns) (slice_index_or ns 0 0)

-- What a kind asks of the lengths of its inputs, of its outputs and of those of the vertices inside;
-- of a level with such own inputs and outputs, and of a body with such inputs.
abbrev pub IsKindTyped : Kind → List ℕ → List ℕ → List (List ℕ) →
    (List ℕ → List (List ℕ) → Type 0) → (List ℕ → Type 0) → Type 0
IsKindTyped (sensor n) lens outs inner level body = (lens ≡ []) × (length outs ≡ 1)
IsKindTyped (actuator n) lens outs inner level body = (length lens ≡ 1) × (outs ≡ [])
IsKindTyped (constant v) lens outs inner level body = (lens ≡ []) × (outs ≡ length v ∷ [])
IsKindTyped (delay vs) lens outs inner level body = (lens ≡ outs) × ((1 ≤ length vs) × AreGroups outs vs)
IsKindTyped (function es) lens outs inner level body = (length es ≡ length outs) × AllPortsBelow (length lens) es
IsKindTyped explode lens outs inner level body = (lens ≡ sum outs ∷ []) × AreEqual outs
IsKindTyped implode lens outs inner level body = (outs ≡ sum lens ∷ []) × AreEqual lens
IsKindTyped (merge values) lens outs inner level body =
    (length outs ≡ 1) × (lens ≡ 1 ∷ replicate (suc (length values)) (slice_index_or outs 0 0))
IsKindTyped (graph sources) lens outs inner level body =
    level lens inner × (outs ≡ map (source_length lens inner) sources)
IsKindTyped (switch values names) lens outs inner level body =
    ((slice_index_or lens 0 0 ≡ 1) × level lens []) × (AllGive outs inner × (length names ≡ length outs))
IsKindTyped (repeat n feeds gives) lens outs inner level body =
    (AllFed n lens (slice_index_or inner 0 []) feeds × body (map (fed_length lens) feeds)) ×
    (outs ≡ map (given_length n (slice_index_or inner 0 [])) gives)

abbrev mutual
  -- A vertex with inputs of these lengths.
  pub IsTyped : List ℕ → Vertex → Type 0
  IsTyped lens (vertex l us) =
      (AreLengths lens × AreLengths l.outs) ×
      IsKindTyped l.kind lens l.outs (outs_of us) (λ own outs. AllTyped own outs us) (λ fed. IsBodyTyped fed us)

  -- The vertices of a level, with own inputs and outputs of these lengths.
  pub AllTyped : List ℕ → List (List ℕ) → Vertices → Type 0
  AllTyped own outs no_vertices = Unit {0}
  AllTyped own outs (and_vertex u us) =
      (AreGuardsTyped (source_length own outs) (label_of u).guards ×
      IsTyped (map (source_length own outs) (label_of u).ins) u) ×
      AllTyped own outs us

  -- A body with inputs of these lengths.
  pub IsBodyTyped : List ℕ → Vertices → Type 0
  IsBodyTyped fed no_vertices = ⊥
  IsBodyTyped fed (and_vertex u us) = IsTyped fed u
