-- No node of a level asks for itself: each is settled in as many rounds as there are nodes.
use Rattle.std.specs.Prelude.{
  ◌≡◌,
  ℕ,
  zero,
  suc,
  ◌<◌,
  List,
  [],
  ◌∷◌,
  length,
  Bool,
  true,
  false,
  ◌&&◌,
  IsTrue,
  Some,
  slice_get,
}
use Rattle.level_meaning.specs.declared.source.Source.{Source}
use Rattle.level_meaning.specs.declared.source.Source.TheVariants.{Own, Of}
use Rattle.level_meaning.specs.declared.source.Guard.{Guard}
use Rattle.level_meaning.specs.Level.{Node, State, with_node, node_outputs, below, source_value, out}
use Rattle.syn_base.specs.Vectors.{Values}

-- The node of which a source is an output is done.
abbrev pub source_ready : (ℕ → Bool) → Source → Bool
source_ready done (Own k) = true
source_ready done (Of r p) = done r

-- The node of each of these sources is done.
abbrev pub sources_ready : (ℕ → Bool) → List Source → Bool
sources_ready done [] = true
sources_ready done (s ∷ ss) = source_ready done s && sources_ready done ss

-- The node of each guard's source is done.
abbrev pub guards_ready : (ℕ → Bool) → List Guard → Bool
guards_ready done [] = true
guards_ready done (g ∷ gs) = source_ready done g.source && guards_ready done gs

-- All that a node's outputs ask for is done.
abbrev pub is_ready : (ℕ → Bool) → Node → Bool
is_ready done c = guards_ready done c.guards && sources_ready done c.asked

-- Node r is done after this many rounds, in each of which a node is done if all that it asks for was done before.
abbrev pub settled : List Node → ℕ → ℕ → Bool
settled cs zero r = false
settled cs (suc k) r = with_node (slice_get cs r) false (is_ready (settled cs k))

-- No cycle: as many rounds as the level has nodes settle each of them.
abbrev pub IsAcyclic : List Node → Type 0
IsAcyclic cs = (r : ℕ) → r < length cs → IsTrue (settled cs (length cs) r)

-- From the number of the level's nodes on, more fuel changes no value.
abbrev pub FuelIsEnough : List Node → Type 0
FuelIsEnough cs =
    (row : Values) (st : State) (ins : Values) (r more : ℕ) → r < length cs → length cs < more →
    out cs row st ins more r ≡ out cs row st ins (length cs) r

-- The node of a source stands before node r.
abbrev pub IsBefore : ℕ → Source → Type 0
IsBefore r (Own k) = Unit {0}
IsBefore r (Of q p) = q < r

-- The node of each of these sources stands before node r.
abbrev pub AreBefore : ℕ → List Source → Type 0
AreBefore r [] = Unit {0}
AreBefore r (s ∷ ss) = IsBefore r s × AreBefore r ss

-- The node of each guard's source stands before node r.
abbrev pub GuardsBefore : ℕ → List Guard → Type 0
GuardsBefore r [] = Unit {0}
GuardsBefore r (g ∷ gs) = IsBefore r g.source × GuardsBefore r gs

-- All that each node asks for stands before it.
abbrev pub IsInOrder : List Node → Type 0
IsInOrder cs = (r : ℕ) (c : Node) → slice_get cs r ≡ Some c → GuardsBefore r c.guards × AreBefore r c.asked

-- A table that gives for each node what the node gives, where the table tells the values at its sources.
abbrev pub MeetsLevel : List Node → Values → State → Values → (ℕ → Values) → Type 0
MeetsLevel cs row st ins expected =
    (r : ℕ) →
    with_node (slice_get cs r) [] (λ c. node_outputs row (below c.part st) (source_value ins expected) c) ≡
    expected r
