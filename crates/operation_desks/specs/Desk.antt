-- The desk of an operation: what it reads and what it gives.
use Rattle.std.specs.Prelude.{
  ◌≡◌,
  ℕ,
  ◌+◌,
  ◌<◌,
  ◌++◌,
  List,
  map,
  take,
  drop,
  length,
  Option,
  None,
  Some,
  Bool,
  true,
  false,
  slice_get,
  slice_index_or,
  ℤ,
}
use Rattle.executive_program.specs.declared.Vertex.{Vertex}
use Rattle.executive_program.specs.Graph.{Graph}
use Rattle.executive_program.specs.Fire.{read_lens, out_lens}
use Rattle.executive_program.specs.Meaning.{is_get, delay_number}
use Rattle.operation_desks.specs.Operation.{vectors_from, delay_of}
use Rattle.syn_base.specs.Vectors.{Values}

-- The desk of an operation has the vectors that it reads and those that it gives, and
-- what is needed to find its guards, its inputs and its cell.
pub record DeskData : Type 0 where
  -- the inputs' vectors, and then those of the guards' sources
  pub read : Values
  pub outs : Values
  -- how many guards and inputs it has, and the number of the delay of which the operation is a half
  pub guards : ℕ
  pub inputs : ℕ
  pub delay : Option ℕ

-- the lengths in the order in which they are loaded: the guards' sources first
abbrev pub load_lens : DeskData → List ℕ
load_lens d = drop d.inputs (map length d.read) ++ take d.inputs (map length d.read)

-- The elements of a row, in the order in which they were loaded, make up these
-- vectors, the guards' sources first; an element that is missing is 0.
abbrev pub loaded_in : DeskData → List ℤ → Values
loaded_in d row = vectors_from row 0 (load_lens d)

-- what of a desk stays the same: the lengths of what it reads and gives, and the numbers
pub record DeskLens : Type 0 where
  pub reads : List ℕ
  pub gives : List ℕ
  pub guards : ℕ
  pub inputs : ℕ
  pub delay : Option ℕ

-- A desk has these lengths and numbers, which no computation changes.
abbrev pub lens_of_desk : DeskData → DeskLens
lens_of_desk d = record {
  reads = map length d.read;
  gives = map length d.outs;
  guards = d.guards;
  inputs = d.inputs;
  delay = d.delay;
}

-- it is the desk of operation v, which is x
pub record IsDesk (g : Graph) (v : ℕ) (x : Vertex) (d : DeskLens) : Type 0 where
  pub reads : d.reads ≡ read_lens g v
  pub gives : d.gives ≡ out_lens g v
  pub guards : d.guards ≡ length x.guards
  pub inputs : d.inputs ≡ length x.ins
  pub delay : d.delay ≡ delay_of g v x

abbrev pub is_get_by : Option Vertex → Bool
is_get_by None = false
is_get_by (Some x) = is_get x.kind

-- operation k is the get half of a delay
abbrev pub is_get_at : List Vertex → ℕ → Bool
is_get_at xs k = is_get_by (slice_get xs k)

-- by operation, and at the end for the place past the last one: how many get halves stand before it
pub record AreDelayNumbers (xs : List Vertex) (numbers : List ℕ) : Type 0 where
  pub many : length numbers ≡ length xs + 1
  pub each : (v : ℕ) → v < length numbers → slice_index_or numbers v 0 ≡ delay_number xs v

-- in the place of operation v, which is x, stands its desk
abbrev pub HasDesk : Graph → ℕ → Vertex → Option DeskLens → Type 0
HasDesk g v x None = ⊥
HasDesk g v x (Some d) = IsDesk g v x d

-- There is a place for each of the first n operations, and in it stands the desk of each
-- that is to be computed, by number. Nothing is said of the places of the others.
pub record AreDesks (g : Graph) (mine : ℕ → Bool) (n : ℕ) (desks : List (Option DeskLens)) : Type 0 where
  pub there : length desks ≡ n
  pub each : (v : ℕ) (x : Vertex) (o : Option DeskLens) → mine v ≡ true → slice_get g.vertices v ≡ Some x →
      slice_get desks v ≡ Some o → HasDesk g v x o
