-- The flat meaning with cells by number: the cell of each stage of a delay has the number of its get half, and
-- its set half is the next operation. No path is looked up.
use Rattle.std.specs.Prelude.{
  ◌≡◌,
  ℕ,
  zero,
  suc,
  List,
  [],
  ◌∷◌,
  map,
  if◌then◌else◌,
  slice_index_or,
  slice_get,
  Option,
  Some,
  None,
  true,
}
use Rattle.algo_tree.specs.declared.Source.{Source}
use Rattle.algo_tree.specs.declared.Part.TheVariants.{Numbered}
use Rattle.algo_tree.specs.Level.{Node, all_hold, level_value}
use Rattle.flat_laws.specs.Flat.{Operation, task_outputs, is_get, initial_value, flat_value, flat_past}
use Rattle.flat_graph.specs.Meaning.{no_state}
use Rattle.syn_base.specs.Vectors.{Vector, Values, vector_at}

-- What is kept, by the number of the get half.
abbrev pub Cells : Type 0
Cells = ℕ → Vector

-- An operation as a node of a level, with this cell.
abbrev pub numbered_node : Vector → Operation → Node
numbered_node kept op = record {
  part = Numbered 0;
  ins = op.ins;
  asked = op.ins;
  guards = op.guards;
  outs = op.outs;
  does = record {
    outputs = λ row st ins. task_outputs op.task op.outs kept row ins;
    next = λ row st ins. st;
    initial = no_state;
  };
}

-- Operations that are numbered from v on.
abbrev pub numbered_level : Cells → ℕ → List Operation → List Node
numbered_level cells v [] = []
numbered_level cells v (op ∷ ops) = numbered_node (cells v) op ∷ numbered_level cells (suc v) ops

-- The value of a source in a reaction with this row of the sensors and these cells,
-- which go by number.
abbrev pub numbered_value : List Operation → Values → Cells → Source → Vector
numbered_value ops row cells = level_value (numbered_level cells 0 ops) row no_state []

-- What f gives for the operation, or the value a if there is none.
abbrev pub with_operation : {A : Type 0} → Option Operation → A → (Operation → A) → A
with_operation None a f = a
with_operation (Some op) a f = f op

-- What a set half leaves in this cell.
abbrev pub numbered_set : (Source → Vector) → Vector → Operation → Vector
numbered_set look kept op = if all_hold look op.guards then vector_at (map look op.ins) 0 else kept

-- The cells after a reaction with these values: the cell of get half v holds what set half v + 1
-- leaves in it. Only the cells of get halves say something.
abbrev pub numbered_next : (Source → Vector) → Cells → List Operation → Cells
numbered_next look cells ops v = with_operation (slice_get ops (suc v)) (cells v) (numbered_set look (cells v))

-- The cells before the first reaction: for each get half the initial value of its stage.
abbrev pub numbered_first : List Operation → Cells
numbered_first ops v = with_operation (slice_get ops v) [] (λ op. initial_value op.task)

-- The cells after k reactions over these rows of the sensors.
abbrev pub numbered_past : List Operation → List Values → ℕ → Cells
numbered_past ops rows zero = numbered_first ops
numbered_past ops rows (suc k) =
    numbered_next (numbered_value ops (slice_index_or rows k []) (numbered_past ops rows k))
    (numbered_past ops rows k) ops

-- The cell of each get half is that of its path and stage, and each source has the same value.
pub record SameCells (ops : List Operation) : Type 0 where
  pub cells : (rows : List Values) (k v : ℕ) (op : Operation) →
      slice_get ops v ≡ Some op → is_get op.task ≡ true →
      numbered_past ops rows k v ≡ flat_past ops rows k op.path op.stage
  pub values : (rows : List Values) (k : ℕ) (s : Source) →
      numbered_value ops (slice_index_or rows k []) (numbered_past ops rows k) s ≡
      flat_value ops (slice_index_or rows k []) (flat_past ops rows k) s
