-- The flat list of operations, and what it means: the meaning of one level, whose nodes are the operations. A delay
-- is a chain of stages, one for each active reaction that it looks back; each stage has its cell, by the path of the
-- delay and its number in it.
use Rattle.std.specs.Prelude.{
  ℕ,
  zero,
  suc,
  List,
  [],
  ◌∷◌,
  ◌++◌,
  map,
  Bool,
  true,
  false,
  ◌&&◌,
  ◌==◌,
  if◌then◌else◌,
  slice_index_or,
}
use Rattle.algo_tree.specs.declared.Source.{Source}
use Rattle.algo_tree.specs.declared.Guard.{Guard}
use Rattle.algo_tree.specs.declared.Part.TheVariants.{Numbered}
use Rattle.algo_tree.specs.Level.{Path, State, Node, same_part, all_hold, level_value}
use Rattle.algo_tree.specs.Tree.{Kind, actuator}
use Rattle.algo_tree.specs.Meaning.{kind_outputs, input_value}
use Rattle.flat_graph.specs.Meaning.{no_state}
use Rattle.syn_base.specs.Vectors.{Vector, Values, vector_at}

-- What an operation does: what a vertex of this kind does, or it gives the value of a stage of a delay, or takes its
-- next one.
pub data Task : Type 0 where
  runs : Kind → Task
  gets : Vector → Task
  sets : Task

-- An operation: the path and the definition of its vertex, the number of its stage where that is a delay (0 for any
-- other), its inputs, its guards (outer first) and the lengths of its outputs. Each source is an output of an
-- operation, whose number is its place in the list. One that leads nowhere is `Own 0`.
pub record Operation : Type 0 where
  pub path : Path
  pub stage : ℕ
  pub definition : List ℕ
  pub ins : List Source
  pub guards : List Guard
  pub outs : List ℕ
  pub task : Task

-- The cells of the stages of delays, by path and number.
abbrev pub Stages : Type 0
Stages = Path → ℕ → Vector

-- What is kept at each path, stage by stage.
abbrev pub stages_of : State → Stages
stages_of st q i = vector_at (st q) i

-- The outputs of an active operation, by what its stage keeps.
abbrev pub task_outputs : Task → List ℕ → Vector → Values → Values → Values
task_outputs (runs k) outs kept row ins = kind_outputs k outs [] row no_state ins
task_outputs (gets v) outs kept row ins = kept ∷ []
task_outputs sets outs kept row ins = []

-- An operation as a node of a level, with these cells.
abbrev pub node_of : Stages → Operation → Node
node_of cells op = record {
  part = Numbered 0;
  ins = op.ins;
  asked = op.ins;
  guards = op.guards;
  outs = op.outs;
  does = record {
    outputs = λ row st ins. task_outputs op.task op.outs (cells op.path op.stage) row ins;
    next = λ row st ins. st;
    initial = no_state;
  };
}

-- The operations, in order, as the nodes of one level, with these cells.
abbrev pub flat_level : Stages → List Operation → List Node
flat_level cells ops = map (node_of cells) ops

-- The value of a source in a reaction with this row of the sensors.
abbrev pub flat_value : List Operation → Values → Stages → Source → Vector
flat_value ops row cells = level_value (flat_level cells ops) row no_state []

-- The paths are the same, part by part.
abbrev pub same_path : Path → Path → Bool
same_path [] [] = true
same_path [] (p ∷ q) = false
same_path (p ∷ q) [] = false
same_path (p ∷ q) (x ∷ y) = same_part p x && same_path q y

-- The cell of an operation is that of stage i of the delay at this path.
abbrev pub is_cell : Operation → Path → ℕ → Bool
is_cell op q i = same_path op.path q && (op.stage == i)

-- For each stage the value of the first operation of this sort there, or else what stands there in `other`.
abbrev pub pick : (Task → Bool) → (Operation → Vector) → Stages → List Operation → Stages
pick test value other [] q i = other q i
pick test value other (op ∷ ops) q i =
    if test op.task && is_cell op q i then value op else pick test value other ops q i

-- The task is that of a set half.
abbrev pub is_set : Task → Bool
is_set (runs k) = false
is_set (gets v) = false
is_set sets = true

-- What a set half leaves in its cell: the same where a guard does not hold.
abbrev pub set_value : (Source → Vector) → Stages → Operation → Vector
set_value look cells op = if all_hold look op.guards then vector_at (map look op.ins) 0 else cells op.path op.stage

-- The cells after a reaction with these values.
abbrev pub next_cells : (Source → Vector) → Stages → List Operation → Stages
next_cells look cells ops = pick is_set (set_value look cells) cells ops

-- The task is that of a get half.
abbrev pub is_get : Task → Bool
is_get (runs k) = false
is_get (gets v) = true
is_get sets = false

-- The value with which the stage of a get half begins; empty for any other task.
abbrev pub initial_value : Task → Vector
initial_value (gets v) = v
initial_value (runs k) = []
initial_value sets = []

-- The initial values of the stages.
abbrev pub first_cells : List Operation → Stages
first_cells ops = pick is_get (λ op. initial_value op.task) (stages_of no_state) ops

-- The cells after k reactions over these rows of the sensors.
abbrev pub flat_past : List Operation → List Values → ℕ → Stages
flat_past ops rows zero = first_cells ops
flat_past ops rows (suc k) =
    next_cells (flat_value ops (slice_index_or rows k []) (flat_past ops rows k)) (flat_past ops rows k) ops

-- What an actuator takes.
abbrev pub taken : (Source → Vector) → Operation → Task → Values
taken look op (runs (actuator n)) = input_value look op.ins ∷ []
taken look op _ = []

-- What the actuators among these operations take, in order.
abbrev pub flat_taken : (Source → Vector) → List Operation → Values
flat_taken look [] = []
flat_taken look (op ∷ ops) = taken look op op.task ++ flat_taken look ops

-- What the actuators take in reaction k, in order.
abbrev pub flat_act_row : List Operation → List Values → ℕ → Values
flat_act_row ops rows k = flat_taken (flat_value ops (slice_index_or rows k []) (flat_past ops rows k)) ops
