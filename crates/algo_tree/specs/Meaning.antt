-- The synchronous meaning of an algorithm.
use Rattle.std.specs.Prelude.{ℕ, zero, suc, List, [], ◌∷◌, ◌++◌, length, slice_index_or}
use Rattle.body_lang.specs.Expr.{function_outputs}
use Rattle.level_meaning.specs.declared.source.Source.{Source}
use Rattle.level_meaning.specs.Level.{
  State,
  Behaviour,
  Node,
  level_value,
  graph_outputs,
  graph_next,
  graph_initial,
  switch_outputs,
  switch_next,
  repeat_outputs,
  repeat_next,
  repeat_initial,
  body_of,
  all_joined,
  merged,
  delay_output,
  delay_next,
  delay_initial,
}
use Rattle.algo_tree.specs.Tree.{
  Label,
  Kind,
  sensor,
  actuator,
  constant,
  delay,
  function,
  explode,
  implode,
  merge,
  graph,
  switch,
  repeat,
  Vertex,
  vertex,
  Vertices,
  no_vertices,
  and_vertex,
}
use Rattle.syn_base.specs.Vectors.{Vector, Values, vector_at}
use Rattle.syn_base.specs.Rows.{cut}

-- The outputs of a vertex of this kind, with these nodes inside.
abbrev pub kind_outputs : Kind → List ℕ → List Node → Values → State → Values → Values
kind_outputs (sensor n) outs cs row st ins = vector_at row n ∷ []
kind_outputs (actuator n) outs cs row st ins = []
kind_outputs (constant v) outs cs row st ins = v ∷ []
kind_outputs (delay vs) outs cs row st ins = delay_output st ∷ []
kind_outputs (function es) outs cs row st ins = function_outputs outs es ins
kind_outputs explode outs cs row st ins = cut outs (vector_at ins 0)
kind_outputs implode outs cs row st ins = all_joined ins ∷ []
kind_outputs (merge values) outs cs row st ins = merged values ins ∷ []
kind_outputs (graph sources) outs cs row st ins = graph_outputs sources cs row st ins
kind_outputs (switch values names) outs cs row st ins = switch_outputs values (length names) cs row st ins
kind_outputs (repeat n feeds gives) outs cs row st ins = repeat_outputs n feeds gives (body_of cs) row st ins

-- What is kept below it for the next reaction.
abbrev pub kind_next : Kind → List Node → Values → State → Values → State
kind_next (sensor n) cs row st ins = st
kind_next (actuator n) cs row st ins = st
kind_next (constant v) cs row st ins = st
kind_next (delay vs) cs row st ins = delay_next st ins
kind_next (function es) cs row st ins = st
kind_next explode cs row st ins = st
kind_next implode cs row st ins = st
kind_next (merge values) cs row st ins = st
kind_next (graph sources) cs row st ins = graph_next cs row st ins
kind_next (switch values names) cs row st ins = switch_next values cs row st ins
kind_next (repeat n feeds gives) cs row st ins = repeat_next n feeds (body_of cs) row st ins

-- What is kept below it at the start.
abbrev pub kind_initial : Kind → List Node → State
kind_initial (sensor n) cs = λ _. []
kind_initial (actuator n) cs = λ _. []
kind_initial (constant v) cs = λ _. []
kind_initial (delay vs) cs = delay_initial vs
kind_initial (function es) cs = λ _. []
kind_initial explode cs = λ _. []
kind_initial implode cs = λ _. []
kind_initial (merge values) cs = λ _. []
kind_initial (graph sources) cs = graph_initial cs
kind_initial (switch values names) cs = graph_initial cs
kind_initial (repeat n feeds gives) cs = repeat_initial n (body_of cs)

-- The sources that a vertex's outputs ask for: a delay's ask for none.
abbrev pub asked_by : Kind → List Source → List Source
asked_by (delay vs) ss = []
asked_by _ ss = ss

-- What a vertex does, from what is said of it and the nodes inside.
abbrev pub behaviour_of : Label → List Node → Behaviour
behaviour_of l cs =
    record { outputs = kind_outputs l.kind l.outs cs; next = kind_next l.kind cs; initial = kind_initial l.kind cs }

-- A vertex as a node of its level.
abbrev pub node_of : Label → List Node → Node
node_of l cs = record {
  part = l.part;
  ins = l.ins;
  asked = asked_by l.kind l.ins;
  guards = l.guards;
  outs = l.outs;
  does = behaviour_of l cs;
}

abbrev mutual
  -- What a vertex does.
  pub behaviour : Vertex → Behaviour
  behaviour (vertex l us) = behaviour_of l (nodes us)

  -- A vertex, with all that is inside it, as a node of its level.
  pub node : Vertex → Node
  node (vertex l us) = node_of l (nodes us)

  -- The level that several vertices make.
  pub nodes : Vertices → List Node
  nodes no_vertices = []
  nodes (and_vertex u us) = node u ∷ nodes us

-- The vertices inside a vertex.
abbrev pub vertices_in : Vertex → Vertices
vertices_in (vertex l us) = us

-- The level inside a vertex.
abbrev pub inside : Vertex → List Node
inside u = nodes (vertices_in u)

-- The kept values after k reactions over these rows of the sensors.
abbrev pub past : Vertex → List Values → ℕ → State
past main rows zero = (behaviour main).initial
past main rows (suc k) = (behaviour main).next (slice_index_or rows k []) (past main rows k) []

-- The value of the first of these sources, empty where there is none.
abbrev pub input_value : (Source → Vector) → List Source → Vector
input_value look [] = []
input_value look (s ∷ ss) = look s

-- An actuator takes the value at its input; any other kind takes none.
abbrev pub actuator_value : (Source → Vector) → Label → Kind → Values
actuator_value look l (actuator n) = input_value look l.ins ∷ []
actuator_value look l _ = []

-- The values at the inputs of the actuators, in order.
abbrev pub actuator_values : (Source → Vector) → Vertices → Values
actuator_values look no_vertices = []
actuator_values look (and_vertex (vertex l vs) us) = actuator_value look l l.kind ++ actuator_values look us

-- What the actuators take in reaction k.
abbrev pub act_row : Vertex → List Values → ℕ → Values
act_row main rows k =
    actuator_values (level_value (inside main) (slice_index_or rows k []) (past main rows k) []) (vertices_in main)
