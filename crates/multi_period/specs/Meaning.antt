-- The meaning of an algorithm some of whose references run in some reactions only. It looks back over the reactions.
use Rattle.std.specs.Prelude.{
  ℕ,
  zero,
  suc,
  ◌-◌,
  ◌%◌,
  ◌==◌,
  List,
  [],
  ◌∷◌,
  length,
  Option,
  Some,
  None,
  if◌then◌else◌,
  slice_index_or,
}
use Rattle.algo_tree.specs.Level.{State, Node, out, level_value, graph_next}
use Rattle.algo_tree.specs.Tree.{Vertex}
use Rattle.algo_tree.specs.Meaning.{behaviour, vertices_in, inside, actuator_values}
use Rattle.multi_period.specs.declared.mark.Mark.{Mark}
use Rattle.multi_period.specs.Marks.{mark_at}
use Rattle.syn_base.specs.Vectors.{Values}

-- What was kept before a reaction, and what each reference gave in each reaction before it.
pub record History : Type 0 where
  pub past : State
  pub gave : ℕ → ℕ → Values

-- A node that gives these values, and whose delays stand still.
abbrev pub held : Values → Node → Node
held vs c = record {
  part = c.part;
  ins = c.ins;
  asked = c.asked;
  guards = c.guards;
  outs = c.outs;
  does = record { outputs = λ row st ins. vs; next = λ row st ins. st; initial = c.does.initial };
}

-- A node that gives these values and whose delays stand still, or the node unchanged if no
-- values are given.
abbrev pub held_by : Option Values → Node → Node
held_by None c = c
held_by (Some vs) c = held vs c

-- A level, some of whose nodes give earlier values.
abbrev pub holding : (ℕ → Option Values) → List Node → List Node
holding hold [] = []
holding hold (c ∷ cs) = held_by (hold 0) c ∷ holding (λ r. hold (suc r)) cs

-- In a reaction that its number does not divide, a marked reference gives what it gave in the last one that it divides.
abbrev pub held_in : Option Mark → ℕ → (ℕ → Values) → Option Values
held_in None k gave = None
held_in (Some m) k gave = if (k % m.every) == 0 then None else Some (gave (k - (k % m.every)))

-- The main graph in reaction k.
abbrev pub level_in : (ℕ → Option Mark) → List Node → ℕ → (ℕ → ℕ → Values) → List Node
level_in mark cs k gave = holding (λ r. held_in (mark r) k (λ j. gave j r)) cs

-- The history before reaction k + 1, given that before reaction k, if this level runs in reaction k
-- over this row of the sensors.
abbrev pub after : List Node → Values → ℕ → History → History
after cs row k h = record {
  past = graph_next cs row h.past [];
  gave = λ j. if j == k then out cs row h.past [] (length cs) else h.gave j;
}

-- What was kept and what was given before reaction k, over these rows of the sensors. Before
-- reaction 0 the initial values are kept and nothing was given.
abbrev pub history : (ℕ → Option Mark) → Vertex → List Values → ℕ → History
history mark main rows zero = record { past = (behaviour main).initial; gave = λ j r. [] }
history mark main rows (suc k) =
    let h = history mark main rows k in after (level_in mark (inside main) k h.gave) (slice_index_or rows k []) k h

-- What the actuators take in reaction k.
abbrev pub act_row_at : List Mark → Vertex → List Values → ℕ → Values
act_row_at marks main rows k =
    let h = history (mark_at marks) main rows k in
    actuator_values
    (level_value (level_in (mark_at marks) (inside main) k h.gave) (slice_index_or rows k []) h.past [])
    (vertices_in main)
