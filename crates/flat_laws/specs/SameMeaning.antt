-- A flat list of the same meaning as a tree.
use Rattle.std.specs.Prelude.{◌≡◌, ℕ, List}
use Rattle.algo_tree.specs.Level.{Path}
use Rattle.algo_tree.specs.Order.{IsAcyclic}
use Rattle.algo_tree.specs.Tree.{Vertex}
use Rattle.algo_tree.specs.Meaning.{past, act_row}
use Rattle.flat_laws.specs.Flat.{Operation, Stages, flat_level, flat_past, flat_act_row}
use Rattle.syn_base.specs.Vectors.{Values, vector_at}

-- No operation asks for itself. Over any rows of the sensors: in each reaction the actuators take the same values in
-- the same order, and after any number of reactions the cells of the stages of each delay are what is kept at its
-- path, in order.
pub record KeepsFlat (main : Vertex) (ops : List Operation) : Type 0 where
  pub acyclic : (cells : Stages) → IsAcyclic (flat_level cells ops)
  pub taken : (rows : List Values) (k : ℕ) → flat_act_row ops rows k ≡ act_row main rows k
  pub kept : (rows : List Values) (k : ℕ) (q : Path) (i : ℕ) →
      flat_past ops rows k q i ≡ vector_at (past main rows k q) i
