-- What a pass of flattening keeps.
use Rattle.std.specs.Prelude.{◌≡◌, ℕ, List}
use Rattle.level_meaning.specs.Level.{Path}
use Rattle.algo_tree.specs.Tree.{Vertex}
use Rattle.algo_tree.specs.Meaning.{past, act_row}
use Rattle.syn_base.specs.Vectors.{Values}

-- Over any rows of the sensors, in each reaction the actuators take the same values in the same order, and after any
-- number of reactions the same values are kept at each path, so that each delay has its own cell as before.
pub record KeepsMeaning (before after : Vertex) : Type 0 where
  pub taken : (rows : List Values) (k : ℕ) → act_row after rows k ≡ act_row before rows k
  pub kept : (rows : List Values) (k : ℕ) (q : Path) → past after rows k q ≡ past before rows k q
