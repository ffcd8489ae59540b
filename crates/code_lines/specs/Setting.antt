-- What the names of a text stand for.
use Rattle.std.specs.Prelude.{ℕ, List}
use Rattle.executive_program.specs.Archi.{Architecture}

-- the names of the operations, and the architecture
pub record Setting : Type 0 where
  pub operations : List (List ℕ)
  pub archi : Architecture
