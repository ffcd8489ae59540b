-- The registers of a sequence: those that are in use, and how many there is room for.
use Rattle.std.specs.Prelude.{ℕ, List, ℤ}

-- A sequence has these values in its registers, from register 0 on, and room for this many.
pub record RegisterFile : Type 0 where
  pub values : List ℤ
  pub room : ℕ
