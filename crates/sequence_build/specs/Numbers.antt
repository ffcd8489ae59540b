-- A table of the numbers of copies. Each operation has at most 64
-- outputs, and there are at most 2,048 operations and 16 operators.
use Rattle.std.specs.Prelude.{
  ◌≡◌,
  ℕ,
  ◌+◌,
  ◌*◌,
  ◌<◌,
  Bool,
  ◌&&◌,
  cond,
  nat_lt,
  nat_le,
  List,
  Some,
  slice_get,
  slice_index_or,
}
use Rattle.sequence_build_laws.specs.Acts.{Copy}

-- among this many operations, the copy has a place of its own
abbrev pub covers : ℕ → Copy → Bool
covers operations c = nat_le operations 2048 &&
    (nat_lt c.source.vertex operations && (nat_lt c.source.port 64 && nat_lt c.operator 16))

-- the copy's place, and one beyond all places where it has none: the
-- first outputs of all operations come before the second ones
abbrev pub place : ℕ → Copy → ℕ
place operations c = cond (covers operations c)
    ((c.source.port * operations + c.source.vertex) * 16 + c.operator) 2097152

-- what the table says of a copy, and this number where it says nothing
abbrev pub number_in : ℕ → List ℕ → ℕ → Copy → ℕ
number_in operations table count c = slice_index_or table (place operations c) count

-- the copy is of an output of one of this many operations
pub record IsCovered (operations : ℕ) (c : Copy) : Type 0 where
  pub vertex : c.source.vertex < operations
  pub port : c.source.port < 64
  pub operator : c.operator < 16

abbrev pub AreCovered : ℕ → List Copy → Type 0
AreCovered operations copies = (k : ℕ) (c : Copy) → slice_get copies k ≡ Some c → IsCovered operations c
