-- What a sink tells, and what writing does to it.
use Rattle.std.specs.Prelude.{◌≡◌, ℕ, ◌≤◌, ◌++◌, Option, option_map, Bool, true, false}
use Rattle.syn_base.specs.Bytes.{Bytes}
use Rattle.outside.specs.Bytes.{IsPrefix}
use Rattle.outside.specs.Faults.{Rose}

-- The bytes written, where the sink tells them, and its faults.
pub record Sunk : Type 0 where
  pub told : Option Bytes
  pub faults : ℕ

-- What is told after a text was appended.
abbrev pub appended : Bytes → Option Bytes → Option Bytes
appended text = option_map (λ before. before ++ text)

-- Exactly this was appended, and the count did not fall.
pub record Appends (old new : Sunk) (text : Bytes) : Type 0 where
  pub told : new.told ≡ appended text old.told
  pub faults : old.faults ≤ new.faults

-- A prefix of the text was appended.
abbrev pub AppendsPrefix : Sunk → Sunk → Bytes → Type 0
AppendsPrefix old new text = (front : Bytes) × IsPrefix front text × Appends old new front

-- All of the text was appended, or a prefix of it and the count of faults rose.
abbrev pub Wrote : Sunk → Sunk → Bytes → Bool → Type 0
Wrote old new text true = Appends old new text
Wrote old new text false = AppendsPrefix old new text × Rose old.faults new.faults
