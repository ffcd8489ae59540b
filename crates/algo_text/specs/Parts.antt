-- The order of the parts of a block.
use Rattle.std.specs.Prelude.{ℕ, Bool, true, false, ◌&&◌, nat_lt, nat_le}
use Rattle.algo_text.specs.declared.part.Part.{Part}
use Rattle.algo_text.specs.declared.part.Part.TheVariants.{
  Conditioning,
  Inputs,
  Outputs,
  References,
  Edges,
  Cases,
  Whole,
}

-- How late in its block a part comes: the parts of a block have ascending numbers. Two parts that
-- have the same number never meet in a block: only graphs have references and edges, and only
-- switches have cases and `otherwise`.
abbrev pub rank : Part → ℕ
rank Conditioning = 0
rank Inputs = 1
rank Outputs = 2
rank References = 3
rank Cases = 3
rank Edges = 4
rank Whole = 4

-- A line of the part `next` may follow one of the part `last`, and none but `on` where that has to come first.
abbrev pub admits : Part → Part → Bool
admits last next = nat_lt 0 (rank last) && nat_le (rank last) (rank next)

-- The next line has to be the line `on` of a switch.
abbrev pub is_conditioning : Part → Bool
is_conditioning Conditioning = true
is_conditioning _ = false

-- The switch has its line `otherwise`, so that only `end` may follow.
abbrev pub is_whole : Part → Bool
is_whole Whole = true
is_whole _ = false
