-- The made tree, or how far it is above the bound on operations.
use Rattle.std.specs.Prelude.{
  ◌≡◌,
  ℕ,
  ◌+◌,
  ◌*◌,
  List,
  Result,
  Ok,
  Err,
  length,
  nat_lt,
  slice_index_or,
  [],
  if◌then◌else◌,
}
use Rattle.syn_base.specs.declared.limits.LimitFault.{LimitFault}
use Rattle.syn_base.specs.declared.limits.LimitKind.TheVariants.{Operations}
use Rattle.syn_base.specs.Limits.{bound_of}
use Rattle.algo_tree.specs.Tree.{Vertex, Vertices}
use Rattle.algo_tree.specs.Typed.{outs_of}
use Rattle.algo_tree.specs.Counted.{operations}
use Rattle.multi_period.specs.declared.fault.PeriodError.{PeriodError}
use Rattle.multi_period.specs.declared.fault.PeriodError.TheVariants.{Limit, OutOfMemory}
use Rattle.multi_period.specs.declared.mark.Mark.{Mark}
use Rattle.multi_period.specs.Periods.{periods}

-- How many operations a mark adds in a main graph of these vertices.
abbrev pub adds : Vertices → Mark → ℕ
adds us m = 2 * m.every + 3 * length (slice_index_or (outs_of us) m.reference [])

-- The made tree, or the limit where it has too many operations.
abbrev pub made_within : List Mark → Vertex → Result Vertex LimitFault
made_within marks main =
    if nat_lt 2048 (operations (periods marks main)) then
    Err (record { which = Operations; count = operations (periods marks main); bound = bound_of Operations })
    else Ok (periods marks main)

-- There is a tree to make, and no limit that it is above.
abbrev pub IsWithin : Result Vertex LimitFault → Type 0
IsWithin (Ok u) = Unit {0}
IsWithin (Err e) = ⊥

-- What is returned is what was to be made, or want of memory, which comes only if there is a tree
-- to make.
abbrev pub Gives : Result Vertex PeriodError → Result Vertex LimitFault → Type 0
Gives (Ok u) expected = expected ≡ Ok u
Gives (Err (Limit f)) expected = expected ≡ Err f
Gives (Err OutOfMemory) expected = IsWithin expected
