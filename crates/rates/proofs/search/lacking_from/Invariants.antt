use Rattle.std.proofs.Common.{◌≡◌, ℕ, ◌<◌, ◌≤◌, true}
use Rattle.std.specs.List.{list_all}
use Rattle.rates.specs.Rates.{has_room}
use Rattle.rates.specs.Tables.{at, row_of}
use Rattle.rates.proofs.search.lacking_from.Given as goal

-- each act so far has room
abbrev pub invariant-loop-act : goal.invariant-loop-act
invariant-loop-act l = (i : ℕ) → l.from ≤ i → i < l.act
    → list_all (has_room (at l.long) l.rate.ticks l.rate.reactions (at l.offsets) i) (row_of l.rows i) ≡ true
