use Rattle.std.proofs.Common.{◌≡◌, ◌≤◌, drop, length}
use Rattle.check_places.specs.Pairs.{signal_place}
use Rattle.check_places.proofs.prologues.signal_place.Given as goal

-- both lists were alike so far
abbrev pub invariant-loop-at : goal.invariant-loop-at
invariant-loop-at l = (signal_place l.sequence l.at (drop l.at l.list) (drop l.at l.pairs) ≡ signal_place l.sequence 0 l.list l.pairs) × (l.at ≤ length l.pairs)
