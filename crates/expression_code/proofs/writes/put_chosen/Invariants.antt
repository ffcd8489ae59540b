use Rattle.std.proofs.Common.{◌≡◌, ℕ, ◌<◌, pos, get_or}
use Rattle.expression_code.specs.Code.{chosen}
use Rattle.expression_code.proofs.writes.put_chosen.Given as goal

abbrev pub invariant-loop-j : goal.invariant-loop-j
invariant-loop-j l = (k : ℕ) → k < l.j → get_or l.out k (pos 0) ≡ chosen (get_or l.condition k (pos 0)) (get_or l.first k (pos 0)) (get_or l.second k (pos 0))
