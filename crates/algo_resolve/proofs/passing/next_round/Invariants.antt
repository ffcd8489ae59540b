use Rattle.std.proofs.Common.{◌≡◌, ℕ, suc, ◌++◌, drop, map}
use Rattle.algo_resolve.specs.Rounds.{passed_within, passing_view, round}
use Rattle.algo_resolve.proofs.passing.next_round.Given as goal

abbrev pub invariant-loop-place : goal.invariant-loop-place
invariant-loop-place l = (n : ℕ) → map passing_view l.last ≡ round l.checked.defs.now n
    → map passing_view l.next.items ++ map (passed_within l.checked.defs.now (suc n)) (drop l.place l.checked.defs.now) ≡ round l.checked.defs.now (suc n)
