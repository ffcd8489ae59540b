use Rattle.std.proofs.Common.{◌≡◌, ℕ, ◌≤◌, length}
use Rattle.self_timed.specs.Table.{entry_in}
use Rattle.lower_bound.specs.Turns.{at, most_date, AreChains}
use Rattle.lower_bound.proofs.chains.settle.Given as goal

-- what is done after as many rounds has its chain
abbrev pub invariant-loop-turn : goal.invariant-loop-turn
invariant-loop-turn l = record {
  size : length l.ends ≡ length l.vertices;
  low : (v : ℕ) → at l.ends v ≤ most_date;
  chains : AreChains l.durations.operators (entry_in l.durations) l.vertices l.media l._turn l.ends;
}
