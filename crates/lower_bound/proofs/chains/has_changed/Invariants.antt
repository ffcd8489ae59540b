use Rattle.std.proofs.Common.{◌≡◌, ℕ, ◌<◌, ◌≤◌, false, length}
use Rattle.self_timed.specs.Table.{entry_in}
use Rattle.lower_bound.specs.Turns.{at, most_date, renewed, AreChains}
use Rattle.lower_bound.proofs.Renewed.{HadTurn}
use Rattle.lower_bound.proofs.chains.has_changed.Given as goal

-- the operations before had their turn
abbrev pub invariant-loop-op : goal.invariant-loop-op
invariant-loop-op l = record {
  size : length l.ends ≡ length l.vertices;
  low : (v : ℕ) → at l.ends v ≤ most_date;
  chains : (rounds : ℕ) → AreChains l.durations.operators (entry_in l.durations) l.vertices l.media rounds l.fn.ends
      → HadTurn l.durations.operators (entry_in l.durations) l.vertices l.media rounds l.op l.ends;
  settled : l.changed ≡ false → (v : ℕ) → v < l.op → at l.ends v ≡ renewed l.durations.operators (entry_in l.durations) l.vertices l.media l.ends v;
}
