use Rattle.std.proofs.Common.{◌≡◌, ℕ, ◌<◌, false, length}
use Rattle.self_timed.specs.Turns.{at, renewed, AreRight}
use Rattle.self_timed.proofs.Turning.{HadTurn}
use Rattle.self_timed.proofs.reach.has_changed.Given as goal

-- the operations before had their turn
abbrev pub invariant-loop-op : goal.invariant-loop-op
invariant-loop-op l = record {
  size : length l.table ≡ length l.vertices;
  right : (rounds : ℕ) → AreRight l.vertices l.on rounds l.fn.table → HadTurn l.vertices l.on rounds l.op l.table;
  settled : l.changed ≡ false → (w : ℕ) → w < l.op → at l.table w ≡ renewed l.vertices l.on l.table w;
}
