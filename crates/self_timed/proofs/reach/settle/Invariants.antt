use Rattle.std.proofs.Common.{◌≡◌, length}
use Rattle.self_timed.specs.Turns.{AreRight}
use Rattle.self_timed.proofs.reach.settle.Given as goal

-- of what is done after as many rounds the table is right
abbrev pub invariant-loop-turn : goal.invariant-loop-turn
invariant-loop-turn l = record {
  size : length l.table ≡ length l.vertices;
  right : AreRight l.vertices l.on l._turn l.table;
}
