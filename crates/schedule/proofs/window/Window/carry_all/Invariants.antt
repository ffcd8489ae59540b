use Rattle.std.proofs.Common.{◌≡◌, List, ◌++◌, drop, length, map}
use Rattle.durations.specs.declared.Vertex.{Vertex}
use Rattle.schedule.specs.Acts.{Act, carry}
use Rattle.schedule.specs.Windows.{are_fed}
use Rattle.schedule.proofs.window.Window.carry_all.Given as goal

-- the transfers that are left decide, whatever comes after them
abbrev pub invariant-loop-transfer : goal.invariant-loop-transfer
invariant-loop-transfer l = record {
  size : length l.self.held ≡ 16384;
  left : (vertices : List Vertex) (rest : List Act) → are_fed vertices l.self (map carry (drop l.transfer-index l.transfers) ++ rest) ≡ are_fed vertices l.fn.self (map carry l.transfers ++ rest);
}
