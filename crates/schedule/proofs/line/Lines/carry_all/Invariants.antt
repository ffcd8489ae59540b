use Rattle.std.proofs.Common.{◌≡◌, List, ◌++◌, drop, map}
use Rattle.schedule.specs.Acts.{Act, carry}
use Rattle.schedule.specs.Lines.{are_in_line, HasPlaces}
use Rattle.schedule.proofs.line.Lines.carry_all.Given as goal

-- the transfers that are left decide, whatever comes after them
abbrev pub invariant-loop-transfer : goal.invariant-loop-transfer
invariant-loop-transfer l = record {
  sizes : HasPlaces l.self;
  left : (rest : List Act) → are_in_line l.setting l.self (map carry (drop l.transfer-index l.transfers) ++ rest) ≡ are_in_line l.setting l.fn.self (map carry l.transfers ++ rest);
}
