use Rattle.std.proofs.Common.{◌≡◌, length, take}
use Rattle.hierarchy.proofs.Leading.{AreLed}
use Rattle.hierarchy.proofs.level.+lead.Given as goal

abbrev pub invariant-lead_level-loop-r : goal.invariant-lead_level-loop-r
invariant-lead_level-loop-r l = record {
  count : length l.leds.items ≡ length l.vertices.items;
  done : AreLed l.first l.own l.vertices.items (take l.r-index l.r-items) l.leds.items;
}
