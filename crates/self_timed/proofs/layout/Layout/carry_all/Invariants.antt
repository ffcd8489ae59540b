use Rattle.std.proofs.Common.{◌≡◌, List, ◌++◌, drop, map}
use Rattle.sequence_build_laws.specs.Acts.{Act, carry}
use Rattle.self_timed.specs.Laid.{HasShape, after_all}
use Rattle.self_timed.proofs.layout.Layout.carry_all.Given as goal

-- what is left of the transfers completes the acts, whatever comes after them
abbrev pub invariant-loop-transfer : goal.invariant-loop-transfer
invariant-loop-transfer l = record {
  shape : HasShape l.self.vertices l.self.makers;
  vertices : l.self.vertices ≡ l.fn.self.vertices;
  left : (rest : List Act) → after_all l.fn.self (map carry l.transfers ++ rest) ≡ after_all l.self (map carry (drop l.transfer-index l.transfers) ++ rest);
}
