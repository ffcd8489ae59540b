use Rattle.std.proofs.Common.{◌≡◌, drop}
use Rattle.algo_rules.specs.Links.{first_of}
use Rattle.algo_rules.specs.Graphs.{open_faults}
use Rattle.body_check.specs.Parts.{of, own}
use Rattle.body_check.proofs.LeftOpen.{left_open}
use Rattle.body_check.proofs.parts.GraphParts.check_unfed.Given as goal

abbrev pub invariant-loop-at : goal.invariant-loop-at
invariant-loop-at l = first_of (left_open l.self l.self.edges.now (drop l.at l.self.references.now))
    ≡ first_of (open_faults (of l.self) (own l.self) l.self.references.now l.self.line l.self.edges.now)
