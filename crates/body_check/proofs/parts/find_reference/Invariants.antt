use Rattle.std.proofs.Common.{◌≡◌, ◌+◌, drop}
use Rattle.algo_rules.specs.Graphs.{place}
use Rattle.body_check.proofs.parts.find_reference.Given as goal

abbrev pub invariant-loop-at : goal.invariant-loop-at
invariant-loop-at l = l.at + place (drop l.at l.references) l.name ≡ place l.references l.name
