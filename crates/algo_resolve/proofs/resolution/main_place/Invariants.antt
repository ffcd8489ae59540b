use Rattle.std.proofs.Common.{◌≡◌, codes, drop}
use Rattle.algo_laws.specs.RuleLinks.{definition}
use Rattle.algo_resolve.proofs.resolution.main_place.Given as goal

abbrev pub invariant-loop-place : goal.invariant-loop-place
invariant-loop-place l = definition (drop l.place l.defs) (codes "main") ≡ definition l.defs (codes "main")
