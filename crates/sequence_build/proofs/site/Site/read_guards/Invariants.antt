use Rattle.std.proofs.Common.{◌≡◌, ◌++◌, drop, map}
use Rattle.sequence_build_laws.specs.declared.Guard.{Guard}
use Rattle.sequence_build_laws.specs.Acts.{copy}
use Rattle.sequence_build.specs.Plain.{numbering}
use Rattle.sequence_build.proofs.site.Site.read_guards.Given as goal

-- what is left makes the whole
abbrev pub invariant-loop-guard : goal.invariant-loop-guard
invariant-loop-guard l = l.ins.items ++ map (λ (d : Guard). numbering l.self (copy l.operator d.source)) (drop l.guard-index l.guards)
    ≡ l.fn.ins.items ++ map (λ (d : Guard). numbering l.self (copy l.operator d.source)) l.guards
