use Rattle.std.proofs.Common.{◌≡◌, ◌++◌, take, map}
use Rattle.sequence_build_laws.specs.declared.Guard.{Guard}
use Rattle.sequence_build_laws.specs.Acts.{copy}
use Rattle.self_timed.specs.Laid.{maker_in}
use Rattle.self_timed.proofs.layout.Layout.add_guards.Given as goal

-- the sources of the guards so far are added
abbrev pub invariant-loop-guard : goal.invariant-loop-guard
invariant-loop-guard l = l.sources.items ≡ l.fn.sources.items ++ map (λ (g : Guard). maker_in l.self.makers (copy l.operator g.source)) (take l.guard-index l.guards)
