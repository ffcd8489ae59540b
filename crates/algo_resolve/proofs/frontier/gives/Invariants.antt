use Rattle.std.proofs.Common.{◌≡◌, ◌++◌, drop}
use Rattle.std.specs.List.{flat_map}
use Rattle.algo_laws.specs.Resolved.{give_by}
use Rattle.algo_laws.specs.declared.Ports.{Ports}
use Rattle.algo_resolve.proofs.frontier.gives.Given as goal

abbrev pub invariant-loop-line : goal.invariant-loop-line
invariant-loop-line l = (outer : Ports) →
    l.gives.items ++ flat_map (λ k. give_by l.inner outer k.frontier) (drop l.line-index l.lines)
    ≡ flat_map (λ k. give_by l.inner outer k.frontier) l.lines
