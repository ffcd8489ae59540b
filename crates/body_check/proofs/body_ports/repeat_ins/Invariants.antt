use Rattle.std.proofs.Common.{◌≡◌, ◌++◌, drop}
use Rattle.std.specs.List.{flat_map}
use Rattle.algo_rules.specs.Ports.{outer_ins}
use Rattle.body_check.proofs.body_ports.repeat_ins.Given as goal

abbrev pub invariant-loop-line : goal.invariant-loop-line
invariant-loop-line l = l.ports.items ++ flat_map (λ x. outer_ins l.copies l.inner x.frontier) (drop l.line-index l.lines) ≡ flat_map (λ x. outer_ins l.copies l.inner x.frontier) l.lines
