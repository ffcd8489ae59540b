use Rattle.std.proofs.Common.{◌≡◌, ◌&&◌, drop}
use Rattle.std.specs.List.{list_any}
use Rattle.std.specs.Str.{bytes_eq}
use Rattle.algo_rules.specs.Graphs.{is_delay}
use Rattle.algo_rules.specs.Links.{definition}
use Rattle.body_check.proofs.parts.GraphParts.is_delayed.Given as goal

abbrev pub invariant-loop-at : goal.invariant-loop-at
invariant-loop-at l =
    list_any (λ r. bytes_eq l.name r.name && is_delay (definition l.self.defs.now r.def)) (drop l.at l.self.references.now)
    ≡ list_any (λ r. bytes_eq l.name r.name && is_delay (definition l.self.defs.now r.def)) l.self.references.now
