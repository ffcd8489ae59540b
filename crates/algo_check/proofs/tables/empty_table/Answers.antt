use Rattle.std.proofs.Common.{◌∷◌, [], ◌++◌, List, ap₂, ◌∙◌}
use Rattle.std.proofs.lemmas.List.{replicate_more}
use Rattle.algo_rules.specs.Ports.{no_ports}
use Rattle.algo_rules.specs.declared.ports.Ports.{Ports}
use Rattle.algo_check.proofs.tables.empty_table.Goals as goal

pub loop-preserved : goal.loop-preserved
loop-preserved c =
    rw c.in_ok-push.ensures.items
    (ap₂ (λ (table : List Ports) (more : Ports). table ++ more ∷ []) c.loop.invariant c.no_ports.ensures ∙ replicate_more c.loop.counter no_ports)
