use Rattle.std.proofs.Common.{◌≡◌, ◌||◌, drop, map, nat_eq}
use Rattle.std.specs.List.{list_any}
use Rattle.self_timed.specs.Turns.{at}
use Rattle.self_timed.proofs.reach.inputs_read.Given as goal

-- whether one of what is left does is whether one of all does
abbrev pub invariant-loop-input : goal.invariant-loop-input
invariant-loop-input l = list_any (λ u. nat_eq u l.on || at l.table u) (map (λ x. x.vertex) (drop l.input-index l.inputs))
    ≡ list_any (λ u. nat_eq u l.on || at l.table u) (map (λ x. x.vertex) l.inputs)
