use Rattle.std.proofs.Common.{◌≡◌, get_or}
use Rattle.hierarchy.specs.Wires.{led}
use Rattle.hierarchy.proofs.Linking.{guard_found_at}
use Rattle.hierarchy.proofs.operation.conditions.Goals as goal

pub condition-requires : goal.condition-requires
condition-requires c =
    let w = led c.args.level.now.leds.now c.args.level.now.own.now in
    let i = c.loop-guard.guard-index in
    let g = c.guard-item.result in
    let at : g ≡ get_or c.args.guards.now i g = c.guard-item.is in
    rw at (guard_found_at w c.args.guards.now i g c.requires c.loop-guard-test.true)
