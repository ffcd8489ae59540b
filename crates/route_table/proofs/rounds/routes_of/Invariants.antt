use Rattle.std.proofs.Common.{◌≡◌, ◌*◌, length}
use Rattle.route_table.specs.Known.{IsKnownWithin}
use Rattle.route_table.proofs.rounds.routes_of.Given as goal

abbrev pub invariant-loop-hops : goal.invariant-loop-hops
invariant-loop-hops l = (l.routes.operators ≡ l.operators) × (length l.routes.routes ≡ l.operators * l.operators) × IsKnownWithin l.archi.media l.routes l.hops
