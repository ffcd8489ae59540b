use Rattle.std.proofs.Common.{ℕ, ◌+◌, ◌<◌}
use Rattle.route_table.specs.Known.{Covers, Grows, IsKnownWithin}
use Rattle.route_table.proofs.rounds.add_routes_from.Given as goal

abbrev pub invariant-loop-to : goal.invariant-loop-to
invariant-loop-to l =
    Grows l.fn.routes l.routes × IsKnownWithin l.media l.routes l.hops × ((to : ℕ) → to < l.to → Covers l.media l.routes (l.hops + 1) l.from to)
