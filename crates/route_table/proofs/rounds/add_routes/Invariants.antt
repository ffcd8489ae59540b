use Rattle.std.proofs.Common.{ℕ, ◌+◌, ◌<◌}
use Rattle.route_table.specs.Known.{Covers, Grows, IsKnownWithin}
use Rattle.route_table.proofs.rounds.add_routes.Given as goal

abbrev pub invariant-loop-from : goal.invariant-loop-from
invariant-loop-from l =
    Grows l.fn.routes l.routes × IsKnownWithin l.media l.routes l.hops × ((from : ℕ) → from < l.from → (to : ℕ) → to < l.fn.routes.operators → Covers l.media l.routes (l.hops + 1) from to)
