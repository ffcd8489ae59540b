use Rattle.std.proofs.Common.{◌≡◌, ◌<◌, None, drop}
use Rattle.std.specs.Prelude.{IfSome}
use Rattle.route_table.specs.Search.{pick_among}
use Rattle.route_table.proofs.search.first_hop.Given as goal

-- what is left completes the choice
abbrev pub invariant-loop-number : goal.invariant-loop-number
invariant-loop-number l =
    (pick_among l.routes l.hops l.to l.from l.number l.best (drop l.number l.media) ≡ pick_among l.routes l.hops l.to l.from 0 None l.media) × IfSome l.best (λ h. h.to < l.routes.operators)
