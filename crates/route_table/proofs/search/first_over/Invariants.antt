use Rattle.std.proofs.Common.{◌≡◌, ◌<◌, drop}
use Rattle.std.specs.Prelude.{IfSome}
use Rattle.route_table.specs.Search.{pick_over}
use Rattle.route_table.proofs.search.first_over.Given as goal

-- what is left completes the choice
abbrev pub invariant-loop-o : goal.invariant-loop-o
invariant-loop-o l =
    (pick_over l.routes l.hops l.to l.medium l.best (drop l.o-index l.stands) ≡ pick_over l.routes l.hops l.to l.medium l.initial.best l.stands) × IfSome l.best (λ h. h.to < l.routes.operators)
