use Rattle.std.proofs.Common.{◌≡◌, ◌+◌, ◌*◌, ◌<◌, [], subst}
use Rattle.std.specs.Prelude.{slice_index_or, slice_set}
use Rattle.route_table.specs.Table.{RouteTable, route_in}
use Rattle.route_table.proofs.Places.{put_elsewhere}
use Rattle.route_table.proofs.table.Routes.put.Goals as goal

pub returns-clause-others : goal.returns-clause-others
returns-clause-others c = λ o d lo ld apart.
    let n = c.self.inside.operators in
    let now = slice_set c.self.inside.routes.items c.place-place.result c.args.route in
    subst (λ (t : RouteTable). c.args.to < t.operators → d < t.operators → slice_index_or now (o * n + d) [] ≡ route_in t o d) c.self.view_is
    (λ l k. put_elsewhere c.self.inside.routes.items c.args.route n c.place-place.result c.args.from c.args.to o d c.place-place.ensures.place l k apart)
    c.requires.places.1 ld
