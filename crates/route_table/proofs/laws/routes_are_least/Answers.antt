use Rattle.route_table.proofs.LeastRoutes.{routes_are_least}
use Rattle.route_table.proofs.laws.routes_are_least.Goals as goal

pub returns : goal.returns
returns c = routes_are_least
