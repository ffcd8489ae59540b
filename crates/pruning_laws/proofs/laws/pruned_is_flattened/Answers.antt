use Rattle.std.proofs.Common.{ap}
use Rattle.flat_laws.specs.FlatOf.{graph_of}
use Rattle.pruning_laws.proofs.Flattened.{list-flattened}
use Rattle.pruning_laws.proofs.laws.pruned_is_flattened.Goals as goal

pub returns-clause-list : goal.returns-clause-list
returns-clause-list c = list-flattened

pub returns-clause-flat : goal.returns-clause-flat
returns-clause-flat c main h = ap graph_of (list-flattened main h)
