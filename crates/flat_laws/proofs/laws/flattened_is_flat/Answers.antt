use Rattle.flat_laws.proofs.Flattened.{flattened-keeps, flattened-count, flattened-flat, flattened-lengths}
use Rattle.flat_laws.proofs.laws.flattened_is_flat.Goals as goal

pub returns-clause-kept : goal.returns-clause-kept
returns-clause-kept c main g h stands = flattened-keeps main h g stands

pub returns-clause-counted : goal.returns-clause-counted
returns-clause-counted c main g h stands = flattened-count main h g stands

pub returns-clause-valid : goal.returns-clause-valid
returns-clause-valid c main g h stands = flattened-flat main h g stands

pub returns-clause-lengths : goal.returns-clause-lengths
returns-clause-lengths c main g h stands = flattened-lengths main h g stands
