use Rattle.level_meaning.proofs.Fuel.{fuel_is_enough}
use Rattle.level_meaning.proofs.laws.enough_fuel.Goals as goal

pub returns : goal.returns
returns c = fuel_is_enough
