use Rattle.flat_laws.proofs.EndsNumbered.{sensors-numbered, actuators-numbered, few}
use Rattle.flat_laws.proofs.laws.stands_is_numbered.Goals as goal

pub returns-clause-sensors : goal.returns-clause-sensors
returns-clause-sensors c = sensors-numbered

pub returns-clause-actuators : goal.returns-clause-actuators
returns-clause-actuators c = actuators-numbered

pub returns-clause-few : goal.returns-clause-few
returns-clause-few c = few
