-- The pressure run is a valid schedule, so the bound is below it.
use Rattle.pressure_heuristic.specs.Pressure.{pressure_run}
use Rattle.pressure_heuristic.proofs.Whole.{runs_are_valid}
use Rattle.lower_bound.proofs.Below.{no_valid_schedule_is_shorter}
use Rattle.lower_bound.specs.Runs.{NoRunIsShorter}

pub no_run_is_shorter : NoRunIsShorter
no_run_is_shorter t given = no_valid_schedule_is_shorter t.graph t.archi t.ticks (pressure_run t) (runs_are_valid t given)
