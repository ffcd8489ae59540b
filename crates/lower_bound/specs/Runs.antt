-- The bound and the pressure run.
use Rattle.std.specs.Prelude.{◌≤◌, length}
use Rattle.comm_routing.specs.Task.{Task}
use Rattle.comm_routing.specs.Given.{IsTask}
use Rattle.pressure_heuristic.specs.Pressure.{pressure_run}
use Rattle.self_timed.specs.Acts.{length_of}
use Rattle.lower_bound.specs.Bound.{lower_bound}

-- no pressure run is shorter than the bound
abbrev pub NoRunIsShorter : Type 0
NoRunIsShorter = (t : Task) → IsTask t
    → lower_bound (length t.archi.operators) t.ticks t.graph.vertices t.archi.media ≤ length_of (pressure_run t)
