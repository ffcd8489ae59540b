use Rattle.std.proofs.Common.{drop, ◌≡◌, ◌++◌}
use Rattle.syn_base.specs.Bytes.{Bytes}
use Rattle.command_plan.specs.Sink.{Appends}
use Rattle.command_status.specs.Lines.{stops_line}
use Rattle.command_status.proofs.code.write_stops.Given as goal

-- what was appended, with the places that are left, is the whole
abbrev pub invariant-loop-stop : goal.invariant-loop-stop
invariant-loop-stop g l = (done : Bytes) × Appends (g.E.Sink.sunk l.fn.err) (g.E.Sink.sunk l.err) done
    × (done ++ stops_line (drop l.stop-index l.stops) ≡ stops_line l.stops)
