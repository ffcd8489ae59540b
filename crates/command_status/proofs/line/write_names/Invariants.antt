use Rattle.std.proofs.Common.{drop, ◌≡◌, ◌++◌}
use Rattle.syn_base.specs.Bytes.{Bytes}
use Rattle.command_plan.specs.Sink.{Appends}
use Rattle.command_status.specs.Lines.{names_line}
use Rattle.command_status.proofs.line.write_names.Given as goal

-- what was appended, with the names that are left, is the whole
abbrev pub invariant-loop-name : goal.invariant-loop-name
invariant-loop-name g l = (done : Bytes) × Appends (g.E.Sink.sunk l.fn.err) (g.E.Sink.sunk l.err) done
    × (done ++ names_line (drop l.name-index l.names) ≡ names_line l.names)
