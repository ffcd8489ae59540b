use Rattle.std.proofs.Common.{◌≡◌, take, map}
use Rattle.self_timed.specs.Laid.{empty_row}
use Rattle.self_timed.proofs.layout.no_makers.Given as goal

-- there is a row for each operation so far
abbrev pub invariant-loop-vertex : goal.invariant-loop-vertex
invariant-loop-vertex l = l.rows.items ≡ map empty_row (take l.vertex-index l.vertices)
