use Rattle.std.proofs.Common.{◌≡◌, map, replicate}
use Rattle.operation_desks.proofs.opening.zero_rows.Given as goal
use Rattle.syn_base.specs.Vectors.{zeros}

abbrev pub invariant-loop : goal.invariant-loop
invariant-loop l = record { lens : l.rows.lens ≡ l.lens; reactions : l.rows.reactions ≡ replicate l.counter (map zeros l.lens) }
