use Rattle.std.proofs.Common.{◌≡◌, map, replicate}
use Rattle.std.specs.Prelude.{codes}
use Rattle.sensor_table.proofs.template.zeros.Given as goal

-- a 0 for each column so far
abbrev pub invariant-loop : goal.invariant-loop
invariant-loop l = map (λ f. f.now) l.fields.items ≡ replicate l.counter (codes "0")
