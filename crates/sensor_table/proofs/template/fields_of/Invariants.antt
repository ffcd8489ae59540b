use Rattle.std.proofs.Common.{◌≡◌, ◌++◌, drop, map}
use Rattle.sensor_table.proofs.template.fields_of.Given as goal

-- the fields so far, with the columns that are left, are all
abbrev pub invariant-loop-column : goal.invariant-loop-column
invariant-loop-column l = map (λ f. f.now) l.fields.items ++ drop l.column-index l.header ≡ l.header
