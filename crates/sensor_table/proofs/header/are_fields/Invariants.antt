use Rattle.std.proofs.Common.{◌≡◌, drop}
use Rattle.std.specs.Cmp.Lexicographic.{pointwise}
use Rattle.std.specs.Str.{bytes_eq}
use Rattle.csv.specs.Records.{fields_of}
use Rattle.sensor_table.proofs.header.are_fields.Given as goal

-- the fields that are left decide
abbrev pub invariant-loop-at : goal.invariant-loop-at
invariant-loop-at l = pointwise bytes_eq (drop l.at (fields_of l.fields)) (drop l.at l.wanted) ≡ pointwise bytes_eq (fields_of l.fields) l.wanted
