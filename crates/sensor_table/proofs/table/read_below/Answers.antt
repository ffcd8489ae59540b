use Rattle.std.proofs.Common.{rules, ◌≡◌, ◌∙◌, ◌∷◌, [], suc, Bool, true, false, length, refl, ap}
use Rattle.std.specs.Prelude.{◌&&◌}
use Rattle.std.specs.Cmp.Lexicographic.{pointwise}
use Rattle.std.specs.Str.{bytes_eq}
use Rattle.csv.specs.Records.{fields_of}
use Rattle.sensor_table.specs.Columns.{header_of}
use Rattle.sensor_table.specs.SensorTable.{Record}
use Rattle.sensor_table.proofs.Width.{header_long}
use Rattle.sensor_table.proofs.table.read_below.Goals as goal

both : (a b : Bool) → (a && b) ≡ true → b ≡ true
both true b h = h
both false b h = absurd (cc)

-- equal lists are as long
same_long : (fields others : Record) → pointwise bytes_eq fields others ≡ true → length fields ≡ length others
same_long [] [] h = refl
same_long [] (y ∷ ys) h = absurd (cc)
same_long (x ∷ xs) [] h = absurd (cc)
same_long (x ∷ xs) (y ∷ ys) h = ap suc (same_long xs ys (both (bytes_eq x y) (pointwise bytes_eq xs ys) h))

pub read_rows-requires-clause-columns : goal.read_rows-requires-clause-columns
read_rows-requires-clause-columns c =
    let same : pointwise bytes_eq (fields_of c.args.header.now) (header_of c.args.tree.now) ≡ true = search rules in
    rw (c.deref.ensures.value, c.in_ok-lens.ensures, c.len.ensures) (same_long _ _ same ∙ header_long c.args.tree.now)
