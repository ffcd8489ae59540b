use Rattle.std.proofs.Common.{Bor, ◌≡◌, ◌∙◌, [], ◌∷◌, ℕ, zero, suc, List, Option, Some, None, refl, ap, slice_index_or}
use Rattle.std.specs.Prelude.{option_map, unwrap_or}
use Rattle.csv.specs.Records.{field_at, fields_of}
use Rattle.sensor_table.proofs.records.field_at.Goals as goal

-- the field that was found, and the empty one where none was
found : (fields : List (List ℕ)) (column : ℕ) → unwrap_or (field_at fields column) [] ≡ slice_index_or fields column []
unfolding field_at
found [] column = refl
found (field ∷ fields) zero = refl
found (field ∷ fields) (suc column) = found fields column

inside : (fields : List (List ℕ)) (column : ℕ) (o : Option (Bor (List ℕ))) (other result : Bor (List ℕ))
    → result ≡ unwrap_or o other → other.now ≡ [] → option_map (λ s. s.now) o ≡ field_at fields column → result.now ≡ slice_index_or fields column []
inside fields column None other result e h is = ap (λ (s : Bor (List ℕ)). s.now) e ∙ h ∙ ap (λ (x : Option (List ℕ)). unwrap_or x []) is ∙ found fields column
inside fields column (Some s) other result e h is = ap (λ (s : Bor (List ℕ)). s.now) e ∙ ap (λ (x : Option (List ℕ)). unwrap_or x []) is ∙ found fields column

pub returns : goal.returns
returns c = inside (fields_of c.args.fields.now) c.args.column c.get.result _ c.unwrap_or.result c.unwrap_or.ensures refl c.get.ensures.value
