-- What a taken record leaves.
use Rattle.std.proofs.Common.{Bor, ◌≡◌, ◌+◌, ◌∷◌, [], ℕ, List, Option, Some, None, IsSome, length, true, false, refl, sym, subst}
use Rattle.csv.specs.Reading.{AreRecords, Reached, ReadRecord, default_config, records_from, source_of}
use Rattle.csv.specs.declared.parser.State.{State}
use Rattle.csv.specs.declared.reader.Reader.{Reader}
use Rattle.csv.proofs.ReadFacts.{rows-end, rows-more}
use Rattle.sensor_table.specs.SensorTable.{Record}
use Rattle.sensor_table.specs.Reading.{records_at}
use Rattle.sensor_table.proofs.Whole.{are_all, no_more, one_list}

abbrev bytes_of : Bor (List ℕ) → Option (List ℕ)
bytes_of s = Some s.now

known : (bytes : Option (List ℕ)) → IsSome bytes → (xs : List ℕ) × (bytes ≡ Some xs)
known None h = absurd (cc)
known (Some xs) h = (xs, refl)

start : (state : State) (xs : List ℕ) → Reached default_config state xs [] state xs
unfolding Reached
start state xs = (refl, refl)

-- one record and then the others
one_before : (state next : State) (xs ys : List ℕ) (f : Record) (rest : List Record)
    → Reached default_config state xs (f ∷ []) next ys → AreRecords default_config next ys rest → AreRecords default_config state xs (f ∷ rest)
unfolding Reached
one_before state next xs ys f rest r a =
    let here = subst (λ (z : List ℕ). Reached default_config next z rest a.0 a.1) (sym r.3.1) a.2 in
    let tail = subst (λ (q : State). Reached default_config q r.0.2 rest a.0 a.1) (sym r.3.0) here in
    (a.0, a.1, (r.0, r.1, r.2, tail), a.3)

-- a record was taken
pub took : (a b : Reader (Bor (List ℕ))) (f : Record) → a.config ≡ default_config → IsSome (source_of bytes_of a) → ReadRecord bytes_of a b true f
    → (records_at a.state (source_of bytes_of a) ≡ f ∷ records_at b.state (source_of bytes_of b)) × IsSome (source_of bytes_of b)
took a b f config some read =
    let (xs, is) = known (source_of bytes_of a) some in
    let m = rows-more bytes_of a b f default_config a.state xs xs [] config is (start a.state xs) read in
    let left = records_from default_config (length m.0 + 1) b.state m.0 in
    let all = one_before a.state b.state xs m.0 f left m.2 (are_all default_config b.state m.0) in
    rw (is, m.1) (one_list default_config a.state xs _ _ (are_all default_config a.state xs) all, refl)

-- there was none to be taken
pub took_none : (a b : Reader (Bor (List ℕ))) (f : Record) → a.config ≡ default_config → IsSome (source_of bytes_of a) → ReadRecord bytes_of a b false f
    → records_at a.state (source_of bytes_of a) ≡ []
took_none a b f config some read =
    let (xs, is) = known (source_of bytes_of a) some in
    let none = no_more default_config a.state xs (rows-end bytes_of a b f default_config xs config is read) in
    rw is (one_list default_config a.state xs _ [] (are_all default_config a.state xs) none)
