-- What a table answers, and that it has few reactions.
use Rattle.std.proofs.Common.{◌≡◌, ℕ, suc, ◌+◌, ◌≤◌, Bool, true, false, List, [], ◌∷◌, length, Result, Ok, Err, refl, sym, ap, arith}
use Rattle.std.specs.Prelude.{if◌then◌else◌, nat_lt}
use Rattle.std.proofs.lemmas.Bool.{ltb-true}
use Rattle.csv.specs.Reading.{default_config, records, strip_bom}
use Rattle.syn_base.specs.Bytes.{Bytes}
use Rattle.syn_base.specs.Limits.{bound_of}
use Rattle.syn_base.specs.Rows.{Reactions}
use Rattle.syn_base.specs.declared.limits.LimitKind.TheVariants as limit
use Rattle.algo_laws.specs.Tree.{Vertex}
use Rattle.algo_laws.specs.Ends.{sensor_lengths}
use Rattle.accepted_laws.specs.Accepted.{TablesFit}
use Rattle.sensor_table.specs.Answers.{Gives}
use Rattle.sensor_table.specs.SensorTable.{Record, Row, refused, with_value, with_error, before, row_in, too_many, row_of, rows_from, reactions_of, is_header, rows_of}
use Rattle.sensor_table.specs.declared.fault.SensorCause.TheVariants.{BadHeader}
use Rattle.sensor_table.specs.declared.fault.SensorError.{SensorError}
use Rattle.compiler.specs.Tables.{MakesTable}

pub made_table : (main : Vertex) (table : Bytes) (answer : Result Reactions SensorError) → TablesFit
    → Gives answer (rows_of main (records default_config (strip_bom table))) → MakesTable main table answer
made_table main table (Ok rows) fit h = (h, (fit main (records default_config (strip_bom table)) rows h).0)
made_table main table (Err e) fit h = h

module _ {A E : Type 0} where
  abbrev okay : A → Result A E
  okay a = Ok a

  abbrev wrong : E → Result A E
  wrong e = Err e

  same_ok : (a b : A) → okay a ≡ okay b → a ≡ b
  same_ok a b e = cc

  not_ok : (x : E) (b : A) → wrong x ≡ okay b → ⊥
  not_ok x b e = cc

was_ok : {A B E : Type 0} (f : A → B) (r : Result A E) (b : B) → with_value f r ≡ Ok b → (a : A) × (r ≡ Ok a) × (f a ≡ b)
was_ok f (Ok a) b e = (a, refl, same_ok (f a) b e)
was_ok f (Err x) b e = absurd (not_ok x b e)

were_both : {A E : Type 0} (r : Result A E) (rest : Result (List A) E) (xs : List A) → before r rest ≡ Ok xs → (a : A) × (ys : List A) × (r ≡ Ok a) × (rest ≡ Ok ys) × (a ∷ ys ≡ xs)
were_both (Err x) rest xs e = absurd (not_ok x xs e)
were_both (Ok a) rest xs e = let w = was_ok (λ ys. a ∷ ys) rest xs e in (a, w.0, refl, w.1, w.2)

row_before : (within : Bool) (answer : Result Row SensorError) (row : Row) → (if within then answer else Err too_many) ≡ Ok row → within ≡ true
row_before true answer row e = refl
row_before false answer row e = absurd (not_ok too_many row e)

few_from : (lens : List ℕ) (k : ℕ) (records : List Record) (rows : List Row) → k ≤ 10000 → rows_from lens k records ≡ Ok rows → k + length rows ≤ 10000
few_from lens k [] rows h e = let none = ap length (sym (same_ok [] rows e)) in omega (arith, h, none)
few_from lens k (fields ∷ records) rows h e =
    let w = were_both (row_of lens k fields) (rows_from lens (suc k) records) rows e in
    let less = ltb-true k (bound_of limit.Reactions) (row_before (nat_lt k (bound_of limit.Reactions)) (with_error (refused (suc k)) (row_in lens k fields)) w.0 w.2) in
    let rest = few_from lens (suc k) records w.1 (omega (arith, less)) w.3 in
    let same = ap length (sym w.4) in
    omega (arith, rest, same)

few_in : (header : Bool) (lens : List ℕ) (records : List Record) (rows : Reactions)
    → (if header then reactions_of lens records else Err (refused 0 BadHeader)) ≡ Ok rows → length rows.reactions ≤ 10000
few_in false lens records rows e = absurd (not_ok (refused 0 BadHeader) rows e)
few_in true lens records rows e =
    let w = was_ok (λ (rs : List Row). record { lens = lens; reactions = rs }) (rows_from lens 0 records) rows e in
    let few = few_from lens 0 records w.0 (omega arith) w.1 in
    let same = ap (λ (r : Reactions). length r.reactions) w.2 in
    omega (arith, few, same)

pub few_rows : (main : Vertex) (records : List Record) (rows : Reactions) → rows_of main records ≡ Ok rows → length rows.reactions ≤ 10000
few_rows main [] rows e = absurd (not_ok (refused 0 BadHeader) rows e)
few_rows main (header ∷ records) rows e = few_in (is_header main header) (sensor_lengths main) records rows e
