-- The rows of a table that is accepted are cut as the sensors are.
use Rattle.std.proofs.Common.{
  ◌≡◌,
  ℕ,
  zero,
  suc,
  ◌+◌,
  ◌-◌,
  ◌==◌,
  ◌<◌,
  Bool,
  true,
  false,
  List,
  [],
  ◌∷◌,
  map,
  drop,
  length,
  sum,
  Result,
  Ok,
  Err,
  refl,
  sym,
  ap,
  ap₂,
  subst,
  ◌∙◌,
  arith,
  ℤ,
  length-take,
  length-drop,
  min,
}
use Rattle.std.specs.Prelude.{if◌then◌else◌, nat_lt, slice_index_or}
use Rattle.std.proofs.lemmas.Bool.{eqb-true}
use Rattle.std.proofs.lemmas.List.Sums.{sum_by-cons}
use Rattle.syn_base.specs.Integer.{integer_of}
use Rattle.syn_base.specs.Limits.{bound_of}
use Rattle.syn_base.specs.Rows.{Reactions, cut, AreCut}
use Rattle.syn_base.specs.declared.limits.LimitKind.TheVariants as limit
use Rattle.sensor_table.specs.declared.fault.SensorCause.TheVariants.{BadHeader, BadCount, BadIndex, BadNumber}
use Rattle.sensor_table.specs.SensorTable.{Record, Row, refused, with_value, with_error, before, numbers_from, is_number, values_in, row_in, too_many, row_of, rows_from, reactions_of, is_header}
use Rattle.algo_laws.specs.Ends.{sensor_lengths}
use Rattle.accepted_laws.specs.Accepted.{TablesFit}

module _ {A E : Type 0} where
  abbrev okay : A → Result A E
  okay a = Ok a

  abbrev wrong : E → Result A E
  wrong e = Err e

  same_ok : (a b : A) → okay a ≡ okay b → a ≡ b
  same_ok a b e = cc

  not_ok : (x : E) (b : A) → wrong x ≡ okay b → ⊥
  not_ok x b e = cc

-- what a mapped answer was
module _ {A B E : Type 0} (f : A → B) where
  was_ok : (r : Result A E) (b : B) → with_value f r ≡ Ok b → (a : A) × (r ≡ Ok a) × (f a ≡ b)
  was_ok (Ok a) b e = (a, refl, same_ok (f a) b e)
  was_ok (Err x) b e = absurd (not_ok x b e)

module _ {A E F : Type 0} (f : E → F) where
  was_same : (r : Result A E) (a : A) → with_error f r ≡ Ok a → r ≡ Ok a
  was_same (Ok b) a e = ap (λ (x : A). Ok x) (same_ok b a e)
  was_same (Err x) a e = absurd (not_ok (f x) a e)

module _ {A E : Type 0} where
  were_both : (r : Result A E) (rest : Result (List A) E) (xs : List A) → before r rest ≡ Ok xs → (a : A) × (ys : List A) × (r ≡ Ok a) × (rest ≡ Ok ys) × (a ∷ ys ≡ xs)
  were_both (Err x) rest xs e = absurd (not_ok x xs e)
  were_both (Ok a) rest xs e = let w = was_ok (λ ys. a ∷ ys) rest xs e in (a, w.0, refl, w.1, w.2)

cut_long : (lens : List ℕ) (vs : List ℤ) → length vs ≡ sum lens → map length (cut lens vs) ≡ lens
cut_long [] vs e = refl
cut_long (n ∷ ns) vs e =
    let s : sum (n ∷ ns) ≡ n + sum ns = sum_by-cons (λ x. x) n ns in
    ap₂ (λ (m : ℕ) (ms : List ℕ). m ∷ ms) (length-take n vs ∙ (let z : min n (length vs) ≡ n = omega (arith, e, s) in z))
    (cut_long ns (drop n vs) (length-drop n vs ∙ (let z : length vs - n ≡ sum ns = omega (arith, e, s) in z)))

numbers_long : (column : ℕ) (fields : Record) (vs : List ℤ) → numbers_from column fields ≡ Ok vs → length vs ≡ length fields
numbers_long column [] vs e = ap length (sym (same_ok [] vs e))
numbers_long column (field ∷ fields) vs e =
    let w = were_both (with_error (λ _. BadNumber column) (integer_of field)) (numbers_from (suc column) fields) vs e in
    ap length (sym w.4) ∙ ap suc (numbers_long (suc column) fields w.1 w.3)

values_long : (columns k : ℕ) (fields : Record) (vs : List ℤ) → values_in columns k fields ≡ Ok vs → suc (length vs) ≡ columns
values_long columns k [] vs e = absurd (not_ok (BadCount 0 columns) vs e)
values_long columns k (index ∷ fields) vs e = by (suc (length fields) == columns) refl e
  where
    within : (c : Bool) → (if c then numbers_from 1 fields else Err BadIndex) ≡ Ok vs → length vs ≡ length fields
    within true q = numbers_long 1 fields vs q
    within false q = absurd (not_ok BadIndex vs q)

    by : (b : Bool) → (suc (length fields) == columns) ≡ b
        → (if b then (if is_number k (integer_of index) then numbers_from 1 fields else Err BadIndex) else Err
        (BadCount (suc (length fields)) columns)) ≡ Ok vs → suc (length vs) ≡ columns
    by true t q = ap suc (within (is_number k (integer_of index)) q) ∙ eqb-true (suc (length fields)) columns t
    by false t q = absurd (not_ok (BadCount (suc (length fields)) columns) vs q)

row_long : (lens : List ℕ) (k : ℕ) (fields : Record) (row : Row) → row_of lens k fields ≡ Ok row → map length row ≡ lens
row_long lens k fields row e = by (nat_lt k (bound_of limit.Reactions)) e
  where
    inner : row_in lens k fields ≡ Ok row → map length row ≡ lens
    inner q = let w = was_ok (cut lens) (values_in (suc (sum lens)) k fields) row q in
        ap (map length) (sym w.2) ∙ cut_long lens w.0 (let z = values_long (suc (sum lens)) k fields w.0 w.1 in omega (arith, z))

    by : (b : Bool) → (if b then with_error (refused (suc k)) (row_in lens k fields) else Err too_many) ≡ Ok row → map length row ≡ lens
    by true q = inner (was_same (refused (suc k)) (row_in lens k fields) row q)
    by false q = absurd (not_ok too_many row q)

rows_long : (lens : List ℕ) (k : ℕ) (records : List Record) (rows : List Row) → rows_from lens k records ≡ Ok rows → (i : ℕ) → i < length rows → map length (slice_index_or rows i []) ≡ lens
rows_long lens k [] rows e i l = absurd (let z = ap length (same_ok [] rows e) in omega (arith, z, l))
rows_long lens k (fields ∷ records) rows e i l = let w = were_both (row_of lens k fields) (rows_from lens (suc k) records) rows e in
    subst (λ (xs : List Row). i < length xs → map length (slice_index_or xs i []) ≡ lens) w.4 (by w.0 w.1 w.2 (λ j m. rows_long lens (suc k) records w.1 w.3 j m) i) l
  where
    by : (a : Row) (as' : List Row) → row_of lens k fields ≡ Ok a
        → ((j : ℕ) → j < length as' → map length (slice_index_or as' j []) ≡ lens) → (i : ℕ) → i < length (a ∷ as')
        → map length (slice_index_or (a ∷ as') i []) ≡ lens
    by a as' p q zero l = row_long lens k fields a p
    by a as' p q (suc i) l = q i (omega (arith, l))

pub tables_fit : TablesFit
tables_fit main [] rows e = absurd (not_ok (refused 0 BadHeader) rows e)
tables_fit main (header ∷ records) rows e = by (is_header main header) e
  where
    inner : reactions_of (sensor_lengths main) records ≡ Ok rows → (rows.lens ≡ sensor_lengths main) × AreCut rows
    inner q = let w = was_ok (λ rs. record { lens = sensor_lengths main; reactions = rs }) (rows_from (sensor_lengths main) 0 records) rows q in
        (ap (λ (r : Reactions). r.lens) (sym w.2), subst AreCut w.2 (λ k l. rows_long (sensor_lengths main) 0 records w.0 w.1 k l))

    by : (b : Bool) → (if b then reactions_of (sensor_lengths main) records else Err (refused 0 BadHeader)) ≡ Ok rows → (rows.lens ≡ sensor_lengths main) × AreCut rows
    by true q = inner q
    by false q = absurd (not_ok (refused 0 BadHeader) rows q)
