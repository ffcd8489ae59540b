-- The template of an algorithm reads back as one reaction of zeros.
use Rattle.std.proofs.Common.{
  ◌≡◌,
  ◌∙◌,
  ◌+◌,
  ◌-◌,
  ◌==◌,
  ◌&&◌,
  ℕ,
  zero,
  suc,
  ℤ,
  pos,
  Bool,
  true,
  List,
  [],
  ◌∷◌,
  ◌++◌,
  length,
  sum,
  replicate,
  Some,
  None,
  Result,
  Ok,
  Err,
  refl,
  sym,
  ap,
  ap₂,
  subst,
  arith,
  if◌then◌else◌,
}
use Rattle.std.specs.Prelude.{codes}
use Rattle.std.specs.Cmp.Lexicographic.{pointwise}
use Rattle.std.specs.Str.{bytes_eq}
use Rattle.std.proofs.lemmas.Bool.{eq-eqb}
use Rattle.std.proofs.lemmas.List.{append-nil, length-replicate, take-replicate, drop-replicate}
use Rattle.std.proofs.lemmas.List.Sums.{sum_by-cons}
use Rattle.std.proofs.lemmas.Slice.Eq.{bytes_eq-Decides}
use Rattle.csv.specs.Machine.{next_record}
use Rattle.csv.specs.Reading.{AreRecords, Reached, default_config, records, strip_bom}
use Rattle.csv.specs.Writing.{default_writer, read_back, row_text}
use Rattle.csv.specs.declared.parser.State.TheVariants as st
use Rattle.csv.proofs.RoundTrip.{read-write}
use Rattle.syn_base.specs.Bytes.{Bytes}
use Rattle.syn_base.specs.Rows.{Reactions, cut}
use Rattle.algo_tree.specs.Tree.{Vertex, vertex}
use Rattle.algo_tree.specs.Ends.{sensor_lengths}
use Rattle.sensor_table.specs.Columns.{header_of}
use Rattle.sensor_table.specs.SensorTable.{Record, Row, before, numbers_from, reactions_of, refused, row_of, rows_of, values_in, with_error, with_value}
use Rattle.sensor_table.specs.declared.fault.SensorCause.{SensorCause}
use Rattle.sensor_table.specs.declared.fault.SensorCause.TheVariants.{BadCount, BadHeader}
use Rattle.sensor_table.specs.declared.fault.SensorError.{SensorError}
use Rattle.sensor_table.proofs.Whole.{are_all, one_list}
use Rattle.sensor_table.proofs.Width.{header_long}
use Rattle.sensor_table.specs.Template.{ReadsBack, template_text, zero_record, zero_row}

-- no byte order mark begins with a letter
letter_first : (tail : Bytes) → strip_bom (107 ∷ tail) ≡ 107 ∷ tail
unfolding strip_bom
letter_first [] = refl
letter_first (b ∷ []) = refl
letter_first (b ∷ c ∷ tail) = refl

no_mark : (text tail : Bytes) → text ≡ 107 ∷ tail → strip_bom text ≡ text
no_mark text tail e = ap strip_bom e ∙ letter_first tail ∙ sym e

none_left : next_record default_config st.StartRecord [] [] [] ≡ None
unfolding next_record
none_left = refl

last_read : (fields : Record) → next_record default_config st.StartRecord [] [] (row_text default_writer fields) ≡ Some (read_back fields, st.StartRecord, [])
last_read fields =
    subst (λ (text : Bytes). next_record default_config st.StartRecord [] [] text ≡ Some (read_back fields, st.StartRecord, []))
    (append-nil (row_text default_writer fields)) (read-write fields [])

-- two records, one after the other
two_records : (first second : Record)
    → AreRecords default_config st.StartRecord (row_text default_writer first ++ row_text default_writer second) (read_back first ∷ read_back second ∷ [])
unfolding Reached
two_records first second = (
  st.StartRecord,
  [],
  (
    (read_back first, st.StartRecord, row_text default_writer second),
    read-write first (row_text default_writer second),
    refl,
    ((read_back second, st.StartRecord, []), last_read second, refl, (refl, refl)),
  ),
  none_left,
)

alike : (fields : Record) → pointwise bytes_eq fields fields ≡ true
alike [] = refl
alike (field ∷ fields) = ap₂ ◌&&◌ ((bytes_eq-Decides field field).1 refl) (alike fields)

-- each 0 is read as 0
zeros_read : (column n : ℕ) → numbers_from column (replicate n (codes "0")) ≡ Ok (replicate n (pos 0))
zeros_read column zero = refl
zeros_read column (suc n) = ap (λ (r : Result (List ℤ) SensorCause). before (Ok (pos 0)) r) (zeros_read (suc column) n)

values_read : (n : ℕ) → values_in (suc n) 0 (replicate (suc n) (codes "0")) ≡ Ok (replicate n (pos 0))
values_read n =
    let long : (suc (length (replicate n (codes "0"))) == suc n) ≡ true = eq-eqb _ _ (ap suc (length-replicate n (codes "0"))) in
    ap (λ (b : Bool). if b then numbers_from 1 (replicate n (codes "0")) else Err (BadCount (suc (length (replicate n (codes "0")))) (suc n))) long
    ∙ zeros_read 1 n

-- and cut into the vectors of the sensors
zeros_cut : (lens : List ℕ) → cut lens (replicate (sum lens) (pos 0)) ≡ zero_row lens
zeros_cut [] = refl
zeros_cut (len ∷ lens) =
    let total : sum (len ∷ lens) ≡ len + sum lens = sum_by-cons (λ (n : ℕ). n) len lens in
    let left : sum (len ∷ lens) - len ≡ sum lens = omega (arith, total) in
    ap₂ (λ (v : List ℤ) (vs : Row). v ∷ vs)
    (take-replicate len (sum (len ∷ lens)) (pos 0) (omega (arith, total)))
    (ap (cut lens) (drop-replicate len (sum (len ∷ lens)) (pos 0) ∙ ap (λ (n : ℕ). replicate n (pos 0)) left) ∙ zeros_cut lens)

row_read : (lens : List ℕ) → row_of lens 0 (replicate (suc (sum lens)) (codes "0")) ≡ Ok (zero_row lens)
row_read lens =
    ap (λ (r : Result (List ℤ) SensorCause). with_error (refused 1) (with_value (cut lens) r)) (values_read (sum lens))
    ∙ ap (λ (row : Row). Ok row) (zeros_cut lens)

abbrev of_rows : List ℕ → List Row → Reactions
of_rows lens rows = record { lens = lens; reactions = rows }

reads_at : (main : Vertex) → rows_of main (records default_config (strip_bom (template_text main)))
    ≡ Ok (of_rows (sensor_lengths main) (zero_row (sensor_lengths main) ∷ []))
reads_at (vertex l us) =
    let main : Vertex = vertex l us in
    let lens : List ℕ = sensor_lengths main in
    let text : Bytes = template_text main in
    let all : records default_config text ≡ header_of main ∷ zero_record main ∷ [] =
    one_list default_config st.StartRecord text _ _ (are_all default_config st.StartRecord text) (two_records (header_of main) (zero_record main)) in
    let row : row_of lens 0 (zero_record main) ≡ Ok (zero_row lens) =
    ap (λ (n : ℕ). row_of lens 0 (replicate n (codes "0"))) (header_long main) ∙ row_read lens in
    ap (λ (t : Bytes). rows_of main (records default_config t)) (no_mark text _ refl)
    ∙ ap (rows_of main) all
    ∙ ap (λ (b : Bool). if b then reactions_of lens (zero_record main ∷ []) else Err (refused 0 BadHeader)) (alike (header_of main))
    ∙ ap (λ (r : Result Row SensorError). with_value (of_rows lens) (before r (Ok []))) row

pub reads_back : ReadsBack
reads_back = reads_at
