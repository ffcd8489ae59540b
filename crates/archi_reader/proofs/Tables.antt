-- Which definitions have a duration on an operator.
use Rattle.std.proofs.Common.{◌≡◌, ℕ, ◌<◌, Bool, not, true, false, ◌||◌, ◌&&◌, ◌==◌, List, [], ◌∷◌, ◌++◌, length, nat_eq, refl, sym, ap, ap₂, subst, ◌∙◌, arith}
use Rattle.std.specs.Prelude.{slice_index_or, slice_set, if◌then◌else◌}
use Rattle.std.specs.List.{list_any}
use Rattle.std.specs.Str.{bytes_eq}
use Rattle.std.proofs.lemmas.Bool.{eqb-true, eq-eqb}
use Rattle.std.proofs.lemmas.Grind.{get_or-set_at}
use Rattle.std.proofs.lemmas.List.{get_or-set_other, get_or_default, length-set}
use Rattle.std.proofs.lemmas.List.Folds.{list_any-append}
use Rattle.std.proofs.lemmas.Slice.Eq.{bytes_eq-Decides}
use Rattle.archi_defs.specs.declared.text.DurationLine.{DurationLine}
use Rattle.syn_base.specs.Bytes.{Bytes}
use Rattle.archi_reader.specs.Durations.{is_given, AreGiven}

-- a test of texts that is the same both ways
pub bytes_eq_sym : (v w : Bytes) → bytes_eq v w ≡ bytes_eq w v
bytes_eq_sym v w = by (bytes_eq v w) (bytes_eq w v) refl refl
  where
    by : (x y : Bool) → bytes_eq v w ≡ x → bytes_eq w v ≡ y → bytes_eq v w ≡ bytes_eq w v
    by true y h k = h ∙ sym ((bytes_eq-Decides w v).1 (sym ((bytes_eq-Decides v w).0 h)))
    by false true h k = (bytes_eq-Decides v w).1 (sym ((bytes_eq-Decides w v).0 k)) ∙ sym k
    by false false h k = h ∙ sym k

pub bytes_eq_self : (w : Bytes) → bytes_eq w w ≡ true
bytes_eq_self w = (bytes_eq-Decides w w).1 refl

or_false : (b : Bool) → (b || false) ≡ b
or_false true = refl
or_false false = refl

and_true : (b : Bool) → (b && true) ≡ b
and_true true = refl
and_true false = refl

and_false : (b : Bool) → (b && false) ≡ false
and_false true = refl
and_false false = refl

negated : (b : Bool) → not b ≡ false → b ≡ true
negated true h = refl
negated false h = cc

true_is_not_false : true ≡ false → ⊥
true_is_not_false h = cc

-- a name that is added where it is missing
with_name : (table : List Bytes) (w def : Bytes) (new : Bool) → new ≡ not (list_any (bytes_eq w) table)
    → list_any (bytes_eq def) (if new then table ++ w ∷ [] else table) ≡ (list_any (bytes_eq def) table || bytes_eq w def)
with_name table w def true h = list_any-append (bytes_eq def) table (w ∷ []) ∙ ap (λ (b : Bool). list_any (bytes_eq def) table || b) (or_false (bytes_eq def w) ∙ bytes_eq_sym def w)
with_name table w def false h = by (bytes_eq w def) refl
  where
    by : (same : Bool) → bytes_eq w def ≡ same → list_any (bytes_eq def) table ≡ (list_any (bytes_eq def) table || same)
    by false e = sym (or_false (list_any (bytes_eq def) table))
    by true e =
        let is : w ≡ def = (bytes_eq-Decides w def).0 e in
        let there : list_any (bytes_eq def) table ≡ true = subst (λ (v : Bytes). list_any (bytes_eq v) table ≡ true) is (negated (list_any (bytes_eq w) table) (sym h)) in
        there ∙ sym (ap (λ (b : Bool). b || true) there)

-- One duration more.
pub given_more : (tables : List (List Bytes)) (lines : List DurationLine) (w : Bytes) (d : DurationLine) (new : Bool) (table : List Bytes)
    → AreGiven tables lines → d.operator < 16 → d.def ≡ w
    → new ≡ not (list_any (bytes_eq w) (slice_index_or tables d.operator []))
    → table ≡ (if new then slice_index_or tables d.operator [] ++ w ∷ [] else slice_index_or tables d.operator [])
    → AreGiven (slice_set tables d.operator table) (lines ++ d ∷ [])
given_more tables lines w d new table given low same is after = record {
  sixteen = length-set tables d.operator table ∙ given.sixteen;
  found = λ def o. found_at def o (nat_eq d.operator o) refl;
}
  where
    found_at : (def : Bytes) (o : ℕ) (here : Bool) → nat_eq d.operator o ≡ here
        → list_any (bytes_eq def) (slice_index_or (slice_set tables d.operator table) o []) ≡ is_given (lines ++ d ∷ []) def o
    found_at def o true e =
        let at : d.operator ≡ o = eqb-true d.operator o e in
        let own : slice_index_or (slice_set tables d.operator table) o [] ≡ table = get_or-set_at tables d.operator o table [] (sym at) (omega (arith, low, given.sixteen)) in
        let before = subst (λ (k : ℕ). list_any (bytes_eq def) (slice_index_or tables k []) ≡ is_given lines def o) (sym at) (given.found def o) in
        ap (list_any (bytes_eq def)) (own ∙ after) ∙ with_name (slice_index_or tables d.operator []) w def new is
        ∙ ap₂ ◌||◌ before (sym (ap₂ ◌&&◌ (ap (λ (v : Bytes). bytes_eq v def) same) e ∙ and_true (bytes_eq w def)))
        ∙ sym (list_any-append (λ x. bytes_eq x.def def && (x.operator == o)) lines (d ∷ []) ∙ ap (λ (b : Bool). is_given lines def o || b) (or_false _))
    found_at def o false e =
        let other : slice_index_or (slice_set tables d.operator table) o []
        ≡ slice_index_or tables o [] = get_or-set_other tables d.operator o table [] (λ at. true_is_not_false (sym (eq-eqb d.operator o (sym at)) ∙ e)) in
        ap (list_any (bytes_eq def)) other ∙ given.found def o
        ∙ sym (list_any-append (λ x. bytes_eq x.def def && (x.operator == o)) lines (d ∷ [])
        ∙ ap (λ (b : Bool). is_given lines def o || (b || false)) (ap (λ (b : Bool). bytes_eq d.def def && b) e ∙ and_false (bytes_eq d.def def))
        ∙ or_false (is_given lines def o))

-- the table of an operator
pub table_at : (tables : List (List Bytes)) (o : ℕ) (t : List Bytes) → length tables ≡ 16 → o < 16 → t ≡ slice_index_or tables o t → t ≡ slice_index_or tables o []
table_at tables o t sixteen low is = is ∙ get_or_default tables o t [] (omega (arith, low, sixteen))
