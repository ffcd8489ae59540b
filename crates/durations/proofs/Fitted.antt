-- The durations of a text are those of their flat graph and architecture, and a set half may stand wherever its get half may.
use Rattle.std.proofs.Common.{◌≡◌, ℕ, zero, suc, ◌+◌, ◌≤◌, ◌<◌, Bool, cond, List, [], ◌∷◌, map, length, Option, Some, None, Ok, refl, sym, ap, subst, arith, ◌∙◌}
use Rattle.std.specs.Prelude.{slice_get, slice_index_or, is_some}
use Rattle.std.specs.List.{range_with_len}
use Rattle.std.proofs.lemmas.Option.{same_Some}
use Rattle.std.proofs.lemmas.List.{length-map}
use Rattle.flat_graph.specs.declared.vertex.Vertex.{Vertex}
use Rattle.flat_graph.specs.Graph.{Graph}
use Rattle.archi_defs.specs.Archi.{Architecture}
use Rattle.archi_defs.specs.declared.text.DurationLine.{DurationLine}
use Rattle.syn_base.specs.Bytes.{Bytes}
use Rattle.durations.specs.Lines.{ticks_of, AreDurations}
use Rattle.durations.specs.Table.{IsTable, StandBeside, entry, entry_in, get_half_of, missing, row, table, unless_missing}
use Rattle.durations.specs.Fitting.{DurationsFit, IsOf}
use Rattle.durations.proofs.Entries.{rows_valid}
use Rattle.durations.proofs.SetHalves.{half_there, untimed}

row_at : {A B : Type 0} (f : A → List B) (xs : List A) (v : ℕ) (x : A) → slice_get xs v ≡ Some x → slice_index_or (map f xs) v [] ≡ f x
row_at f [] v x e = absurd cc
row_at f (y ∷ xs) zero x e = ap f (same_Some y x e)
row_at f (y ∷ xs) (suc v) x e = row_at f xs v x e

entry_at : (f : ℕ → Option ℕ) (a n o : ℕ) → o < n → slice_index_or (map f (range_with_len a n)) o None ≡ f (a + o)
entry_at f a zero o l = absurd (omega arith)
entry_at f a (suc n) zero l = ap f (let z : a ≡ a + 0 = omega arith in z)
entry_at f a (suc n) (suc o) l = entry_at f (a + 1) n o (omega arith) ∙ ap f (let z : a + 1 + o ≡ a + suc o = omega arith in z)

entry_is : (xs : List Vertex) (operators : ℕ) (lines : List DurationLine) (v o : ℕ) (x : Vertex) → o < operators → slice_get xs v ≡ Some x → entry_in (table xs operators lines) v o ≡ entry lines x o
entry_is xs operators lines v o x l is =
    ap (λ (es : List (Option ℕ)). slice_index_or es o None) (row_at (row operators lines) xs v x is)
    ∙ entry_at (entry lines x) 0 operators o l ∙ ap (entry lines x) (let z : 0 + o ≡ o = omega arith in z)

stand_beside : (xs : List Vertex) (operators : ℕ) (lines : List DurationLine) → StandBeside (table xs operators lines)
stand_beside xs operators lines v u o h l may =
    let r = half_there xs v u h in
    ap is_some (entry_is xs operators lines v o r.0 l r.1)
    ∙ ap (λ (b : Bool). is_some (cond b (ticks_of lines r.0.def o) (Some 0))) (untimed r.0 u r.2)

pub is_table : (xs : List Vertex) (operators : ℕ) (lines : List DurationLine) → AreDurations operators lines → 1 ≤ operators → missing lines xs ≡ None → IsTable (table xs operators lines)
is_table xs operators lines known any none = record {
  rows = rows_valid operators lines xs known any none;
  halves = length-map xs get_half_of ∙ sym (length-map xs (row operators lines));
  beside = stand_beside xs operators lines;
}

pub is_of : (g : Graph) (a : Architecture) (lines : List DurationLine) → IsOf g a (table g.vertices (length a.operators) lines)
is_of g a lines = record { operations = length-map g.vertices (row (length a.operators) lines); operators = refl; halves = refl }

pub durations_fit : DurationsFit
durations_fit g d t is = by (missing d.durations g.vertices) is
  where
    by : (o : Option Bytes) → unless_missing o (table g.vertices (length d.archi.operators) d.durations) ≡ Ok t → IsOf g d.archi t × StandBeside t
    by None e =
        let same : table g.vertices (length d.archi.operators) d.durations ≡ t = cc in
        (subst (IsOf g d.archi) same (is_of g d.archi d.durations), subst StandBeside same (stand_beside g.vertices (length d.archi.operators) d.durations))
    by (Some def) e = cc
