-- The last acts of lines, as one step more is noted: no number is above that of the steps.
use Rattle.std.proofs.Common.{◌≡◌, ℕ, suc, ◌+◌, ◌<◌, ◌≤◌, List, [], ◌∷◌, ◌++◌, drop, length, sym, ap, ap₂, inl, inr, arith, ◌∙◌, append_assoc, drop-cons}
use Rattle.std.specs.Prelude.{slice_index_or, slice_set}
use Rattle.std.proofs.lemmas.Bool.{cases_eq}
use Rattle.std.proofs.lemmas.List.{get_or-set_same, get_or-set_other}
use Rattle.self_timed.specs.declared.layout.Step.{Step}
use Rattle.self_timed.specs.declared.line.Line.{Line}
use Rattle.self_timed.specs.declared.line.Line.TheVariants.{Operator, Medium}
use Rattle.self_timed.specs.declared.line.Ends.{Ends}
use Rattle.self_timed.specs.Lines.{AreStarted, IsLine, last_in, noted}
use Rattle.self_timed.specs.Running.{AreSized}
use Rattle.self_timed.proofs.Lining.{tables_kept}
use Rattle.rates.specs.declared.table.Arc.{Arc}
use Rattle.schedule_rate.specs.Filling.{AreLined, AreLow, full_row, lasts, line_arc, readers_at, rows_from}

pub low_at_start : (ends : Ends) → AreStarted ends → AreLow 0 ends
low_at_start ends s = record { tables = s.tables; low = λ line. (let z = s.none line in omega arith) }

entry_low : (es : List ℕ) (k n date bound : ℕ) → k < length es → date ≤ bound → slice_index_or es n 0 ≤ bound → slice_index_or (slice_set es k date) n 0 ≤ bound
entry_low es k n date bound l d h = elim (cases_eq n k) [
  | inl e ↦ (let z = get_or-set_same es k date 0 l in let same : slice_index_or (slice_set es k date) n 0 ≡ slice_index_or (slice_set es k date) k 0 = (λ i. slice_index_or (slice_set es k date) (e i) 0) in omega arith)
  | inr o ↦ (let z = get_or-set_other es k n date 0 o in omega arith)
]

-- after one more act in a line
pub low_more : (n m : ℕ) (ends : Ends) (line : Line) (date : ℕ) → IsLine line → date ≤ m → n ≤ m → AreLow n ends → AreLow m (noted ends line date)
low_more n m ends line date l d up a = record { tables = tables_kept ends line date a.tables; low = λ other. by line other l (a.low other) }
  where
    by : (line other : Line) → IsLine line → last_in ends other ≤ n → last_in (noted ends line date) other ≤ m
    by (Operator o) (Operator p) l h = entry_low ends.operators o p date m (let z = a.tables.operators in omega arith) d (omega arith)
    by (Medium o) (Medium p) l h = entry_low ends.media o p date m (let z = a.tables.media in omega arith) d (omega arith)
    by (Operator o) (Medium p) l h = omega arith
    by (Medium o) (Operator p) l h = omega arith

pub low_up : (n m : ℕ) (ends : Ends) → n ≤ m → AreLow n ends → AreLow m ends
low_up n m ends up a = record { tables = a.tables; low = λ line. (let z = a.low line in omega arith) }

pub lined_of : (entries : ℕ) (steps : List Step) → AreSized entries steps → AreLined steps
lined_of entries steps s k d l = (s k d l).line

-- the steps that are left begin with the next one
pub split : (steps : List Step) (n : ℕ) (st : Step) → st ≡ slice_index_or steps n st → n < length steps → drop n steps ≡ st ∷ drop (n + 1) steps
split steps n st is l = drop-cons steps n st l ∙ ap₂ (λ (s : Step) (m : ℕ). s ∷ drop m steps) (sym is) (let z : suc n ≡ n + 1 = omega arith in z)

pub lasts_more : (steps : List Step) (n : ℕ) (st : Step) → st ≡ slice_index_or steps n st → n < length steps → (ends after all : Ends) → after ≡ noted ends st.line (n + 1) → lasts ends n (drop n steps) ≡ all
    → lasts after (n + 1) (drop (n + 1) steps) ≡ all
lasts_more steps n st is l ends after all next h =
    ap (λ (e : Ends). lasts e (n + 1) (drop (n + 1) steps)) next ∙ (ap (λ (sts : List Step). lasts ends n sts) (sym (split steps n st is l)) ∙ h)

module _ (depth : ℕ) (acts : List ℕ) (readers : List (List ℕ)) (last : Ends) where
  pub rows_more : (steps : List Step) (n : ℕ) (st : Step) → st ≡ slice_index_or steps n st → n < length steps → (before after : Ends) → after ≡ noted before st.line (n + 1)
      → (rows more all : List (List Arc)) (row : List Arc) → row ≡ full_row depth acts (line_arc before last st.line) st.sources (readers_at readers n) → more ≡ rows ++ row ∷ []
      → rows ++ rows_from depth acts readers last before n (drop n steps) ≡ all → more ++ rows_from depth acts readers last after (n + 1) (drop (n + 1) steps) ≡ all
  rows_more steps n st is l before after next rows more all row right pushed h =
      ap₂ (λ (m : List (List Arc)) (e : Ends). m ++ rows_from depth acts readers last e (n + 1) (drop (n + 1) steps)) pushed next
      ∙ append_assoc rows (row ∷ []) (rows_from depth acts readers last (noted before st.line (n + 1)) (n + 1) (drop (n + 1) steps))
      ∙ (ap (λ (w : List Arc). rows ++ w ∷ rows_from depth acts readers last (noted before st.line (n + 1)) (n + 1) (drop (n + 1) steps)) right
      ∙ (ap (λ (sts : List Step). rows ++ rows_from depth acts readers last before n sts) (sym (split steps n st is l)) ∙ h))
