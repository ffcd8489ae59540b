-- The text of lines, part by part.
use Rattle.std.proofs.Common.{◌≡◌, ℕ, suc, ◌+◌, ◌<◌, Bool, true, false, cond, nat_eq, List, [], ◌∷◌, ◌++◌, map, length, drop, get_or, refl, sym, ap, arith, ◌∙◌, drop-cons}
use Rattle.std.specs.List.{filter}
use Rattle.std.proofs.lemmas.Bool.{eq-eqb, ne_eqb}
use Rattle.std.proofs.lemmas.List.{append_assoc}
use Rattle.std.proofs.lemmas.List.Elements.{filter-append}
use Rattle.schedule.specs.declared.Vertex.{Vertex}
use Rattle.schedule.specs.declared.decision.Transfer.{Transfer}
use Rattle.schedule.specs.declared.decision.Decision.{Decision}
use Rattle.schedule.specs.Acts.{Act, carry, run, acts_of, is_on, is_over}
use Rattle.syn_base.specs.Bytes.{Bytes}
use Rattle.timing_chart.specs.Chart.{Line, line_text, text_of, act_line}

pub text-append : (xs ys : List Line) → text_of (xs ++ ys) ≡ text_of xs ++ text_of ys
text-append [] ys = refl
text-append (x ∷ xs) ys = ap (λ (l : Bytes). line_text x ++ l) (text-append xs ys) ∙ sym (append_assoc (line_text x) (text_of xs) (text_of ys))

no_runs : (o : ℕ) (ts : List Transfer) → filter (is_on o) (map carry ts) ≡ []
no_runs o [] = refl
no_runs o (t ∷ ts) = no_runs o ts

module _ (vertices : List Vertex) (operators : List Bytes) where
  abbrev pub acts_text : List Act → Bytes
  acts_text xs = text_of (map (act_line vertices operators) xs)

  map-append : (xs ys : List Act) → map (act_line vertices operators) (xs ++ ys) ≡ map (act_line vertices operators) xs ++ map (act_line vertices operators) ys
  map-append [] ys = refl
  map-append (x ∷ xs) ys = ap (λ (l : List Line). act_line vertices operators x ∷ l) (map-append xs ys)

  pub acts-append : (xs ys : List Act) → acts_text (xs ++ ys) ≡ acts_text xs ++ acts_text ys
  acts-append xs ys = ap text_of (map-append xs ys) ∙ text-append (map (act_line vertices operators) xs) (map (act_line vertices operators) ys)

  -- a decision's line stands in its operator's part
  pub on_step : (o : ℕ) (ds : List Decision) (i : ℕ) (d : Decision) → i < length ds → d ≡ get_or ds i d
      → acts_text (filter (is_on o) (acts_of (drop i ds))) ≡ cond (nat_eq d.operator o) (line_text (act_line vertices operators (run d))) [] ++ acts_text (filter (is_on o) (acts_of (drop (i + 1) ds)))
  on_step o ds i d h is =
      let one : suc i ≡ i + 1 = omega arith in
      let e : drop i ds ≡ d ∷ drop (i + 1) ds = drop-cons ds i d h ∙ (λ j. sym is j ∷ drop (one j) ds) in
      ap (λ (l : List Decision). acts_text (filter (is_on o) (acts_of l))) e
      ∙ ap acts_text (filter-append (is_on o) (map carry d.transfers) (run d ∷ acts_of (drop (i + 1) ds)))
      ∙ ap (λ (l : List Act). acts_text (l ++ filter (is_on o) (run d ∷ acts_of (drop (i + 1) ds)))) (no_runs o d.transfers)
      ∙ by (nat_eq d.operator o) (filter (is_on o) (acts_of (drop (i + 1) ds)))
    where
      by : (b : Bool) (rest : List Act) → acts_text (cond b (run d ∷ rest) rest) ≡ cond b (line_text (act_line vertices operators (run d))) [] ++ acts_text rest
      by true rest = refl
      by false rest = refl

  pub on_here : (o : ℕ) (ds : List Decision) (i : ℕ) (d : Decision) → i < length ds → d ≡ get_or ds i d → d.operator ≡ o
      → acts_text (filter (is_on o) (acts_of (drop i ds))) ≡ line_text (act_line vertices operators (run d)) ++ acts_text (filter (is_on o) (acts_of (drop (i + 1) ds)))
  on_here o ds i d h is same = on_step o ds i d h is
      ∙ (λ j. cond (eq-eqb d.operator o same j) (line_text (act_line vertices operators (run d))) []
      ++ acts_text (filter (is_on o) (acts_of (drop (i + 1) ds))))

  pub on_past : (o : ℕ) (ds : List Decision) (i : ℕ) (d : Decision) → i < length ds → d ≡ get_or ds i d → (d.operator ≡ o → ⊥)
      → acts_text (filter (is_on o) (acts_of (drop i ds))) ≡ acts_text (filter (is_on o) (acts_of (drop (i + 1) ds)))
  on_past o ds i d h is other = on_step o ds i d h is
      ∙ (λ j. cond (ne_eqb d.operator o other j) (line_text (act_line vertices operators (run d))) []
      ++ acts_text (filter (is_on o) (acts_of (drop (i + 1) ds))))

  -- so do the lines of its transfers in the parts of their media
  pub over_step : (m : ℕ) (ds : List Decision) (i : ℕ) (d : Decision) → i < length ds → d ≡ get_or ds i d
      → acts_text (filter (is_over m) (acts_of (drop i ds))) ≡ acts_text (filter (is_over m) (map carry d.transfers)) ++ acts_text (filter (is_over m) (acts_of (drop (i + 1) ds)))
  over_step m ds i d h is =
      let one : suc i ≡ i + 1 = omega arith in
      let e : drop i ds ≡ d ∷ drop (i + 1) ds = drop-cons ds i d h ∙ (λ j. sym is j ∷ drop (one j) ds) in
      ap (λ (l : List Decision). acts_text (filter (is_over m) (acts_of l))) e
      ∙ ap acts_text (filter-append (is_over m) (map carry d.transfers) (run d ∷ acts_of (drop (i + 1) ds)))
      ∙ acts-append (filter (is_over m) (map carry d.transfers)) (filter (is_over m) (acts_of (drop (i + 1) ds)))
