-- The bars of acts, part by part.
use Rattle.std.proofs.Common.{◌≡◌, ℕ, suc, ◌+◌, ◌<◌, Bool, true, false, cond, nat_eq, List, [], ◌∷◌, ◌++◌, map, length, drop, get_or, refl, sym, ap, arith, ◌∙◌, drop-cons}
use Rattle.std.specs.Prelude.{codes}
use Rattle.std.specs.List.{filter, flat_map}
use Rattle.std.proofs.lemmas.Bool.{eq-eqb, ne_eqb}
use Rattle.std.proofs.lemmas.List.{append_assoc}
use Rattle.std.proofs.lemmas.List.Elements.{filter-append}
use Rattle.syn_base.specs.Bytes.{Bytes}
use Rattle.self_timed.specs.Graph.{Graph}
use Rattle.self_timed.specs.Archi.{Architecture}
use Rattle.self_timed.specs.declared.Transfer.{Transfer}
use Rattle.self_timed.specs.declared.Decision.{Decision}
use Rattle.self_timed.specs.Acts.{Act, carry, run, acts_of, is_on, is_over}
use Rattle.self_timed.specs.declared.Medium.{Medium}
use Rattle.svg_text.specs.declared.scale.Scale.{Scale}
use Rattle.chart_picture.specs.Bars.{bar_line, bar_of, bars_text}
use Rattle.chart_picture.specs.Picture.{lane_part, medium_lanes, operator_lanes}

no_runs : (o : ℕ) (ts : List Transfer) → filter (is_on o) (map carry ts) ≡ []
no_runs o [] = refl
no_runs o (t ∷ ts) = no_runs o ts

module _ (g : Graph) (a : Architecture) (scale : Scale) where
  -- the bars of all of these
  abbrev pub drawn : List Act → Bytes
  drawn xs = flat_map bar_line (map (bar_of g a scale) xs)

  pub drawn-append : (xs ys : List Act) → drawn (xs ++ ys) ≡ drawn xs ++ drawn ys
  drawn-append [] ys = refl
  drawn-append (x ∷ xs) ys =
      ap (λ (l : Bytes). bar_line (bar_of g a scale x) ++ l) (drawn-append xs ys)
      ∙ sym (append_assoc (bar_line (bar_of g a scale x)) (drawn xs) (drawn ys))

  -- the bar of a decision stands in its operator's lane
  pub on_step : (o : ℕ) (ds : List Decision) (i : ℕ) (d : Decision) → i < length ds → d ≡ get_or ds i d
      → bars_text g a scale (is_on o) (acts_of (drop i ds)) ≡ cond (nat_eq d.operator o) (bar_line (bar_of g a scale (run d))) [] ++ bars_text g a scale (is_on o) (acts_of (drop (i + 1) ds))
  on_step o ds i d h is =
      let one : suc i ≡ i + 1 = omega arith in
      let e : drop i ds ≡ d ∷ drop (i + 1) ds = drop-cons ds i d h ∙ (λ j. sym is j ∷ drop (one j) ds) in
      ap (λ (l : List Decision). drawn (filter (is_on o) (acts_of l))) e
      ∙ ap drawn (filter-append (is_on o) (map carry d.transfers) (run d ∷ acts_of (drop (i + 1) ds)))
      ∙ ap (λ (l : List Act). drawn (l ++ filter (is_on o) (run d ∷ acts_of (drop (i + 1) ds)))) (no_runs o d.transfers)
      ∙ by (nat_eq d.operator o) (filter (is_on o) (acts_of (drop (i + 1) ds)))
    where
      by : (b : Bool) (rest : List Act) → drawn (cond b (run d ∷ rest) rest) ≡ cond b (bar_line (bar_of g a scale (run d))) [] ++ drawn rest
      by true rest = refl
      by false rest = refl

  pub on_here : (o : ℕ) (ds : List Decision) (i : ℕ) (d : Decision) → i < length ds → d ≡ get_or ds i d → d.operator ≡ o
      → bars_text g a scale (is_on o) (acts_of (drop i ds)) ≡ bar_line (bar_of g a scale (run d)) ++ bars_text g a scale (is_on o) (acts_of (drop (i + 1) ds))
  on_here o ds i d h is same = on_step o ds i d h is ∙ (λ j. cond (eq-eqb d.operator o same j) (bar_line (bar_of g a scale (run d))) [] ++ bars_text g a scale (is_on o) (acts_of (drop (i + 1) ds)))

  pub on_past : (o : ℕ) (ds : List Decision) (i : ℕ) (d : Decision) → i < length ds → d ≡ get_or ds i d → (d.operator ≡ o → ⊥)
      → bars_text g a scale (is_on o) (acts_of (drop i ds)) ≡ bars_text g a scale (is_on o) (acts_of (drop (i + 1) ds))
  on_past o ds i d h is other = on_step o ds i d h is ∙ (λ j. cond (ne_eqb d.operator o other j) (bar_line (bar_of g a scale (run d))) [] ++ bars_text g a scale (is_on o) (acts_of (drop (i + 1) ds)))

  -- so do the bars of its transfers in the lanes of their media
  pub over_step : (m : ℕ) (ds : List Decision) (i : ℕ) (d : Decision) → i < length ds → d ≡ get_or ds i d
      → bars_text g a scale (is_over m) (acts_of (drop i ds)) ≡ bars_text g a scale (is_over m) (map carry d.transfers) ++ bars_text g a scale (is_over m) (acts_of (drop (i + 1) ds))
  over_step m ds i d h is =
      let one : suc i ≡ i + 1 = omega arith in
      let e : drop i ds ≡ d ∷ drop (i + 1) ds = drop-cons ds i d h ∙ (λ j. sym is j ∷ drop (one j) ds) in
      ap (λ (l : List Decision). drawn (filter (is_over m) (acts_of l))) e
      ∙ ap drawn (filter-append (is_over m) (map carry d.transfers) (run d ∷ acts_of (drop (i + 1) ds)))
      ∙ drawn-append (filter (is_over m) (map carry d.transfers)) (filter (is_over m) (acts_of (drop (i + 1) ds)))

  -- one lane more
  pub operator_step : (xs : List Act) (names : List Bytes) (i : ℕ) (name : Bytes) → i < length names → name ≡ get_or names i name
      → operator_lanes g a scale xs i (drop i names) ≡ lane_part g a scale (codes "lane") (codes "operator-") name i (is_on i) xs ++ operator_lanes g a scale xs (i + 1) (drop (i + 1) names)
  operator_step xs names i name h is =
      let one : suc i ≡ i + 1 = omega arith in
      ap (λ (l : List Bytes). operator_lanes g a scale xs i l) (drop-cons names i name h)
      ∙ (λ j. lane_part g a scale (codes "lane") (codes "operator-") (sym is j) i (is_on i) xs ++ operator_lanes g a scale xs (one j) (drop (one j) names))

  pub medium_step : (xs : List Act) (media : List Medium) (i : ℕ) (x : Medium) → i < length media → x ≡ get_or media i x
      → medium_lanes g a scale xs i (drop i media)
      ≡ lane_part g a scale (codes "medium") (codes "medium-") x.name (length a.operators + i) (is_over i) xs
      ++ medium_lanes g a scale xs (i + 1) (drop (i + 1) media)
  medium_step xs media i x h is =
      let one : suc i ≡ i + 1 = omega arith in
      ap (λ (l : List Medium). medium_lanes g a scale xs i l) (drop-cons media i x h)
      ∙ (λ j. lane_part g a scale (codes "medium") (codes "medium-") (sym is j).name (length a.operators + i) (is_over i) xs ++ medium_lanes g a scale xs (one j) (drop (one j) media))
