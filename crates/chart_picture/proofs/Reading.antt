-- Who reads what a transfer brings, and the arrows there, part by part.
use Rattle.std.proofs.Common.{◌≡◌, ℕ, suc, ◌+◌, ◌<◌, Bool, true, false, ◌||◌, cond, List, [], ◌∷◌, ◌++◌, map, length, drop, get_or, refl, sym, ap, arith, ◌∙◌, drop-cons}
use Rattle.std.specs.Prelude.{slice_get, Some}
use Rattle.std.specs.List.{filter, flat_map, list_any}
use Rattle.std.proofs.lemmas.List.{append_assoc, append-nil, map-append}
use Rattle.std.proofs.lemmas.List.Concat.{flat_map-append}
use Rattle.std.proofs.lemmas.List.Elements.{filter-append}
use Rattle.std.proofs.lemmas.List.Folds.{list_any-append}
use Rattle.syn_base.specs.Bytes.{Bytes}
use Rattle.self_timed.specs.declared.Vertex.{Vertex}
use Rattle.self_timed.specs.declared.Source.{Source}
use Rattle.self_timed.specs.declared.Transfer.{Transfer}
use Rattle.self_timed.specs.declared.Decision.{Decision}
use Rattle.self_timed.specs.Acts.{Act, carry, run, acts_of, Copy, copy, sources_of}
use Rattle.svg_text.specs.declared.scale.Scale.{Scale}
use Rattle.chart_picture.specs.Arrows.{act_link, brings, links_from, links_to, takes}
use Rattle.chart_picture.specs.Truth.{WhoTakesReads}

or_false : (b : Bool) → (b || false) ≡ b
or_false true = refl
or_false false = refl

-- a transfer makes one copy
any_made : (t : Transfer) (cs : List Copy) → list_any (λ c. brings t c || false) cs ≡ list_any (brings t) cs
any_made t [] = refl
any_made t (c ∷ cs) = λ j. or_false (brings t c) j || any_made t cs j

pub who_takes_reads : WhoTakesReads
who_takes_reads vertices t (carry r) = sym (any_made t (copy r.from r.source ∷ []) ∙ or_false (brings t (copy r.from r.source)))
who_takes_reads vertices t (run d) = sym (any_made t (map (copy d.operator) (sources_of (slice_get vertices d.op))))

-- guards first, and then inputs
pub takes_both : (x : Vertex) (o : ℕ) (t : Transfer)
    → list_any (brings t) (map (copy o) (sources_of (Some x)))
    ≡ (list_any (brings t) (map (copy o) (map (λ d. d.source) x.guards)) || list_any (brings t) (map (copy o) x.ins))
takes_both x o t =
    ap (list_any (brings t)) (map-append (copy o) (map (λ d. d.source) x.guards) x.ins)
    ∙ list_any-append (brings t) (map (copy o) (map (λ d. d.source) x.guards)) (map (copy o) x.ins)

module _ (vertices : List Vertex) (operators : ℕ) (scale : Scale) where
  pub links-append : (t : Transfer) (xs ys : List Act) → links_to vertices operators scale t (xs ++ ys) ≡ links_to vertices operators scale t xs ++ links_to vertices operators scale t ys
  links-append t xs ys =
      ap (flat_map (act_link vertices operators scale (carry t))) (filter-append (takes vertices t) xs ys)
      ∙ flat_map-append (act_link vertices operators scale (carry t)) (filter (takes vertices t) xs) (filter (takes vertices t) ys)

  -- an operation that takes what the transfer brings, and one that does not
  pub reader_there : (t : Transfer) (d : Decision) → takes vertices t (run d) ≡ true → links_to vertices operators scale t (run d ∷ []) ≡ act_link vertices operators scale (carry t) (run d)
  reader_there t d e = ap (λ (b : Bool). flat_map (act_link vertices operators scale (carry t)) (cond b (run d ∷ []) [])) e ∙ append-nil (act_link vertices operators scale (carry t) (run d))

  pub reader_past : (t : Transfer) (d : Decision) → takes vertices t (run d) ≡ false → links_to vertices operators scale t (run d ∷ []) ≡ []
  reader_past t d e = ap (λ (b : Bool). flat_map (act_link vertices operators scale (carry t)) (cond b (run d ∷ []) [])) e

  -- one decision more: its transfers, and then its operation
  pub readers_step : (y : Transfer) (ds : List Decision) (i : ℕ) (d : Decision) → i < length ds → d ≡ get_or ds i d
      → links_to vertices operators scale y (acts_of (drop i ds))
      ≡ links_to vertices operators scale y (map carry d.transfers) ++ (links_to vertices operators scale y (run d ∷ []) ++ links_to vertices operators scale y (acts_of (drop (i + 1) ds)))
  readers_step y ds i d h is =
      let one : suc i ≡ i + 1 = omega arith in
      let e : drop i ds ≡ d ∷ drop (i + 1) ds = drop-cons ds i d h ∙ (λ j. sym is j ∷ drop (one j) ds) in
      ap (λ (l : List Decision). links_to vertices operators scale y (acts_of l)) e
      ∙ links-append y (map carry d.transfers) (run d ∷ acts_of (drop (i + 1) ds))
      ∙ ap (λ (l : Bytes). links_to vertices operators scale y (map carry d.transfers) ++ l) (links-append y (run d ∷ []) (acts_of (drop (i + 1) ds)))

  -- one decision more from which arrows go: those of its transfers
  pub sources_step : (all : List Act) (ds : List Decision) (i : ℕ) (d : Decision) → i < length ds → d ≡ get_or ds i d
      → flat_map (links_from vertices operators scale all) (acts_of (drop i ds))
      ≡ flat_map (links_from vertices operators scale all) (map carry d.transfers) ++ flat_map (links_from vertices operators scale all) (acts_of (drop (i + 1) ds))
  sources_step all ds i d h is =
      let one : suc i ≡ i + 1 = omega arith in
      let e : drop i ds ≡ d ∷ drop (i + 1) ds = drop-cons ds i d h ∙ (λ j. sym is j ∷ drop (one j) ds) in
      ap (λ (l : List Decision). flat_map (links_from vertices operators scale all) (acts_of l)) e
      ∙ flat_map-append (links_from vertices operators scale all) (map carry d.transfers) (run d ∷ acts_of (drop (i + 1) ds))
