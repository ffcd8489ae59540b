-- Each repetition of the tree of accepted definitions has the lines of a text.
use Rattle.std.proofs.Common.{◌≡◌, ℕ, zero, suc, ◌+◌, List, [], ◌∷◌, ◌++◌, map, length, Option, Some, None, refl, ap, sym, subst, ◌∙◌}
use Rattle.std.specs.Prelude.{codes, replicate}
use Rattle.std.specs.List.{range_with_len}
use Rattle.syn_base.specs.Bytes.{Bytes}
use Rattle.flat_laws.specs.Flat.{runs}
use Rattle.flat_laws.specs.Lines.{outer_of}
use Rattle.flat_laws.specs.Origins.{Origin, origin_at, port}
use Rattle.flat_laws.specs.Table.{Condition, Row, row, explode_rows}
use Rattle.algo_laws.specs.declared.Port.{Port}
use Rattle.algo_laws.specs.declared.Source.{Source}
use Rattle.algo_laws.specs.declared.Part.{Part}
use Rattle.algo_laws.specs.declared.Part.TheVariants.{Named, Numbered}
use Rattle.algo_laws.specs.declared.Feed.{Feed}
use Rattle.algo_laws.specs.Level.{Path}
use Rattle.algo_laws.specs.Tree as tree
use Rattle.algo_laws.specs.View.{vertices_of}
use Rattle.algo_laws.specs.declared.Def.{Def}
use Rattle.algo_laws.specs.declared.Body.{Body}
use Rattle.algo_laws.specs.declared.Body.TheVariants.{Sensor, Actuator, Constant, Delay, Function, Graph, Switch, Repeat}
use Rattle.algo_laws.specs.declared.Reference.{Reference}
use Rattle.algo_laws.specs.declared.Edge.{Edge}
use Rattle.algo_laws.specs.declared.Frontier.{Frontier}
use Rattle.algo_laws.specs.declared.Frontier.TheVariants.{Fork, Diffuse, Iterate, Join}
use Rattle.algo_laws.specs.declared.FrontierLine.{FrontierLine}
use Rattle.algo_laws.specs.RuleLinks.{definition}
use Rattle.algo_laws.specs.Ports.{ports_of, len_of, number_of}
use Rattle.algo_laws.specs.declared.Ports.{Ports}
use Rattle.algo_laws.specs.Resolved.{Making, vertex_within, vertex_by, references_from, cases_from, owns, kind_by, inner_by, feed_of, sensor_count, actuator_count}
use Rattle.algo_laws.proofs.Standing.{named}
use Rattle.algo_laws.proofs.Refused.{has_none}
use Rattle.algo_laws.proofs.Accepted.{Accepted, accepted, own_ports}
use Rattle.algo_laws.proofs.Frontiers.{repeat_fits}
use Rattle.algo_laws.proofs.Sized.{fine}
use Rattle.accepted_laws.specs.TextLines.{feeds_by, text_feeds, explodes_by, text_explodes, IsOfText, IsKindOfText, IsVertexOfText, AreVerticesOfText, LinesStandInTextOrder}
use Rattle.accepted_laws.proofs.OuterNumbers.{numbers, outer_numbers}
use Rattle.accepted_laws.proofs.Sorted.{lines_sorted}

-- the explodes of the lines of a text
explodes_are : (p : Path) (cs : List Condition) (d : Bytes) (ins : List Origin) (copies : ℕ) (inner own : Ports) (ls : List FrontierLine)
    → explode_rows p cs d ins copies (text_feeds inner own ls) ≡ text_explodes p cs d ins copies inner own ls
explodes_are p cs d ins copies inner own [] = refl
explodes_are p cs d ins copies inner own (l ∷ ls) = by l.frontier (explodes_are p cs d ins copies inner own ls)
  where
    by : (f : Frontier) → explode_rows p cs d ins copies (text_feeds inner own ls) ≡ text_explodes p cs d ins copies inner own ls
        → explode_rows p cs d ins copies (feeds_by inner own f ++ text_feeds inner own ls) ≡ explodes_by p cs d ins copies inner own f ++ text_explodes p cs d ins copies inner own ls
    by (Fork q x) e = ap (λ (rs : List Row). row (port p q) d (origin_at ins (number_of own.ins q) ∷ []) cs (replicate copies (len_of inner.ins x)) (runs tree.explode) ∷ rs) e
    by (Diffuse q x) e = e
    by (Iterate q x y z) e = e
    by (Join y z) e = e

module _ (ds : List Def) (make : Making) where
  abbrev MakesOfText : Type 0
  MakesOfText = (part : Part) (w : Bytes) (ins : List Source) (s a : ℕ) → IsVertexOfText ds (make part w ins s a)

  references_of_text : MakesOfText → (ins : List Port) (all : List Reference) (edges : List Edge) (s a : ℕ) (rs : List Reference)
      → AreVerticesOfText ds (vertices_of (references_from ds make ins all edges s a rs))
  references_of_text h ins all edges s a [] = tt
  references_of_text h ins all edges s a (r ∷ rs) =
      (h (Named r.name) r.def _ s a, references_of_text h ins all edges (s + sensor_count (definition ds r.def)) (a + actuator_count (definition ds r.def)) rs)

  cases_of_text : MakesOfText → (ins c : ℕ) (ws : List Bytes) → AreVerticesOfText ds (vertices_of (cases_from ds make ins c ws))
  cases_of_text h ins c [] = tt
  cases_of_text h ins c (w ∷ ws) = (h (Numbered c) w (owns 1 ins) 0 0, cases_of_text h ins (suc c) ws)

  inner_of_text : MakesOfText → (b : Body) → AreVerticesOfText ds (vertices_of (inner_by ds make b))
  inner_of_text h (Sensor n) = tt
  inner_of_text h (Actuator n) = tt
  inner_of_text h (Constant values) = tt
  inner_of_text h (Delay depth values) = tt
  inner_of_text h (Function ins outs) = tt
  inner_of_text h (Graph ins outs references edges) = references_of_text h ins references edges 0 0 references
  inner_of_text h (Switch on ins outs cases otherwise last) = cases_of_text h (length ins) 0 (map (λ c. c.def) cases ++ otherwise ∷ [])
  inner_of_text h (Repeat copies def lines) = (h (Numbered 0) def _ 0 0, tt)

  -- a repetition, whose ports are those of its lines
  repeat_of_text : Accepted ds → (w : Bytes) (line copies : ℕ) (def : Bytes) (lines : List FrontierLine) → definition ds w ≡ Some (record { name = w; line = line; body = Repeat copies def lines })
      → IsOfText ds w copies (map (λ p. feed_of (ports_of ds def) (ports_of ds w) lines p.name) (ports_of ds def).ins)
  repeat_of_text acc w line copies def lines e =
      let d : Def = record { name = w; line = line; body = Repeat copies def lines } in
      let body : Ports = ports_of ds def in
      let own : Ports = ports_of ds w in
      let low = acc.ranked.lower w d e in
      let numbered = numbers copies body own.ins lines [] (ap (λ (p : Ports). p.ins) (own_ports ds acc.ranked w d e)) (fine ds acc w d e).distinct in
      let sorted = lines_sorted copies body own lines (repeat_fits copies body line lines (acc.passed w d e)) (fine ds acc def low.0.0.0 low.0.0.1).distinct numbered in
      record {
        line = line;
        body = def;
        lines = lines;
        defined = e;
        in_order = sorted;
        numbered = subst (λ (fs : List Feed). map outer_of fs ≡ range_with_len 0 (length fs)) (sym sorted) (outer_numbers body own 0 lines numbered);
        explodes = λ p cs from. ap (explode_rows p cs w from copies) sorted ∙ explodes_are p cs w from copies body own lines;
      }

  kind_of_text : Accepted ds → (w : Bytes) (s a line : ℕ) (b : Body) → definition ds w ≡ Some (record { name = w; line = line; body = b }) → IsKindOfText ds w (kind_by ds make (ports_of ds w) s a b)
  kind_of_text acc w s a line (Sensor n) e = tt
  kind_of_text acc w s a line (Actuator n) e = tt
  kind_of_text acc w s a line (Constant values) e = tt
  kind_of_text acc w s a line (Delay depth values) e = tt
  kind_of_text acc w s a line (Function ins outs) e = tt
  kind_of_text acc w s a line (Graph ins outs references edges) e = tt
  kind_of_text acc w s a line (Switch on ins outs cases otherwise last) e = tt
  kind_of_text acc w s a line (Repeat copies def lines) e = repeat_of_text acc w line copies def lines e

  vertex_of_text : Accepted ds → MakesOfText → (part : Part) (w : Bytes) (ins : List Source) (s a : ℕ) (o : Option Def) → definition ds w ≡ o → IsVertexOfText ds (vertex_by ds make part w ins s a o)
  vertex_of_text acc h part w ins s a None e = (tt, tt)
  vertex_of_text acc h part w ins s a (Some d) e =
      let is : w ≡ d.name = named ds w d e in
      let there : definition ds w ≡ Some (record { name = w; line = d.line; body = d.body }) = e ∙ ap (λ (x : Bytes). Some (record { name = x; line = d.line; body = d.body })) (sym is) in
      (kind_of_text acc w s a d.line d.body there, inner_of_text h d.body)

within_of_text : (ds : List Def) → Accepted ds → (n : ℕ) → MakesOfText ds (vertex_within ds n)
within_of_text ds acc zero part w ins s a = (tt, tt)
within_of_text ds acc (suc n) part w ins s a = vertex_of_text ds (vertex_within ds n) acc (within_of_text ds acc n) part w ins s a (definition ds w) refl

pub stand_in_order : LinesStandInTextOrder
stand_in_order ds read no_refusal = within_of_text ds (accepted ds read (has_none ds no_refusal)) 8 (Named (codes "main")) (codes "main") [] 0 0
