-- Unrolling keeps the operations of a tree.
use Rattle.std.proofs.Common.{◌≡◌, ℕ, suc, ◌+◌, ◌<◌, ℤ, List, [], ◌∷◌, ◌++◌, map, append-nil, replicate, slice_index_or, refl, sym, ap, ap₂, subst, ◌∙◌}
use mathlib.Core.Path.{fun_ext}
use Rattle.std.specs.List.{flat_map}
use Rattle.algo_tree.specs.declared.Source.{Source}
use Rattle.algo_tree.specs.declared.Source.TheVariants.{Own, Of}
use Rattle.algo_tree.specs.declared.Part.TheVariants.{Numbered}
use Rattle.algo_tree.specs.declared.Feed.{Feed}
use Rattle.algo_tree.specs.declared.Feed.TheVariants.{Fork, Diffuse, Iterate}
use Rattle.algo_tree.specs.declared.Give.{Give}
use Rattle.algo_tree.specs.declared.Give.TheVariants.{Last, Join}
use Rattle.algo_tree.specs.Level.{Path}
use Rattle.algo_tree.specs.Order.{IsAcyclic}
use Rattle.algo_tree.specs.Tree.{Label, Kind, sensor, actuator, constant, delay, function, explode, implode, merge, graph, switch, repeat, Vertex, vertex, Vertices, no_vertices, and_vertex}
use Rattle.algo_tree.specs.Meaning.{asked_by, nodes}
use Rattle.algo_tree.specs.Typed.{label_of}
use Rattle.algo_tree.specs.View.{vertices_of}
use Rattle.algo_tree.specs.Valid.{IsTree}
use Rattle.algo_tree.specs.Well.{IsOne, IsWell, AllWell}
use Rattle.flat_laws.specs.Lines.{in_line_order}
use Rattle.flat_laws.specs.Unrolled.{explodes, copy as copy_vertex, implodes, begin, give_sources, unrolled_at, unroll, unroll_all}
use Rattle.flat_laws.proofs.Labels.{label-unroll}
use Rattle.flat_laws.proofs.Unroll.{IsRepeatable, can_unroll, repeatable-unrolled, nodes-unrolled}
use Rattle.flat_laws.proofs.Unrolled.{level_acyclic}
use Rattle.flat_laws.specs.Flat.{runs}
use Rattle.flat_laws.specs.Origins.{Origin, origin_at, inside, port, Outlet, origin_in, case_origin, copy_inputs, copy_output, leads_by, outlet, outlets, body_leads}
use Rattle.flat_laws.specs.Table.{Condition, Row, row, Inside, explode_rows, implode_rows, rows_by, conditions_of, unit_rows, graph_rows, case_rows, copy_rows, table}
use Rattle.flat_laws.proofs.Lists.{flat-below}
use Rattle.flat_laws.proofs.Rows.{vertex_rows, rows-append}
use Rattle.flat_laws.proofs.Copies.{body, level, look, inputs-lead, level-leads, outputs-lead, joined-lead}
use Rattle.syn_base.specs.Numbers.{numbers_below}

-- what is said of a unit of this kind, with these vertices inside
abbrev outlet_by : Path → Label → Kind → Vertices → Outlet
outlet_by p l k us = record { asked = asked_by k l.ins; leads = leads_by p k (outlets p us) (λ i. body_leads (inside p (Numbered i)) us) }

abbrev inside_by : Path → List Condition → Vertices → Inside
inside_by p cs us = record {
  units = outlets p us;
  body = λ n. body_leads (inside p (Numbered n)) us;
  level = λ lead. graph_rows p cs lead us;
  cases = λ ins values. case_rows p cs ins values 0 us;
  copy = λ n ins. copy_rows (inside p (Numbered n)) cs ins us;
}

abbrev rows_at : Path → List Condition → List Origin → Label → Kind → Vertices → List Row
rows_at p cs own l k us = rows_by p cs l.definition own l.outs k (inside_by p cs us)

-- the graph that a repetition becomes has no cycle
acyclic-level : (p : Path) (d : List ℕ) (n : ℕ) (feeds : List Feed) (gives : List Give) (lens : List ℕ) (lb : Label) (vs : Vertices)
    (own : List Origin) → IsAcyclic (nodes (level p d n feeds gives lens lb vs own))
acyclic-level p d n feeds gives lens lb vs own = subst IsAcyclic (sym (nodes-unrolled d n feeds gives lens lb vs)) (level_acyclic d n feeds gives lens lb vs)

-- a repetition and its graph lead to the same
outlet-repeat : (p : Path) (l : Label) (n : ℕ) (feeds : List Feed) (gives : List Give) (us : Vertices) → 0 < n → IsOne us
    → outlet p (unrolled_at l (repeat n feeds gives) us) ≡ outlet_by p l (repeat n feeds gives) us
outlet-repeat p l n feeds gives no_vertices some one = absurd one
outlet-repeat p l n feeds gives (and_vertex u (and_vertex v us)) some one = absurd one
outlet-repeat p l n feeds gives (and_vertex (vertex lb vs) no_vertices) some one =
    let c = begin feeds in
    ap (λ (f : List Origin → ℕ → Origin). record { asked = l.ins; leads = f }) (fun_ext (λ own. fun_ext (λ q. ap (λ os. origin_at os q) (
    ap (λ (f : Source → Origin). map f (give_sources c n 0 gives)) (level-leads p l.definition n feeds gives l.outs lb vs own (acyclic-level p l.definition n feeds gives l.outs lb vs own))
    ∙ outputs-lead p l.definition n feeds gives l.outs lb vs own some))))

outlet-at : (p : Path) (l : Label) (k : Kind) (us : Vertices) → IsRepeatable k us → outlet p (unrolled_at l k us) ≡ outlet_by p l k us
outlet-at p l (repeat n feeds gives) us h = outlet-repeat p l n feeds gives us h.0.0 h.0.1
outlet-at p l (sensor m) us h = refl
outlet-at p l (actuator m) us h = refl
outlet-at p l (constant v) us h = refl
outlet-at p l (delay v) us h = refl
outlet-at p l (function es) us h = refl
outlet-at p l explode us h = refl
outlet-at p l implode us h = refl
outlet-at p l (merge values) us h = refl
outlet-at p l (graph sources) us h = refl
outlet-at p l (switch values names) us h = refl

-- the part of a vertex stays
part-unroll : (u : Vertex) → (label_of (unroll u)).part ≡ (label_of u).part
part-unroll u = ap (λ l. l.part) (label-unroll u)

mutual
  outlet-unroll : (p : Path) (u : Vertex) → IsWell u → outlet p (unroll u) ≡ outlet p u
  outlet-unroll p (vertex l us) h =
      outlet-at p l l.kind (unroll_all us) (repeatable-unrolled l.kind us (can_unroll l.kind l.guards us h.0))
      ∙ ap₂ (λ (xs : List Outlet) (b : ℕ → List Origin → ℕ → Origin). record { asked = asked_by l.kind l.ins; leads = leads_by p l.kind xs b }) (outlets-unroll p us h.1)
      (fun_ext (λ i. body-unroll (inside p (Numbered i)) us h.1))

  outlets-unroll : (p : Path) (us : Vertices) → AllWell us → outlets p (unroll_all us) ≡ outlets p us
  outlets-unroll p no_vertices h = refl
  outlets-unroll p (and_vertex u us) h =
      ap₂ (λ x xs. x ∷ xs) (ap (λ q. outlet (inside p q) (unroll u)) (part-unroll u) ∙ outlet-unroll (inside p (label_of u).part) u h.0) (outlets-unroll p us h.1)

  body-unroll : (p : Path) (us : Vertices) → AllWell us → body_leads p (unroll_all us) ≡ body_leads p us
  body-unroll p no_vertices h = refl
  body-unroll p (and_vertex u us) h = ap (λ (x : Outlet). x.leads) (outlet-unroll p u h.0)

rows-explodes : (p : Path) (cs : List Condition) (lead : Source → Origin) (own : List Origin) → ((k : ℕ) → lead (Own k) ≡ origin_at own k) → (d : List ℕ) (n : ℕ) (fs : List Feed)
    → graph_rows p cs lead (vertices_of (explodes d n fs)) ≡ explode_rows p cs d own n fs
rows-explodes p cs lead own fed d n [] = refl
rows-explodes p cs lead own fed d n (Fork name k len ∷ fs) =
    ap₂ (λ x rs. x ∷ rs) (ap₂ (λ o c. row (port p name) d (o ∷ []) c (replicate n len) (runs explode)) (fed k) (append-nil cs)) (rows-explodes p cs lead own fed d n fs)
rows-explodes p cs lead own fed d n (Diffuse k ∷ fs) = rows-explodes p cs lead own fed d n fs
rows-explodes p cs lead own fed d n (Iterate k y ∷ fs) = rows-explodes p cs lead own fed d n fs

rows-implodes : (p : Path) (cs : List Condition) (lead : Source → Origin) (c n : ℕ) (copies : ℕ → List Origin)
    → ((y : ℕ) → map lead (map (λ i. Of (c + i) y) (numbers_below n)) ≡ copies y) → (d : List ℕ) (outs : List ℕ) (j : ℕ) (gs : List Give)
    → graph_rows p cs lead (vertices_of (implodes d c n outs j gs)) ≡ implode_rows p cs d copies outs j gs
rows-implodes p cs lead c n copies fed d outs j [] = refl
rows-implodes p cs lead c n copies fed d outs j (Join name y ∷ gs) =
    ap₂ (λ x rs. x ∷ rs) (ap₂ (λ os x. row (port p name) d os x (slice_index_or outs j 0 ∷ []) (runs implode)) (fed y) (append-nil cs)) (rows-implodes p cs lead c n copies fed d outs (suc j) gs)
rows-implodes p cs lead c n copies fed d outs j (Last y ∷ gs) = rows-implodes p cs lead c n copies fed d outs (suc j) gs

rows-of : (p : Path) (cs : List Condition) (lead : Source → Origin) (make : ℕ → Vertex) (is : List ℕ)
    → graph_rows p cs lead (vertices_of (map make is)) ≡ flat_map (λ i. vertex_rows p cs lead (make i)) is
rows-of p cs lead make [] = refl
rows-of p cs lead make (i ∷ is) = ap (λ rs. vertex_rows p cs lead (make i) ++ rs) (rows-of p cs lead make is)

rows-repeat : (p : Path) (cs : List Condition) (own : List Origin) (l : Label) (n : ℕ) (feeds : List Feed) (gives : List Give) (us : Vertices) → IsOne us
    → unit_rows p cs own (unrolled_at l (repeat n feeds gives) us) ≡ rows_at p cs own l (repeat n feeds gives) us
rows-repeat p cs own l n feeds gives no_vertices one = absurd one
rows-repeat p cs own l n feeds gives (and_vertex u (and_vertex v us)) one = absurd one
rows-repeat p cs own l n feeds gives (and_vertex (vertex lb vs) no_vertices) one =
    let d = l.definition in
    let c = begin feeds in
    let S = in_line_order feeds in
    let W = look p d n feeds gives l.outs lb vs own in
    let B = body p d n feeds gives l.outs lb vs own in
    let es = explodes d n S in
    let ks = map (copy_vertex c feeds lb vs) (numbers_below n) in
    let js = implodes d c n l.outs 0 gives in
    let each : (i : ℕ) → i < n → vertex_rows p cs W (copy_vertex c feeds lb vs i) ≡ unit_rows (inside p (Numbered i)) cs (copy_inputs p feeds B own i) (vertex lb vs) =
    λ i lt. ap₂ (λ x o. unit_rows (inside p (Numbered i)) x o (vertex lb vs)) (append-nil cs) (inputs-lead p d n feeds gives l.outs lb vs own i lt) in
    ap (λ (f : Source → Origin). graph_rows p cs f (level p d n feeds gives l.outs lb vs own)) (level-leads p d n feeds gives l.outs lb vs own (acyclic-level p d n feeds gives l.outs lb vs own))
    ∙ rows-append p cs W es (ks ++ js)
    ∙ ap₂ (λ xs ys. xs ++ ys) (rows-explodes p cs W own (λ k. refl) d n S)
    (rows-append p cs W ks js ∙ ap₂ (λ xs ys. xs ++ ys)
    (rows-of p cs W (copy_vertex c feeds lb vs) (numbers_below n)
    ∙ flat-below n (λ i. vertex_rows p cs W (copy_vertex c feeds lb vs i)) (λ i. unit_rows (inside p (Numbered i)) cs (copy_inputs p feeds B own i) (vertex lb vs)) each)
    (rows-implodes p cs W c n (λ y. map (λ i. copy_output p feeds B own i y) (numbers_below n)) (joined-lead p d n feeds gives l.outs lb vs own) d l.outs 0 gives))

rows-at : (p : Path) (cs : List Condition) (own : List Origin) (l : Label) (k : Kind) (us : Vertices) → IsRepeatable k us → unit_rows p cs own (unrolled_at l k us) ≡ rows_at p cs own l k us
rows-at p cs own l (repeat n feeds gives) us h = rows-repeat p cs own l n feeds gives us h.0.1
rows-at p cs own l (sensor m) us h = refl
rows-at p cs own l (actuator m) us h = refl
rows-at p cs own l (constant v) us h = refl
rows-at p cs own l (delay v) us h = refl
rows-at p cs own l (function es) us h = refl
rows-at p cs own l explode us h = refl
rows-at p cs own l implode us h = refl
rows-at p cs own l (merge values) us h = refl
rows-at p cs own l (graph sources) us h = refl
rows-at p cs own l (switch values names) us h = refl

-- two insides that are the same in each field are the same
same-inside : (a b : Inside) → a.units ≡ b.units → a.body ≡ b.body → a.level ≡ b.level → a.cases ≡ b.cases → a.copy ≡ b.copy → a ≡ b
same-inside a b u v w x y i = record { units = u i; body = v i; level = w i; cases = x i; copy = y i }

-- the same part, guards and inputs
moved : (p : Path) (cs : List Condition) (lead : Source → Origin) (u : Vertex)
    → vertex_rows p cs lead (unroll u) ≡ unit_rows (inside p (label_of u).part) (cs ++ conditions_of lead (label_of u)) (map lead (label_of u).ins) (unroll u)
moved p cs lead u = ap (λ (l : Label). unit_rows (inside p l.part) (cs ++ conditions_of lead l) (map lead l.ins) (unroll u)) (label-unroll u)

mutual
  rows-unroll : (p : Path) (cs : List Condition) (own : List Origin) (u : Vertex) → IsWell u → unit_rows p cs own (unroll u) ≡ unit_rows p cs own u
  rows-unroll p cs own (vertex l us) h =
      rows-at p cs own l l.kind (unroll_all us) (repeatable-unrolled l.kind us (can_unroll l.kind l.guards us h.0))
      ∙ ap (rows_by p cs l.definition own l.outs l.kind) (same-inside (inside_by p cs (unroll_all us)) (inside_by p cs us)
      (outlets-unroll p us h.1)
      (fun_ext (λ i. body-unroll (inside p (Numbered i)) us h.1))
      (fun_ext (λ lead. rows-unroll_all p cs lead us h.1))
      (fun_ext (λ ins. fun_ext (λ values. cases-unroll p cs ins values 0 us h.1)))
      (fun_ext (λ i. fun_ext (λ ins. copy-unroll (inside p (Numbered i)) cs ins us h.1))))

  rows-unroll_all : (p : Path) (cs : List Condition) (lead : Source → Origin) (us : Vertices) → AllWell us → graph_rows p cs lead (unroll_all us) ≡ graph_rows p cs lead us
  rows-unroll_all p cs lead no_vertices h = refl
  rows-unroll_all p cs lead (and_vertex u us) h =
      ap₂ (λ xs ys. xs ++ ys) (moved p cs lead u
      ∙ rows-unroll (inside p (label_of u).part) (cs ++ conditions_of lead (label_of u)) (map lead (label_of u).ins) u h.0)
      (rows-unroll_all p cs lead us h.1)

  cases-unroll : (p : Path) (cs : List Condition) (own : List Origin) (values : List ℤ) (c : ℕ) (us : Vertices) → AllWell us
      → case_rows p cs own values c (unroll_all us) ≡ case_rows p cs own values c us
  cases-unroll p cs own values c no_vertices h = refl
  cases-unroll p cs own values c (and_vertex u us) h =
      let more = cs ++ record { source = origin_at own 0; values = values; case = c } ∷ [] in
      ap₂ (λ xs ys. xs ++ ys) (moved p more (case_origin own) u
      ∙ rows-unroll (inside p (label_of u).part) (more ++ conditions_of (case_origin own) (label_of u)) (map (case_origin own) (label_of u).ins) u h.0)
      (cases-unroll p cs own values (suc c) us h.1)

  copy-unroll : (p : Path) (cs : List Condition) (own : List Origin) (us : Vertices) → AllWell us → copy_rows p cs own (unroll_all us) ≡ copy_rows p cs own us
  copy-unroll p cs own no_vertices h = refl
  copy-unroll p cs own (and_vertex u us) h = rows-unroll p cs own u h.0

-- the main graph
in-graph : (l : Label) (k : Kind) (us : Vertices) → k ≡ graph [] → table (unrolled_at l k us) ≡ graph_rows [] [] (origin_in (outlets [] us) []) us
in-graph l k us e = ap (λ x. table (unrolled_at l x us)) e

pub table-unroll : (main : Vertex) → IsTree main → table (unroll main) ≡ table main
table-unroll (vertex l us) h =
    in-graph l l.kind (unroll_all us) h.portless.kind
    ∙ ap (λ (xs : List Outlet). graph_rows [] [] (origin_in xs []) (unroll_all us)) (outlets-unroll [] us h.well.1)
    ∙ rows-unroll_all [] [] (origin_in (outlets [] us) []) us h.well.1
