-- The flat list of a tree of graphs and operations has the operations of the tree.
use Rattle.std.proofs.Common.{◌≡◌, ℕ, zero, suc, ◌+◌, List, [], ◌∷◌, ◌++◌, length, get_or, map, Some, slice_get, slice_index_or, refl, sym, ap, ap₂, subst, ◌∙◌, arith, add-zero, zero-add}
use Rattle.std.proofs.lemmas.List.{append_assoc, map-append}
use Rattle.algo_tree.specs.declared.Source.{Source}
use Rattle.algo_tree.specs.declared.Source.TheVariants.{Own, Of}
use Rattle.algo_tree.specs.declared.Guard.{Guard}
use Rattle.algo_tree.specs.declared.Part.TheVariants.{Numbered}
use Rattle.algo_tree.specs.Level.{Path}
use Rattle.algo_tree.specs.Tree.{Label, Kind, sensor, actuator, constant, delay, function, explode, implode, merge, graph, switch, repeat, Vertex, vertex, Vertices, no_vertices, and_vertex}
use Rattle.algo_tree.specs.Counted.{operations as count}
use Rattle.algo_tree.specs.Meaning.{asked_by, nodes}
use Rattle.algo_tree.specs.Valid.{IsTree}
use Rattle.algo_tree.specs.Texts.{path_text}
use Rattle.algo_tree.proofs.Lists.{map_map}
use Rattle.flat_laws.specs.Flat.{Operation, Task, runs, gets, sets}
use Rattle.flat_laws.specs.Inlined as flat
use Rattle.flat_laws.specs.Inlined.{with_wiring, wire_source, wire_out, wire, gives_by, wiring, wirings, wire_guard, operation_of, stage_input, stages, inlined_by, inlined, inlined_all, operations}
use Rattle.flat_laws.specs.Plain.{IsPlain}
use Rattle.flat_laws.proofs.Inlinable.{IsKindInlinable, CanInline, AllCanInline, can_inline}
use Rattle.flat_laws.proofs.Wires.{long-inlined}
use Rattle.flat_laws.specs.Names.{half_text, name_of}
use Rattle.flat_laws.specs.Origins.{Origin, nowhere, origin_at, inside, output_of, origin_by, output_origin, origin_in, leads_by, outlets, body_leads}
use Rattle.flat_laws.specs.Table.{Row, stage_row, stage_ins, delay_rows, rows_by, graph_rows, table}
use Rattle.flat_laws.proofs.Following.{given}
use Rattle.flat_laws.proofs.Rows.{unit_of, vertex_rows}
use Rattle.flat_laws.proofs.Shifted.{each-same}
use Rattle.flat_laws.proofs.GuardedRows.{conditions, inside_by}
use Rattle.syn_base.specs.Vectors.{Vector}

-- where a source of the flat list leads, where the operations have these names
abbrev pub origin_of : List (List ℕ) → Source → Origin
origin_of names (Own k) = nowhere
origin_of names (Of r q) = record { name = slice_index_or names r []; output = q }

abbrev pub operation_row : List (List ℕ) → Operation → Row
operation_row names op = stage_row op.path op.stage op.definition (map (origin_of names) op.ins) (conditions (origin_of names) op.guards) op.outs op.task

-- what an operation may be
abbrev pub IsFlatKind : Kind → Type 0
IsFlatKind (delay vs) = ⊥
IsFlatKind (graph outs) = ⊥
IsFlatKind (switch values names) = ⊥
IsFlatKind (repeat n feeds gives) = ⊥
IsFlatKind _ = Unit {0}

abbrev pub IsFlatTask : Task → Type 0
IsFlatTask (runs k) = IsFlatKind k
IsFlatTask (gets v) = Unit {0}
IsFlatTask sets = Unit {0}

abbrev pub AllFlat : List Operation → Type 0
AllFlat [] = Unit {0}
AllFlat (op ∷ ops) = IsFlatTask op.task × AllFlat ops

flat-append : (xs ys : List Operation) → AllFlat xs → AllFlat ys → AllFlat (xs ++ ys)
flat-append [] ys h k = k
flat-append (x ∷ xs) ys h k = (h.0, flat-append xs ys h.1 k)

module _ (names : List (List ℕ)) where
  abbrev at_name : Source → Origin
  at_name = origin_of names

  -- operations that are numbered from b on have their names
  abbrev pub Named : ℕ → List Operation → Type 0
  Named b [] = Unit {0}
  Named b (op ∷ ops) = (slice_index_or names b [] ≡ name_of op) × Named (suc b) ops

  named-left : (b : ℕ) (xs ys : List Operation) → Named b (xs ++ ys) → Named b xs
  named-left b [] ys h = tt
  named-left b (x ∷ xs) ys h = (h.0, named-left (suc b) xs ys h.1)

  named-right : (b : ℕ) (xs ys : List Operation) → Named b (xs ++ ys) → Named (b + length xs) ys
  named-right b [] ys h = subst (λ m. Named m ys) (omega arith) h
  named-right b (x ∷ xs) ys h = subst (λ m. Named m ys) (omega arith) (named-right (suc b) xs ys h.1)

  pub all-named : (b : ℕ) (ops : List Operation) → ((i : ℕ) → get_or names (b + i) [] ≡ get_or (map name_of ops) i []) → Named b ops
  all-named b [] h = tt
  all-named b (op ∷ ops) h = (
    ap (λ (m : ℕ). get_or names m []) (sym (add-zero b)) ∙ h 0,
    all-named (suc b) ops (λ i. ap (λ (m : ℕ). get_or names m []) (let e : suc b + i ≡ b + suc i = omega arith in e) ∙ h (suc i)),
  )

  -- the source at one place of several
  at-place : (ss : List Source) (q : ℕ) → at_name (slice_index_or ss q flat.nowhere) ≡ origin_at (map at_name ss) q
  at-place [] q = refl
  at-place (s ∷ ss) zero = refl
  at-place (s ∷ ss) (suc q) = at-place ss q

  -- the units of a level, beside their wirings
  abbrev SameWires : Path → ℕ → Vertices → Type 0
  SameWires p b us =
      (f : Source → Source) (g : Source → Origin) → ((s : Source) → at_name (f s) ≡ g s) → (r q : ℕ)
      → at_name (with_wiring (slice_get (wirings b us) r) flat.nowhere (λ w. w.gives (map f w.asked) q)) ≡ given g q (slice_get (outlets p us) r)

  long-wirings : (p : Path) (b : ℕ) (us : Vertices) → length (wirings b us) ≡ length (outlets p us)
  long-wirings p b no_vertices = refl
  long-wirings p b (and_vertex u us) = ap suc (long-wirings p (b + count u) us)

  module _ (p : Path) (b : ℕ) (us : Vertices) (same : SameWires p b us) (own : List Source) where
    at-source : (x : ℕ → ℕ → Source) (y : ℕ → ℕ → Origin) → ((r q : ℕ) → at_name (x r q) ≡ y r q) → (s : Source) → at_name (wire_source own x s) ≡ origin_by (map at_name own) y s
    at-source x y h (Own k) = at-place own k
    at-source x y h (Of r q) = h r q

    by-fuel : (fuel r q : ℕ) → at_name (wire_out (wirings b us) own fuel r q) ≡ output_origin (outlets p us) (map at_name own) fuel r q
    by-fuel zero r q = refl
    by-fuel (suc fuel) r q =
        same (wire_source own (wire_out (wirings b us) own fuel)) (origin_by (map at_name own) (output_origin (outlets p us) (map at_name own) fuel))
        (at-source (wire_out (wirings b us) own fuel) (output_origin (outlets p us) (map at_name own) fuel) (by-fuel fuel)) r q

    wires-lead : (s : Source) → at_name (wire (wirings b us) own s) ≡ origin_in (outlets p us) (map at_name own) s
    wires-lead s =
        ap (λ (n : ℕ). at_name (wire_source own (wire_out (wirings b us) own n) s)) (long-wirings p b us)
        ∙ at-source (wire_out (wirings b us) own (length (outlets p us))) (output_origin (outlets p us) (map at_name own) (length (outlets p us))) (by-fuel (length (outlets p us))) s

  -- the operation of a unit
  first-name : (b : ℕ) (path P : Path) (k : Kind) (q : ℕ) → path ≡ P → slice_index_or names b [] ≡ path_text path ++ [] → at_name (Of b q) ≡ output_of P k q
  first-name b path P k q e h = ap (λ (x : List ℕ). record { name = x; output = q }) (h ∙ ap (λ (x : Path). path_text x ++ []) e)

  module _ (w : Source → Source) (b : ℕ) (at : Path → Path) (p : Path) (l : Label) (us : Vertices)
      (inner : List Source → ℕ → (Path → Path) → List Operation) (body : ℕ → List Origin → ℕ → Origin) where
    leads-by : (k : Kind) → IsKindInlinable k l.guards (nodes us) → at (l.part ∷ []) ≡ inside p l.part
        → ((own : List Source) (below : Path → Path) → ((q : Path) → below q ≡ inside p l.part ++ q) → Named b (inner own b below) → SameWires (inside p l.part) b us)
        → ((q : Path) → at q ≡ p ++ q)
        → Named b (inlined_by w b at l k inner) → (ss : List Source) (q : ℕ) → at_name (gives_by b k (λ c. wirings c us) ss q)
        ≡ leads_by (inside p l.part) k (outlets (inside p l.part) us) body (map at_name ss) q
    leads-by (graph sources) h e I along m ss q =
        let P = inside p l.part in
        let same = I (map w l.ins) (λ q. at (l.part ∷ q)) (λ q. along (l.part ∷ q) ∙ sym (append_assoc p (l.part ∷ []) q)) m in
        at-place (map (wire (wirings b us) ss) sources) q
        ∙ ap (λ (os : List Origin). origin_at os q)
        (map_map at_name (wire (wirings b us) ss) sources
        ∙ each-same (λ s. at_name (wire (wirings b us) ss s)) (origin_in (outlets P us) (map at_name ss)) (wires-lead P b us same ss) sources)
    leads-by (switch values ns) h e I along m ss q = absurd h
    leads-by (repeat n feeds gives) h e I along m ss q = absurd h
    leads-by (delay []) h e I along m ss q = absurd (omega (arith, h))
    leads-by (delay (v ∷ vs)) h e I along m ss q = ap (λ (x : List ℕ). record { name = x; output = q }) (m.0 ∙ ap (λ (x : Path). path_text x ++ half_text (gets []) 0) e)
    leads-by (sensor n) h e I along m ss q = first-name b (at (l.part ∷ [])) (inside p l.part) (sensor n) q e m.0
    leads-by (actuator n) h e I along m ss q = first-name b (at (l.part ∷ [])) (inside p l.part) (actuator n) q e m.0
    leads-by (constant v) h e I along m ss q = first-name b (at (l.part ∷ [])) (inside p l.part) (constant v) q e m.0
    leads-by (function es) h e I along m ss q = first-name b (at (l.part ∷ [])) (inside p l.part) (function es) q e m.0
    leads-by explode h e I along m ss q = first-name b (at (l.part ∷ [])) (inside p l.part) explode q e m.0
    leads-by implode h e I along m ss q = first-name b (at (l.part ∷ [])) (inside p l.part) implode q e m.0
    leads-by (merge values) h e I along m ss q = first-name b (at (l.part ∷ [])) (inside p l.part) (merge values) q e m.0

  mutual
    leads-inlined : (w : Source → Source) (b : ℕ) (at : Path → Path) (p : Path) (u : Vertex) → CanInline u → ((q : Path) → at q ≡ p ++ q) → Named b (inlined w b at u)
        → (f : Source → Source) (g : Source → Origin) → ((s : Source) → at_name (f s) ≡ g s) → (q : ℕ) → at_name ((wiring b u).gives (map f (wiring b u).asked) q) ≡ given g q (Some (unit_of p u))
    leads-inlined w b at p (vertex l us) h along m f g same q =
        leads-by w b at p l us (λ own c below. inlined_all (wire (wirings c us) own) c below us) (λ i. body_leads (inside (inside p l.part) (Numbered i)) us) l.kind h.0 (along (l.part ∷ []))
        (λ own below e n. wires-inlined (wire (wirings b us) own) b below (inside p l.part) us h.1 e n) along m (map f (asked_by l.kind l.ins)) q
        ∙ ap (λ (os : List Origin). leads_by (inside p l.part) l.kind (outlets (inside p l.part) us) (λ i. body_leads (inside (inside p l.part) (Numbered i)) us) os q)
        (map_map at_name f (asked_by l.kind l.ins) ∙ each-same (λ s. at_name (f s)) g same (asked_by l.kind l.ins))

    wires-inlined : (w : Source → Source) (b : ℕ) (at : Path → Path) (p : Path) (us : Vertices) → AllCanInline us → ((q : Path) → at q ≡ p ++ q) → Named b (inlined_all w b at us) → SameWires p b us
    wires-inlined w b at p no_vertices h along m f g same r q = refl
    wires-inlined w b at p (and_vertex u us) h along m f g same zero q = leads-inlined w b at p u h.0 along (named-left b (inlined w b at u) _ m) f g same q
    wires-inlined w b at p (and_vertex u us) h along m f g same (suc r) q =
        wires-inlined w (b + count u) at p us h.1 along (subst (λ n. Named (b + n) (inlined_all w (b + count u) at us)) (long-inlined w b at u h.0) (named-right b (inlined w b at u) _ m)) f g same r q

  conditions-wired : (w : Source → Source) (lead : Source → Origin) → ((s : Source) → at_name (w s) ≡ lead s) → (gs : List Guard) → conditions at_name (map (wire_guard w) gs) ≡ conditions lead gs
  conditions-wired w lead same [] = refl
  conditions-wired w lead same (g ∷ gs) = ap₂ (λ o cs. record { source = o; values = g.values; case = g.case } ∷ cs) (same g.source) (conditions-wired w lead same gs)

  module _ (w : Source → Source) (lead : Source → Origin) (same : (s : Source) → at_name (w s) ≡ lead s) (p : Path) (l : Label) where
    abbrev P : Path
    P = inside p l.part

    ins-lead : map at_name (map w l.ins) ≡ map lead l.ins
    ins-lead = map_map at_name w l.ins ∙ each-same (λ s. at_name (w s)) lead same l.ins

    -- one operation of a vertex
    one : (path : Path) (i : ℕ) (ins : List Source) (own : List Origin) (outs : List ℕ) (task : Task) → path ≡ P → map at_name ins ≡ own
        → operation_row names (operation_of w path i l ins outs task) ≡ stage_row P i l.definition own (conditions lead l.guards) outs task
    one path i ins own outs task e fed =
        ap (λ x. stage_row x i l.definition (map at_name ins) (conditions at_name (map (wire_guard w) l.guards)) outs task) e
        ∙ ap₂ (λ os cs. stage_row P i l.definition os cs outs task) fed (conditions-wired w lead same l.guards)

    -- what the set half of a stage takes
    stage-fed : (b : ℕ) (path : Path) (i : ℕ) (vs : List Vector) → path ≡ P → Named (b + 2) (stages w (b + 2) path l (suc i) vs)
        → map at_name (stage_input b (map w l.ins) vs) ≡ stage_ins P i (map lead l.ins) vs
    stage-fed b path i [] e m = ins-lead
    stage-fed b path i (v ∷ vs) e m = ap (λ (x : List ℕ). record { name = x; output = 0 } ∷ []) (m.0 ∙ ap (λ (x : Path). path_text x ++ half_text (gets []) (suc i)) e)

    -- the stages of a delay
    rows-stages : (b : ℕ) (path : Path) (i : ℕ) (vs : List Vector) → path ≡ P → Named b (stages w b path l i vs)
        → map (operation_row names) (stages w b path l i vs) ≡ delay_rows P (conditions lead l.guards) l.definition (map lead l.ins) l.outs i vs
    rows-stages b path i [] e m = refl
    rows-stages b path i (v ∷ vs) e m =
        let two : suc (suc b) ≡ b + 2 = omega arith in
        let rest = subst (λ n. Named n (stages w (b + 2) path l (suc i) vs)) two m.1.1 in
        ap₂ (λ x y. x ∷ y) (one path i [] [] l.outs (gets v) e refl)
        (ap₂ (λ x y. x ∷ y) (one path i (stage_input b (map w l.ins) vs) (stage_ins P i (map lead l.ins) vs) [] sets e (stage-fed b path i vs e rest)) (rows-stages (b + 2) path (suc i) vs e rest))

    module _ (b : ℕ) (at : Path → Path) (us : Vertices) (inner : List Source → ℕ → (Path → Path) → List Operation) where
      by-kind : (k : Kind) → IsKindInlinable k l.guards (nodes us) → ((q : Path) → at q ≡ p ++ q)
          → ((own : List Source) (below : Path → Path) → ((q : Path) → below q ≡ P ++ q) → Named b (inner own b below)
          → map (operation_row names) (inner own b below) ≡ graph_rows P [] (origin_in (outlets P us) (map at_name own)) us)
          → Named b (inlined_by w b at l k inner) → map (operation_row names) (inlined_by w b at l k inner)
          ≡ rows_by P (conditions lead l.guards) l.definition (map lead l.ins) l.outs k (inside_by P (conditions lead l.guards) us)
      by-kind (graph sources) h along I m =
          I (map w l.ins) (λ q. at (l.part ∷ q)) (λ q. along (l.part ∷ q) ∙ sym (append_assoc p (l.part ∷ []) q)) m
          ∙ ap₂ (λ os gs. graph_rows P (conditions lead gs) (origin_in (outlets P us) os) us) ins-lead (sym h.0)
      by-kind (switch values ns) h along I m = absurd h
      by-kind (repeat n feeds gives) h along I m = absurd h
      by-kind (delay vs) h along I m = rows-stages b (at (l.part ∷ [])) 0 vs (along (l.part ∷ [])) m
      by-kind (sensor k) h along I m = ap (λ x. x ∷ []) (one (at (l.part ∷ [])) 0 (map w l.ins) (map lead l.ins) l.outs (runs (sensor k)) (along (l.part ∷ [])) ins-lead)
      by-kind (actuator k) h along I m = ap (λ x. x ∷ []) (one (at (l.part ∷ [])) 0 (map w l.ins) (map lead l.ins) l.outs (runs (actuator k)) (along (l.part ∷ [])) ins-lead)
      by-kind (constant v) h along I m = ap (λ x. x ∷ []) (one (at (l.part ∷ [])) 0 (map w l.ins) (map lead l.ins) l.outs (runs (constant v)) (along (l.part ∷ [])) ins-lead)
      by-kind (function es) h along I m = ap (λ x. x ∷ []) (one (at (l.part ∷ [])) 0 (map w l.ins) (map lead l.ins) l.outs (runs (function es)) (along (l.part ∷ [])) ins-lead)
      by-kind explode h along I m = ap (λ x. x ∷ []) (one (at (l.part ∷ [])) 0 (map w l.ins) (map lead l.ins) l.outs (runs explode) (along (l.part ∷ [])) ins-lead)
      by-kind implode h along I m = ap (λ x. x ∷ []) (one (at (l.part ∷ [])) 0 (map w l.ins) (map lead l.ins) l.outs (runs implode) (along (l.part ∷ [])) ins-lead)
      by-kind (merge values) h along I m = ap (λ x. x ∷ []) (one (at (l.part ∷ [])) 0 (map w l.ins) (map lead l.ins) l.outs (runs (merge values)) (along (l.part ∷ [])) ins-lead)

  mutual
    rows-inlined : (w : Source → Source) (b : ℕ) (at : Path → Path) (p : Path) (u : Vertex) (lead : Source → Origin)
        → ((s : Source) → at_name (w s) ≡ lead s) → CanInline u → ((q : Path) → at q ≡ p ++ q) → Named b (inlined w b at u)
        → map (operation_row names) (inlined w b at u) ≡ vertex_rows p [] lead u
    rows-inlined w b at p (vertex l us) lead same h along m =
        by-kind w lead same p l b at us (λ own c below. inlined_all (wire (wirings c us) own) c below us) l.kind h.0 along
        (λ own below e n. rows-inlined_all (wire (wirings b us) own) b below (inside p l.part) us (origin_in (outlets (inside p l.part) us) (map at_name own))
        (wires-lead (inside p l.part) b us (wires-inlined (wire (wirings b us) own) b below (inside p l.part) us h.1 e n) own) h.1 e n) m

    rows-inlined_all : (w : Source → Source) (b : ℕ) (at : Path → Path) (p : Path) (us : Vertices) (lead : Source → Origin)
        → ((s : Source) → at_name (w s) ≡ lead s) → AllCanInline us → ((q : Path) → at q ≡ p ++ q) → Named b (inlined_all w b at us)
        → map (operation_row names) (inlined_all w b at us) ≡ graph_rows p [] lead us
    rows-inlined_all w b at p no_vertices lead same h along m = refl
    rows-inlined_all w b at p (and_vertex u us) lead same h along m =
        map-append (operation_row names) (inlined w b at u) (inlined_all w (b + count u) at us)
        ∙ ap₂ (λ xs ys. xs ++ ys) (rows-inlined w b at p u lead same h.0 along (named-left b (inlined w b at u) _ m))
        (rows-inlined_all w (b + count u) at p us lead same h.1 along
        (subst (λ n. Named (b + n) (inlined_all w (b + count u) at us)) (long-inlined w b at u h.0) (named-right b (inlined w b at u) _ m)))

flat-stages : (w : Source → Source) (b : ℕ) (path : Path) (i : ℕ) (l : Label) (vs : List Vector) → AllFlat (stages w b path l i vs)
flat-stages w b path i l [] = tt
flat-stages w b path i l (v ∷ vs) = (tt, (tt, flat-stages w (b + 2) path (suc i) l vs))

flat-kind : (w : Source → Source) (b : ℕ) (at : Path → Path) (l : Label) (us : Vertices) (inner : List Source → ℕ → (Path → Path) → List Operation) (k : Kind) → IsKindInlinable k l.guards (nodes us)
    → ((own : List Source) (c : ℕ) (below : Path → Path) → AllFlat (inner own c below)) → AllFlat (inlined_by w b at l k inner)
flat-kind w b at l us inner (graph outs) h I = I (map w l.ins) b (λ q. at (l.part ∷ q))
flat-kind w b at l us inner (switch values names) h I = absurd h
flat-kind w b at l us inner (repeat n feeds gives) h I = absurd h
flat-kind w b at l us inner (delay vs) h I = flat-stages w b (at (l.part ∷ [])) 0 l vs
flat-kind w b at l us inner (sensor m) h I = (tt, tt)
flat-kind w b at l us inner (actuator m) h I = (tt, tt)
flat-kind w b at l us inner (constant v) h I = (tt, tt)
flat-kind w b at l us inner (function es) h I = (tt, tt)
flat-kind w b at l us inner explode h I = (tt, tt)
flat-kind w b at l us inner implode h I = (tt, tt)
flat-kind w b at l us inner (merge values) h I = (tt, tt)

mutual
  flat-inlined : (w : Source → Source) (b : ℕ) (at : Path → Path) (u : Vertex) → CanInline u → AllFlat (inlined w b at u)
  flat-inlined w b at (vertex l us) h =
      flat-kind w b at l us (λ own c below. inlined_all (wire (wirings c us) own) c below us) l.kind h.0 (λ own c below. flat-inlined_all (wire (wirings c us) own) c below us h.1)

  flat-inlined_all : (w : Source → Source) (b : ℕ) (at : Path → Path) (us : Vertices) → AllCanInline us → AllFlat (inlined_all w b at us)
  flat-inlined_all w b at no_vertices h = tt
  flat-inlined_all w b at (and_vertex u us) h = flat-append (inlined w b at u) (inlined_all w (b + count u) at us) (flat-inlined w b at u h.0) (flat-inlined_all w (b + count u) at us h.1)

pub table-inlined : (main : Vertex) → IsTree main → IsPlain main → map (operation_row (map name_of (operations main))) (operations main) ≡ table main
table-inlined (vertex l us) h plain =
    let ops = operations (vertex l us) in
    let names = map name_of ops in
    let can = (can_inline [] (vertex l us) h.well h.typed plain).1 in
    let named = all-named names 0 ops (λ i. ap (λ (m : ℕ). get_or names m []) (zero-add i)) in
    rows-inlined_all names (wire (wirings 0 us) []) 0 (λ q. q) [] us (origin_in (outlets [] us) [])
    (wires-lead names [] 0 us (wires-inlined names (wire (wirings 0 us) []) 0 (λ q. q) [] us can (λ q. refl) named) []) can (λ q. refl) named

pub all-flat : (main : Vertex) → IsTree main → IsPlain main → AllFlat (operations main)
all-flat (vertex l us) h plain = flat-inlined_all (wire (wirings 0 us) []) 0 (λ q. q) us (can_inline [] (vertex l us) h.well h.typed plain).1
