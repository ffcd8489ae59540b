-- Putting cases under guards keeps the operations of a tree without repetitions: a guard is a condition.
use Rattle.std.proofs.Common.{◌≡◌, ℕ, suc, ◌+◌, ℤ, List, [], ◌∷◌, ◌++◌, length, map, append-nil, slice_index_or, refl, sym, ap, ap₂, ◌∙◌, arith, add-zero, zero-add}
use Rattle.std.proofs.lemmas.List.{map-append}
use Rattle.algo_tree.specs.declared.Source.{Source}
use Rattle.algo_tree.specs.declared.Source.TheVariants.{Own, Of}
use Rattle.algo_tree.specs.declared.Guard.{Guard}
use Rattle.algo_tree.specs.declared.Part.TheVariants.{Numbered}
use Rattle.algo_tree.specs.Level.{Path}
use Rattle.algo_tree.specs.Tree.{Label, Kind, sensor, actuator, constant, delay, function, explode, implode, merge, graph, switch, repeat, Vertex, vertex, Vertices, no_vertices, and_vertex}
use Rattle.algo_tree.specs.Code.{count_of}
use Rattle.algo_tree.specs.Typed.{label_of}
use Rattle.algo_tree.specs.Valid.{IsTree}
use Rattle.algo_tree.specs.Well.{IsOwn, OwnGuards, AreCases, IsKindWell, IsWell, AllWell}
use Rattle.algo_tree.specs.NoRepeat.{IsNoRepeat, HasNoRepeat, AllNoRepeat}
use Rattle.flat_laws.specs.Guarded.{shift, shift_guard, guard_sources, own_guards, guard_for, merges, guarded_by, guarded, guarded_all, guarded_cases, guard}
use Rattle.flat_laws.specs.Flat.{runs}
use Rattle.flat_laws.specs.Origins.{Origin, origin_at, inside, port, origin_in, case_origin, case_output, outlets, body_leads}
use Rattle.flat_laws.specs.Table.{Condition, Row, Inside, row, merge_rows, rows_by, condition_of, graph_rows, case_rows, copy_rows, table}
use Rattle.flat_laws.proofs.Rows.{vertex_rows, rows-join}
use Rattle.flat_laws.proofs.Shifted.{shifted-same, own-same, handed, SameUnits, SameCases, graph-leads, cases-lead, leads, long-guarded_all, long-guarded_cases, units-guarded, cases-guarded}
use Rattle.syn_base.specs.Numbers.{numbers_below}

-- the conditions of guards whose sources lead here
abbrev pub conditions : (Source → Origin) → List Guard → List Condition
conditions f gs = map (condition_of f) gs

-- guards whose sources are handed inward
conditions-own : (f g : Source → Origin) (more : List Origin) (i : ℕ) (gs : List Guard)
    → ((k : ℕ) → f (Own (i + k)) ≡ origin_at (map g (guard_sources gs) ++ more) k) → conditions f (own_guards i gs) ≡ conditions g gs
conditions-own f g more i [] h = refl
conditions-own f g more i (x ∷ gs) h =
    ap₂ (λ (o : Origin) (cs : List Condition). record { source = o; values = x.values; case = x.case } ∷ cs)
    (ap (λ (n : ℕ). f (Own n)) (sym (add-zero i)) ∙ h 0)
    (conditions-own f g more (suc i) gs (λ k. ap (λ (n : ℕ). f (Own n)) (let e : suc i + k ≡ i + suc k = omega arith in e) ∙ h (suc k)))

-- guards that are shifted
pub conditions-shift : (f g : Source → Origin) (n : ℕ) → ((s : Source) → f (shift n s) ≡ g s) → (gs : List Guard) → conditions f (map (shift_guard n) gs) ≡ conditions g gs
conditions-shift f g n h [] = refl
conditions-shift f g n h (x ∷ gs) =
    ap₂ (λ (o : Origin) (cs : List Condition). record { source = o; values = x.values; case = x.case } ∷ cs) (h x.source) (conditions-shift f g n h gs)

-- guards of a case that are shifted
conditions-case : (f : Source → Origin) (own : List Origin) (m : ℕ) → ((k : ℕ) → f (Own (m + k)) ≡ origin_at own k) → (gs : List Guard)
    → OwnGuards gs → conditions f (map (shift_guard m) gs) ≡ conditions (case_origin own) gs
conditions-case f own m h [] all = refl
conditions-case f own m h (x ∷ gs) all =
    ap₂ (λ (o : Origin) (cs : List Condition). record { source = o; values = x.values; case = x.case } ∷ cs) (by x.source all.0) (conditions-case f own m h gs all.1)
  where
    by : (s : Source) → IsOwn s → f (shift m s) ≡ case_origin own s
    by (Own k) is = h k
    by (Of r q) is = absurd is

rows-merges : (p : Path) (f : Source → Origin) (d : List ℕ) (hs : List Guard) (m : ℕ) (values : List ℤ) (count : ℕ) (ins : ℕ → List Origin)
    → ((q : ℕ) → map f (Own m ∷ map (λ i. Of i q) (numbers_below count)) ≡ ins q)
    → (outs : List ℕ) (q : ℕ) (names : List (List ℕ)) → graph_rows p [] f (merges d hs m values count outs q names) ≡ merge_rows p (conditions f hs) d ins values outs q names
rows-merges p f d hs m values count ins h outs q [] = refl
rows-merges p f d hs m values count ins h outs q (name ∷ names) =
    ap₂ (λ os rs. row (port p name) d os (conditions f hs) (slice_index_or outs q 0 ∷ []) (runs (merge values)) ∷ rs) (h q) (rows-merges p f d hs m values count ins h outs (suc q) names)

abbrev pub inside_by : Path → List Condition → Vertices → Inside
inside_by p cs us = record {
  units = outlets p us;
  body = λ n. body_leads (inside p (Numbered n)) us;
  level = λ lead. graph_rows p cs lead us;
  cases = λ ins values. case_rows p cs ins values 0 us;
  copy = λ n ins. copy_rows (inside p (Numbered n)) cs ins us;
}

-- a vertex of a level of this path under these conditions, by its kind
abbrev rows_of : Path → List Condition → List Origin → Label → Kind → Vertices → List Row
rows_of p cs own l k us = rows_by p cs l.definition own l.outs k (inside_by p cs us)

no-own : (cs : List Condition) (g : Source → Origin) (hs : List Guard) → hs ≡ [] → cs ++ conditions g hs ≡ cs
no-own cs g hs e = ap (λ x. cs ++ conditions g x) e ∙ append-nil cs

-- the rows of the vertices of a level before and after
abbrev SameRows : Path → List Guard → ℕ → Vertices → Vertices → Type 0
SameRows p hs m vs us = (f g : Source → Origin) → ((s : Source) → f (shift m s) ≡ g s) → graph_rows p [] f vs ≡ graph_rows p (conditions f hs) g us

abbrev SameCaseRows : Path → List Guard → ℕ → List ℤ → Vertices → Vertices → Type 0
SameCaseRows p hs m values vs us = (f : Source → Origin) (own : List Origin) → ((k : ℕ) → f (Own (m + k)) ≡ origin_at own k) → graph_rows p [] f vs ≡ case_rows p (conditions f hs) own values 0 us

-- what an operation under guards has
under : (f g : Source → Origin) (gs : List Guard) (n : ℕ) (hs : List Guard) → conditions f (map (shift_guard n) hs) ≡ conditions g hs
    → conditions f (gs ++ map (shift_guard n) hs) ≡ conditions f gs ++ conditions g hs
under f g gs n hs e = map-append (condition_of f) gs (map (shift_guard n) hs) ∙ ap (λ cs. conditions f gs ++ cs) e

module _ (gs : List Guard) (n : ℕ) (p : Path) (l : Label) (us : Vertices) (f g : Source → Origin)
    (ins : map f (map (shift n) l.ins) ≡ map g l.ins) (guards : conditions f (map (shift_guard n) l.guards) ≡ conditions g l.guards) where
  abbrev P : Path
  P = inside p l.part

  abbrev hs : List Guard
  hs = own_guards 0 gs

  abbrev m : ℕ
  m = length gs

  -- where the inputs of the graph lead
  abbrev more : List Origin
  more = map f (guard_sources gs ++ map (shift n) l.ins)

  abbrev inputs : List Origin
  inputs = map g l.ins

  one : (k : Kind) → row P l.definition (map f (map (shift n) l.ins)) (conditions f (gs ++ map (shift_guard n) l.guards)) l.outs (runs k)
      ∷ [] ≡ row P l.definition inputs (conditions f gs ++ conditions g l.guards) l.outs (runs k) ∷ []
  one k = ap₂ (λ os cs. row P l.definition os cs l.outs (runs k) ∷ []) ins (under f g gs n l.guards guards)

  inward : (x : Source → Origin) → ((k : ℕ) → x (Own k) ≡ origin_at more k) → l.guards ≡ [] → conditions x hs ≡ conditions f gs ++ conditions g l.guards
  inward x fed e =
      conditions-own x f (map f (map (shift n) l.ins)) 0 gs
      (λ k. ap (λ (j : ℕ). x (Own j)) (zero-add k) ∙ fed k
      ∙ ap (λ (os : List Origin). origin_at os k) (map-append f (guard_sources gs) (map (shift n) l.ins)))
      ∙ sym (no-own (conditions f gs) g l.guards e)

  by-kind : (k : Kind) → IsKindWell k l.guards us → IsNoRepeat k → (inner : List Guard → ℕ → Vertices) (cases : List Guard → ℕ → List ℤ → Vertices)
      → ((x : Path) (ks : List Guard) (j : ℕ) → (length (outlets x (inner ks j)) ≡ length (outlets x us)) × (SameUnits x j (inner ks j) us × SameRows x ks j (inner ks j) us))
      → ((x : Path) (ks : List Guard) (j : ℕ) (values : List ℤ) → AreCases us → (length (outlets x (cases ks j values)) ≡ count_of us)
      × (SameCases x j (cases ks j values) us × SameCaseRows x ks j values (cases ks j values) us))
      → vertex_rows p [] f (guarded_by gs n l k us inner cases) ≡ rows_of P (conditions f gs ++ conditions g l.guards) inputs l k us
  by-kind (graph sources) h none inner cases I C =
      let i = I P hs m in
      let lead = origin_in (outlets P (inner hs m)) more in
      i.1.1 lead (origin_in (outlets P us) inputs) (graph-leads P m (inner hs m) us i.0 i.1.0 more inputs (handed f g gs n l.ins ins))
      ∙ ap (λ cs. graph_rows P cs (origin_in (outlets P us) inputs) us) (inward lead (λ k. refl) h.0)
  by-kind (switch values names) h none inner cases I C =
      let d = l.definition in
      let cs = cases hs m values in
      let c = C P hs m values h.0.1.1.1 in
      let lead = leads P d hs m values l.outs names cs us c.0 more in
      let fed = handed f g gs n l.ins ins in
      let on : origin_at more m ≡ origin_at inputs 0 = ap (λ (k : ℕ). origin_at more k) (sym (add-zero m)) ∙ fed 0 in
      let same = inward lead (λ k. refl) h.0.0 in
      rows-join P [] lead cs (merges d hs m values (count_of us) l.outs 0 names)
      ∙ ap₂ (λ xs ys. xs ++ ys)
      (c.1.1 lead inputs fed ∙ ap (λ x. case_rows P x inputs values 0 us) same)
      (rows-merges P lead d hs m values (count_of us) (λ q. origin_at inputs 0 ∷ map (case_output inputs q) (outlets P us))
      (λ q. ap₂ (λ x xs. x ∷ xs) on (cases-lead P d hs m values l.outs names cs us c.0 more c.1.0 inputs fed q)) l.outs 0 names
      ∙ ap (λ x. merge_rows P x d (λ q. origin_at inputs 0 ∷ map (case_output inputs q) (outlets P us)) values l.outs 0 names) same)
  by-kind (repeat k feeds gives) h none inner cases I C = absurd none
  by-kind (delay vs) h none inner cases I C = ap₂ (λ os cs. rows_by P cs l.definition os l.outs (delay vs) (inside_by P [] us)) ins (under f g gs n l.guards guards)
  by-kind (sensor k) h none inner cases I C = one (sensor k)
  by-kind (actuator k) h none inner cases I C = one (actuator k)
  by-kind (constant v) h none inner cases I C = one (constant v)
  by-kind (function es) h none inner cases I C = one (function es)
  by-kind explode h none inner cases I C = one explode
  by-kind implode h none inner cases I C = one implode
  by-kind (merge values) h none inner cases I C = one (merge values)

mutual
  rows-guarded : (gs : List Guard) (n : ℕ) (p : Path) (u : Vertex) → IsWell u → HasNoRepeat u → (f g : Source → Origin) → map f (map (shift n) (label_of u).ins) ≡ map g (label_of u).ins
      → conditions f (map (shift_guard n) (label_of u).guards) ≡ conditions g (label_of u).guards → vertex_rows p [] f (guarded gs n u) ≡ vertex_rows p (conditions f gs) g u
  rows-guarded gs n p (vertex l us) h none f g ins guards =
      by-kind gs n p l us f g ins guards l.kind h.0 none.0 (λ inside m. guarded_all inside m us) (λ inside m values. guarded_cases inside m values 0 us)
      (λ x ks j. (long-guarded_all ks j x us, (units-guarded ks j x us none.1, rows-guarded_all ks j x us h.1 none.1)))
      (λ x ks j values all. (long-guarded_cases ks j values 0 x us, (cases-guarded ks j values 0 x us none.1 all, rows-guarded_cases ks j values x 0 us h.1 none.1 all)))

  rows-guarded_all : (gs : List Guard) (n : ℕ) (p : Path) (us : Vertices) → AllWell us → AllNoRepeat us → SameRows p gs n (guarded_all gs n us) us
  rows-guarded_all gs n p no_vertices h none f g same = refl
  rows-guarded_all gs n p (and_vertex u us) h none f g same =
      ap₂ (λ xs ys. xs ++ ys) (rows-guarded gs n p u h.0 none.0 f g (shifted-same f g n same (label_of u).ins)
      (conditions-shift f g n same (label_of u).guards)) (rows-guarded_all gs n p us h.1 none.1 f g same)

  rows-guarded_cases : (gs : List Guard) (m : ℕ) (values : List ℤ) (p : Path) (c : ℕ) (us : Vertices) → AllWell us → AllNoRepeat us → AreCases us
      → (f : Source → Origin) (own : List Origin) → ((k : ℕ) → f (Own (m + k)) ≡ origin_at own k) → graph_rows p [] f (guarded_cases gs m values c us) ≡ case_rows p (conditions f gs) own values c us
  rows-guarded_cases gs m values p c no_vertices h none all f own fed = refl
  rows-guarded_cases gs m values p c (and_vertex (vertex l vs) us) h none all f own fed =
      let on : f (Own m) ≡ origin_at own 0 = ap (λ (k : ℕ). f (Own k)) (sym (add-zero m)) ∙ fed 0 in
      ap₂ (λ xs ys. xs ++ ys)
      (rows-guarded (gs ++ guard_for m values c ∷ []) m p (vertex l vs) h.0 none.0 f (case_origin own) (own-same f own m fed l.ins all.0.0) (conditions-case f own m fed l.guards all.0.1)
      ∙ ap (λ cs. vertex_rows p cs (case_origin own) (vertex l vs))
      (map-append (condition_of f) gs (guard_for m values c ∷ []) ∙ ap (λ (o : Origin). conditions f gs ++ record { source = o; values = values; case = c } ∷ []) on))
      (rows-guarded_cases gs m values p (suc c) us h.1 none.1 all.1 f own fed)

-- the main graph
in-graph : (l : Label) (k : Kind) (us : Vertices) (inner : List Guard → ℕ → Vertices) (cases : List Guard → ℕ → List ℤ → Vertices) → k ≡ graph []
    → table (guarded_by [] 0 l k us inner cases) ≡ graph_rows [] [] (origin_in (outlets [] (inner [] 0)) []) (inner [] 0)
in-graph l k us inner cases e = ap (λ x. table (guarded_by [] 0 l x us inner cases)) e

pub table-guard : (main : Vertex) → IsTree main → HasNoRepeat main → table (guard main) ≡ table main
table-guard (vertex l us) h none =
    in-graph l l.kind us (λ inside m. guarded_all inside m us) (λ inside m values. guarded_cases inside m values 0 us) h.portless.kind
    ∙ rows-guarded_all [] 0 [] us h.well.1 none.1 (origin_in (outlets [] (guarded_all [] 0 us)) []) (origin_in (outlets [] us) [])
    (graph-leads [] 0 (guarded_all [] 0 us) us (long-guarded_all [] 0 [] us) (units-guarded [] 0 [] us none.1) [] [] (λ k. ap (λ (j : ℕ). origin_at [] j) (zero-add k)))
