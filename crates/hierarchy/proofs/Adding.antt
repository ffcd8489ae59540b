-- What adding the operations of a vertex asks for, and what it answers, seen at a declared vertex.
use Rattle.std.proofs.Common.{
  ◌≡◌,
  ◌≢◌,
  ◌==◌,
  ◌⊎◌,
  inl,
  inr,
  true,
  false,
  min,
  ℕ,
  zero,
  suc,
  ◌+◌,
  ◌-◌,
  ◌*◌,
  ◌^◌,
  ◌<◌,
  List,
  [],
  ◌∷◌,
  ◌++◌,
  length,
  get_or,
  map,
  drop,
  drop-cons,
  append-nil,
  refl,
  sym,
  ap,
  ap₂,
  ◌∙◌,
  subst,
  arith,
}
use Rattle.std.proofs.lemmas.Bool.{eq-eqb, ne_eqb}
use Rattle.std.proofs.lemmas.Bool.Decides.{eqb_tells}
use Rattle.algo_tree.specs.declared.Source.{Source}
use Rattle.algo_tree.specs.Level.{Path}
use Rattle.algo_tree.specs.Order.{IsAcyclic}
use Rattle.algo_tree.specs.Counted.{operations as count, operations_in as count_all, operations_by}
use Rattle.algo_tree.specs.Tree.{graph, Label, Vertices}
use Rattle.algo_tree.specs.Typed.{label_of}
use Rattle.algo_tree.specs.Valid.{IsTree}
use Rattle.algo_tree.specs.Well.{IsKindWell, IsWell, AllWell}
use Rattle.algo_tree.specs.View.{view, kind_view, label_view, vertices_view}
use Rattle.algo_tree.specs.declared.vertex.Vertex.{Vertex as Declared, out-Vertex}
use Rattle.algo_tree.specs.declared.vertex.Kind.{Kind}
use Rattle.algo_tree.specs.declared.vertex.Kind.TheVariants.{Delay, Graph, Switch, Repeat}
use Rattle.algo_tree.proofs.Views.{view_out}
use Rattle.flat_graph.specs.Graph.{Graph as Flat}
use Rattle.flat_laws.specs.Flat.{Operation, runs}
use Rattle.flat_laws.specs.Inlined.{wire, wirings, wire_guard, operation_of, stages, inlined_by, inlined, inlined_all, inlined_level, operations}
use Rattle.flat_laws.specs.Plain.{IsKindPlain, IsPlain, AllPlain}
use Rattle.flat_laws.proofs.Wires.{long-plain}
use Rattle.algo_tree.specs.Named.{IsLabelNamed, IsNamed, AllNamed}
use Rattle.hierarchy.specs.Order.{nodes_of}
use Rattle.hierarchy.proofs.Nodes.{nodes_view}
use Rattle.flat_laws.specs.Linked.{AreFound, GuardsFound, AllLinked}
use Rattle.hierarchy.proofs.Linking.{linked_anywhere}
use Rattle.flat_laws.proofs.Linking.{linked_main}
use Rattle.hierarchy.specs.Built.{IsRun, Built, Adds}
use Rattle.syn_base.specs.Vectors.{Vector}

abbrev pub inner_of : Declared → List Declared
inner_of u = (out-Vertex u).inner.items

abbrev pub label : Declared → Label
label u = label_view (out-Vertex u)

-- the vertices of a level, one by one
pub plain_at : (us : List Declared) (r : ℕ) (u : Declared) → AllPlain (vertices_view us) → r < length us → IsPlain (view (get_or us r u))
plain_at [] r u h lt = absurd (omega arith)
plain_at (v ∷ us) zero u h lt = h.0
plain_at (v ∷ us) (suc r) u h lt = plain_at us r u h.1 (omega arith)

pub named_at : (us : List Declared) (r : ℕ) (u : Declared) → AllNamed (vertices_view us) → r < length us → IsNamed (view (get_or us r u))
named_at [] r u h lt = absurd (omega arith)
named_at (v ∷ us) zero u h lt = h.0
named_at (v ∷ us) (suc r) u h lt = named_at us r u h.1 (omega arith)

pub rest_from : (us : List Declared) (i : ℕ) (u : Declared) → i < length us → u ≡ get_or us i u → drop i us ≡ u ∷ drop (i + 1) us
rest_from us i u lt is = let one : suc i ≡ i + 1 = omega arith in drop-cons us i u lt ∙ ap₂ (λ v k. v ∷ drop k us) (sym is) one

-- what holds of a vertex and of what is inside it
pub label_named : (u : Declared) → IsNamed (view u) → IsLabelNamed (label u)
label_named u h = (subst IsNamed (view_out u) h).0

pub inside_named : (u : Declared) → IsNamed (view u) → AllNamed (vertices_view (inner_of u))
inside_named u h = (subst IsNamed (view_out u) h).1

pub inside_plain : (u : Declared) → IsPlain (view u) → AllPlain (vertices_view (inner_of u))
inside_plain u h = (subst IsPlain (view_out u) h).1

run_by : (k : Kind) → IsKindPlain (kind_view k) → ((groups : List Vector) → k ≡ Delay groups → ⊥) → ((outs : List Source) → k ≡ Graph outs → ⊥) → IsRun (kind_view k)
run_by (Delay values) h d g = absurd (d values refl)
run_by (Graph outs) h d g = absurd (g outs refl)
run_by (Switch values names) h d g = absurd h
run_by (Repeat n feeds gives) h d g = absurd h
run_by _ h d g = tt

pub is_run : (u : Declared) → IsPlain (view u) → ((groups : List Vector) → (out-Vertex u).kind ≡ Delay groups → ⊥)
    → ((outs : List Source) → (out-Vertex u).kind ≡ Graph outs → ⊥) → IsRun (kind_view (out-Vertex u).kind)
is_run u h d g = run_by (out-Vertex u).kind (subst IsPlain (view_out u) h).0 d g

-- the operations of a vertex, by its kind
module _ (w : Source → Source) (u : Declared) where
  abbrev inside : List Source → ℕ → (Path → Path) → List Operation
  inside own c below = inlined_all (wire (wirings c (vertices_view (inner_of u))) own) c below (vertices_view (inner_of u))

  by_kind : (k : Kind) → (out-Vertex u).kind ≡ k → (b : ℕ) (at : Path → Path) → inlined w b at (view u) ≡ inlined_by w b at (label u) (kind_view k) inside
  by_kind k is b at = ap (inlined w b at) (view_out u) ∙ ap (λ j. inlined_by w b at (label u) (kind_view j) inside) is

  pub graph_adds : (outs own : List Source) → (out-Vertex u).kind ≡ Graph outs → own ≡ map w (out-Vertex u).ins → (old new : Flat) (at : Path → Path)
      → Adds old new (λ b. inlined_level own b (λ q. at ((out-Vertex u).part ∷ q)) (vertices_view (inner_of u))) → Adds old new (λ b. inlined w b at (view u))
  graph_adds outs own is from old new at adds ops h =
      let below = λ (q : Path). at ((out-Vertex u).part ∷ q) in
      subst (λ xs. Built new (ops ++ xs)) (ap (λ ss. inlined_level ss (length ops) below (vertices_view (inner_of u))) from ∙ sym (by_kind (Graph outs) is (length ops) at)) (adds ops h)

  pub delay_adds : (groups : List Vector) → (out-Vertex u).kind ≡ Delay groups → (old new : Flat) (at : Path → Path)
      → Adds old new (λ b. stages w b (at ((out-Vertex u).part ∷ [])) (label u) 0 groups) → Adds old new (λ b. inlined w b at (view u))
  delay_adds groups is old new at adds ops h = subst (λ xs. Built new (ops ++ xs)) (sym (by_kind (Delay groups) is (length ops) at)) (adds ops h)

  one_operation : (k : Kind) → IsRun (kind_view k) → (b : ℕ) (at : Path → Path)
      → inlined_by w b at (label u) (kind_view k) inside ≡ operation_of w (at ((out-Vertex u).part ∷ [])) 0 (label u) (map w (out-Vertex u).ins) (out-Vertex u).outs (runs (kind_view k)) ∷ []
  one_operation (Delay values) h b at = absurd h
  one_operation (Graph outs) h b at = absurd h
  one_operation (Switch values names) h b at = absurd h
  one_operation (Repeat n feeds gives) h b at = absurd h
  one_operation _ h b at = refl

  pub run_adds : IsRun (kind_view (out-Vertex u).kind) → (old new : Flat) (at : Path → Path)
      → Adds old new (λ b. operation_of w (at ((out-Vertex u).part ∷ [])) 0 (label u) (map w (out-Vertex u).ins) (out-Vertex u).outs (runs (kind_view (out-Vertex u).kind)) ∷ [])
      → Adds old new (λ b. inlined w b at (view u))
  run_adds run old new at adds ops h =
      subst (λ xs. Built new (ops ++ xs)) (sym (by_kind (out-Vertex u).kind refl (length ops) at ∙ one_operation (out-Vertex u).kind run (length ops) at)) (adds ops h)

  -- the sources of its operations
  pub graph_linked : (outs own : List Source) → (out-Vertex u).kind ≡ Graph outs → own ≡ map w (out-Vertex u).ins → (b : ℕ) → ((at : Path → Path) → AllLinked (inlined w b at (view u)))
      → (at : Path → Path) → AllLinked (inlined_level own b at (vertices_view (inner_of u)))
  graph_linked outs own is from b linked at =
      subst (λ ss. AllLinked (inlined_level ss b at (vertices_view (inner_of u)))) (sym from) (subst AllLinked (by_kind (Graph outs) is b (λ q. at (drop 1 q))) (linked (λ q. at (drop 1 q))))

  pub delay_linked : (groups : List Vector) → (out-Vertex u).kind ≡ Delay groups → (b : ℕ) → ((at : Path → Path) → AllLinked (inlined w b at (view u))) → AllLinked (stages w b [] (label u) 0 groups)
  delay_linked groups is b linked = subst AllLinked (by_kind (Delay groups) is b (λ q. [])) (linked (λ q. []))

  pub run_linked : IsRun (kind_view (out-Vertex u).kind) → (b : ℕ) → AllLinked (inlined w b (λ q. q) (view u))
      → AreFound (map w (out-Vertex u).ins) × GuardsFound (map (wire_guard w) (out-Vertex u).guards)
  run_linked run b linked =
      let h = subst AllLinked (by_kind (out-Vertex u).kind refl b (λ q. q) ∙ one_operation (out-Vertex u).kind run b (λ q. q)) linked in h.0

-- the number of its operations
pub graph_counted : (u : Declared) (outs : List Source) → (out-Vertex u).kind ≡ Graph outs → count (view u) ≡ count_all (vertices_view (inner_of u))
graph_counted u outs is = ap count (view_out u) ∙ ap (λ k. operations_by (kind_view k) (count_all (vertices_view (inner_of u)))) is

pub delay_counted : (u : Declared) (groups : List Vector) → (out-Vertex u).kind ≡ Delay groups → count (view u) ≡ 2 * length groups
delay_counted u groups is = ap count (view_out u) ∙ ap (λ k. operations_by (kind_view k) (count_all (vertices_view (inner_of u)))) is

count_one : (k : Kind) (n : ℕ) → IsRun (kind_view k) → operations_by (kind_view k) n ≡ 1
count_one (Delay values) n h = absurd h
count_one (Graph outs) n h = absurd h
count_one (Switch values names) n h = absurd h
count_one (Repeat m feeds gives) n h = absurd h
count_one _ n h = refl

pub run_counted : (u : Declared) → IsRun (kind_view (out-Vertex u).kind) → count (view u) ≡ 1
run_counted u run = ap count (view_out u) ∙ count_one (out-Vertex u).kind (count_all (vertices_view (inner_of u))) run

-- the main graph
pub main_well : (u : Declared) → IsTree (view u) → AllWell (vertices_view (inner_of u)) × IsAcyclic (nodes_of (inner_of u))
main_well u h =
    let at = subst IsWell (view_out u) h.well in
    let kind : kind_view (out-Vertex u).kind ≡ graph [] = ap (λ v. (label_of v).kind) (sym (view_out u)) ∙ h.portless.kind in
    let here = subst (λ k. IsKindWell k (out-Vertex u).guards (vertices_view (inner_of u))) kind at.0 in
    (at.1, subst IsAcyclic (nodes_view (inner_of u)) here.1.0)

pub main_linked : (u : Declared) → IsTree (view u) → IsPlain (view u) → (n : ℕ) → n ≡ 0 → (at : Path → Path) → AllLinked (inlined_level [] n at (vertices_view (inner_of u)))
main_linked u tree plain n none at =
    let us = vertices_view (inner_of u) in
    let all : AllLinked (inlined_level [] 0 (λ q. q) us) = subst (λ v. AllLinked (operations v)) (view_out u) (linked_main (view u) tree plain) in
    subst (λ b. AllLinked (inlined_level [] b at us)) (sym none) (linked_anywhere (wire (wirings 0 us) []) 0 us all at)

pub level_linked : (w : Source → Source) (own : List Source) (first n : ℕ) (us : Vertices) → first ≡ n → w ≡ wire (wirings first us) own
    → ((at : Path → Path) → AllLinked (inlined_level own n at us)) → (at : Path → Path) → AllLinked (inlined_all w n at us)
level_linked w own first n us number leads linked at = subst (λ f. AllLinked (inlined_all f n at us)) (sym (leads ∙ ap (λ b. wire (wirings b us) own) number)) (linked at)

-- a count that stops at a bound is 0 where the whole one is
pub idle_capped : (n r : ℕ) → r ≡ min n (2 ^ 64 - 1) → (r == 0) ≡ (n == 0)
idle_capped n r h = by (eqb_tells n 0)
  where
    by : (((n == 0) ≡ true) × (n ≡ 0)) ⊎ (((n == 0) ≡ false) × (n ≢ 0)) → (r == 0) ≡ (n == 0)
    by (inl is) = eq-eqb r 0 (omega (arith, h, is.1)) ∙ sym is.0
    by (inr some) = ne_eqb r 0 (λ none. some.1 (omega (arith, h, none))) ∙ sym some.0

-- a graph without operations
none_there : {A : Type 0} (xs : List A) → length xs ≡ 0 → xs ≡ []
none_there [] h = refl
none_there (x ∷ xs) h = absurd (omega (arith, h))

pub nothing_added : (w : Source → Source) (u : Declared) → IsPlain (view u) → count (view u) ≡ 0 → (g : Flat) (at : Path → Path) → Adds g g (λ b. inlined w b at (view u))
nothing_added w u plain none g at ops h =
    let empty : inlined w (length ops) at (view u) ≡ [] = none_there (inlined w (length ops) at (view u)) (long-plain w (length ops) at (view u) plain ∙ none) in
    subst (λ xs. Built g (ops ++ xs)) (sym empty) (subst (Built g) (sym (append-nil ops)) h)
