-- A flat graph that stands for the flat list of a tree is valid.
use Rattle.std.proofs.Common.{
  ◌≡◌,
  ℕ,
  zero,
  suc,
  ◌+◌,
  ◌&&◌,
  nat_le,
  Bool,
  true,
  List,
  [],
  ◌∷◌,
  length,
  map,
  slice_index_or,
  Some,
  None,
  slice_get,
  refl,
  sym,
  ap,
  ◌∙◌,
  subst,
  arith,
  add-zero,
  zero-add,
  le-leb,
}
use Rattle.std.specs.List.{list_all}
use Rattle.std.proofs.lemmas.Bool.{and_from}
use Rattle.algo_tree.specs.declared.Source.TheVariants.{Of}
use Rattle.algo_tree.specs.Tree as tree
use Rattle.algo_tree.specs.Typed.{AreLengths, AreGuardsTyped}
use Rattle.algo_tree.specs.Valid.{IsTree}
use Rattle.flat_graph.specs.declared.vertex.Vertex.{Vertex}
use Rattle.flat_graph.specs.Graph.{Graph, with_vertex, lens_of}
use Rattle.flat_graph.specs.Meaning.{level_guard}
use Rattle.flat_graph.specs.Order.{is_acyclic}
use Rattle.flat_graph.specs.Valid.{is_path, is_len, is_guard, fits, has_twin, are_named_apart, is_vertex, all_from, kinds_of, sensors_from, actuators_from, is_flat}
use Rattle.flat_laws.specs.Flat.{Operation}
use Rattle.flat_laws.specs.Inlined.{operations}
use Rattle.flat_laws.specs.Plain.{IsPlain}
use Rattle.flat_laws.proofs.Pairs.{paired-main}
use Rattle.flat_laws.specs.Stands.{task_of, Stands}
use Rattle.flat_laws.proofs.Stands.{vertex_of, operation_of}
use Rattle.flat_laws.proofs.Halves.{follow-main}
use Rattle.flat_laws.proofs.Acyclic.{stands-acyclic}
use Rattle.flat_laws.proofs.EndsNumbered.{sensors-numbered, actuators-numbered, few}
use Rattle.flat_laws.proofs.Lengths.{Outs}
use Rattle.flat_laws.proofs.Fits.{IsTaskFit, AllFit, fit-main}
use Rattle.flat_laws.proofs.Bounds.{IsTaskBounded, tasks-main, tasks-at}
use Rattle.flat_laws.proofs.KindTests.{long, lens-same, guards-pass, lens-pass, some-pass, fits-pass, outs-few}
use Rattle.flat_laws.proofs.Twins.{fit-some, twins-pass, set-single}
use Rattle.flat_laws.proofs.Names.{IsNamedOperation, AreNamed, name-pass, named-main}
use Rattle.flat_laws.proofs.NamesApart.{apart-main, named-apart}

-- the outputs of operations have the lengths of the vertices that stand for them
pub outs-from : (vertices : List Vertex) (b : ℕ) (ops : List Operation)
    → ((i : ℕ) (op : Operation) → slice_get ops i ≡ Some op → (p : ℕ) → long vertices (Of (b + i) p) ≡ slice_index_or op.outs p 0)
    → Outs (long vertices) (λ k. refl) b ops
outs-from vertices b [] h = tt
outs-from vertices b (op ∷ ops) h = (
  (λ p. subst (λ m. long vertices (Of m p) ≡ slice_index_or op.outs p 0) (add-zero b) (h 0 op refl p)),
  outs-from vertices (suc b) ops (λ i o is p. let e : b + suc i ≡ suc b + i = omega arith in subst (λ m. long vertices (Of m p) ≡ slice_index_or o.outs p 0) e (h (suc i) o is p)),
)

pub outs-main : (g : Graph) (ops : List Operation) → Stands g ops → Outs (long g.vertices) (λ k. refl) 0 ops
outs-main g ops stands = outs-from g.vertices 0 ops (λ i op is p.
    let y = vertex_of g.bodies 0 g.vertices ops stands i op is in
    subst (λ m. long g.vertices (Of m p) ≡ slice_index_or op.outs p 0) (sym (zero-add i))
    (ap (λ x. with_vertex x 0 (λ x. slice_index_or x.outs p 0)) y.1 ∙ ap (λ (o : Operation). slice_index_or o.outs p 0) (sym y.2.same)))

named-at : (ops : List Operation) → AreNamed ops → (v : ℕ) (op : Operation) → slice_get ops v ≡ Some op → IsNamedOperation op
named-at [] h v op is = absurd (cc)
named-at (x ∷ ops) h zero op is = let e : x ≡ op = cc in subst IsNamedOperation e h.0
named-at (x ∷ ops) h (suc v) op is = named-at ops h.1 v op is

all_from-each : (test : ℕ → Vertex → Bool) (a : ℕ) (xs : List Vertex) → ((i : ℕ) (x : Vertex) → slice_get xs i ≡ Some x → test (a + i) x ≡ true) → all_from test a xs ≡ true
all_from-each test a [] h = refl
all_from-each test a (x ∷ xs) h =
    and_from (test a x) (all_from test (a + 1) xs) (subst (λ m. test m x ≡ true) (add-zero a) (h 0 x refl))
    (all_from-each test (a + 1) xs (λ i y is. let e : a + suc i ≡ a + 1 + i = omega arith in subst (λ m. test m y ≡ true) e (h (suc i) y is)))

all_six : (a b c d e f : Bool) → a ≡ true → b ≡ true → c ≡ true → d ≡ true → e ≡ true → f ≡ true → (a && b && c && d && e && f) ≡ true
all_six a b c d e f ha hb hc hd he hf =
    and_from (a && b && c && d && e) f (and_from (a && b && c && d) e (and_from (a && b && c) d (and_from (a && b) c (and_from a b ha hb) hc) hd) he) hf

module _ (main : tree.Vertex) (g : Graph) (valid : IsTree main) (plain : IsPlain main) (stands : Stands g (operations main)) where
  abbrev ops : List Operation
  ops = operations main

  fit : AllFit (long g.vertices) None ops
  fit = fit-main (long g.vertices) (λ k. refl) main valid plain (outs-main g ops stands)

  vertex-valid : (v : ℕ) (x : Vertex) → slice_get g.vertices v ≡ Some x → is_vertex g v x ≡ true
  vertex-valid v x is =
      let f = operation_of g.bodies 0 g.vertices ops stands v x is in
      let t = fit-some (long g.vertices) None ops fit v f.0 f.1 in
      let bounded : IsTaskBounded (task_of g.bodies x.kind) x.outs = subst (λ (o : Operation). IsTaskBounded o.task o.outs) f.2.same (tasks-at ops (tasks-main main valid.bounded) v f.0 f.1) in
      let guards : AreGuardsTyped (long g.vertices) (map level_guard x.guards) = subst (λ (o : Operation). AreGuardsTyped (long g.vertices) o.guards) f.2.same t.1.guards in
      let ins : AreLengths (lens_of g.vertices x.ins) = subst AreLengths (lens-same g.vertices x.ins) (subst (λ (o : Operation). AreLengths (map (long g.vertices) o.ins)) f.2.same t.1.ins) in
      let outs : AreLengths x.outs = subst (λ (o : Operation). AreLengths o.outs) f.2.same t.1.outs in
      let task : IsTaskFit (task_of g.bodies x.kind) t.0 (lens_of g.vertices x.ins) x.outs =
      subst (λ ns. IsTaskFit (task_of g.bodies x.kind) t.0 ns x.outs) (lens-same g.vertices x.ins)
      (subst (λ (o : Operation). IsTaskFit o.task t.0 (map (long g.vertices) o.ins) o.outs) f.2.same t.1.task) in
      all_six (is_path x.name) (nat_le (length x.outs) 64 && list_all is_len x.outs) (list_all (is_guard g.vertices) x.guards)
      (list_all (nat_le 1) (lens_of g.vertices x.ins)) (fits g.bodies x.kind (lens_of g.vertices x.ins) x.outs)
      (has_twin g.vertices v x.kind x.twin)
      (ap is_path f.2.name ∙ name-pass f.0 (named-at ops (named-main main valid valid.named valid.bounded) v f.0 f.1))
      (and_from (nat_le (length x.outs) 64) (list_all is_len x.outs)
      (le-leb (length x.outs) 64 (outs-few g.bodies t.0 x.kind (lens_of g.vertices x.ins) x.outs ins outs task bounded)) (lens-pass x.outs outs))
      (guards-pass g.vertices x.guards guards) (some-pass (lens_of g.vertices x.ins) ins)
      (fits-pass g.bodies t.0 x.kind (lens_of g.vertices x.ins) x.outs task bounded (set-single g ops stands (follow-main main) (paired-main main) fit v x f.0 f.1 f.2))
      (twins-pass g ops stands (follow-main main) (paired-main main) fit v x f.0 f.1 f.2)

  pub stands-flat : is_flat g ≡ true
  stands-flat =
      all_six (nat_le (length g.vertices) 2048) (are_named_apart g.vertices) (all_from (is_vertex g) 0 g.vertices)
      (sensors_from 0 (kinds_of g.vertices)) (actuators_from 0 (kinds_of g.vertices)) (is_acyclic g.vertices)
      (le-leb (length g.vertices) 2048 (few main g valid plain stands)) (named-apart g.bodies 0 g.vertices ops stands (named-main main valid valid.named valid.bounded) (apart-main main valid plain))
      (all_from-each (is_vertex g) 0 g.vertices (λ i x is. subst (λ m. is_vertex g m x ≡ true) (sym (zero-add i)) (vertex-valid i x is)))
      (sensors-numbered main g valid plain stands) (actuators-numbered main g valid plain stands) (stands-acyclic main g valid plain stands)
