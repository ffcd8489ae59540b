-- The two halves of a delay are each other's twins, and have one length.
use Rattle.std.proofs.Common.{
  ◌≡◌,
  ℕ,
  zero,
  suc,
  ◌+◌,
  nat_lt,
  ℤ,
  true,
  false,
  List,
  [],
  ◌∷◌,
  length,
  map,
  Option,
  Some,
  None,
  is_none,
  slice_get,
  refl,
  sym,
  ap,
  ◌∙◌,
  subst,
  arith,
  lt-ltb,
  eq-eqb,
  zero-add,
}
use Rattle.std.proofs.lemmas.Bool.{and_from}
use Rattle.algo_tree.specs.declared.Source.{Source}
use Rattle.flat_graph.specs.declared.vertex.Kind.{Kind}
use Rattle.flat_graph.specs.declared.vertex.Kind.TheVariants.{Sensor, Actuator, Function, Constant, Get, Set, Explode, Implode, Merge}
use Rattle.flat_graph.specs.declared.vertex.Vertex.{Vertex}
use Rattle.flat_graph.specs.Graph.{Graph, with_vertex, lens_of}
use Rattle.flat_graph.specs.Valid.{is_only, is_set_half_by, is_set_half_of, is_get_half_by, is_get_half_of, has_set_half, has_get_half, has_twin, is_number}
use Rattle.flat_laws.specs.Flat as list
use Rattle.flat_laws.specs.Flat.{Operation, gets, sets, is_set}
use Rattle.flat_laws.proofs.Numbered.{Paired, pair-at}
use Rattle.flat_laws.specs.Stands.{task_of, IsTwin, StandsFor, Stands}
use Rattle.flat_laws.proofs.Stands.{get_task, kind_get, kind_set, vertex_of}
use Rattle.flat_laws.proofs.Halves.{Follow, follow-at}
use Rattle.flat_laws.proofs.Fits.{IsTaskFit, IsFit, AllFit, fit-at}
use Rattle.flat_laws.proofs.KindTests.{long, lens-same, only-pass}

-- an operation of some number has a fit place
pub fit-some : (length_of : Source → ℕ) (before : Option Operation) (ops : List Operation) → AllFit length_of before ops
    → (v : ℕ) (op : Operation) → slice_get ops v ≡ Some op → (b : Option Operation) × IsFit length_of b op
fit-some length_of before [] h v op is = absurd (cc)
fit-some length_of before (x ∷ ops) h zero op is = let e : x ≡ op = cc in (before, subst (IsFit length_of before) e h.0)
fit-some length_of before (x ∷ ops) h (suc v) op is = fit-some length_of (Some x) ops h.1 v op is

module _ (g : Graph) (ops : List Operation) (stands : Stands g ops) (halves : Follow None ops) (paired : Paired ops) (fit : AllFit (long g.vertices) None ops) where
  -- what a get half is
  pub record Getting (u : ℕ) (o : Operation) : Type 0 where
    pub vertex : Vertex
    pub is : slice_get g.vertices u ≡ Some vertex
    pub value : List ℤ
    pub kind : vertex.kind ≡ Get value
    pub outs : o.outs ≡ length value ∷ []
    pub twin : vertex.twin ≡ Some (suc u)

  getting : (u : ℕ) (o : Operation) → slice_get ops u ≡ Some o → list.is_get o.task ≡ true → Getting u o
  getting u o is get =
      let y = vertex_of g.bodies 0 g.vertices ops stands u o is in
      let z = kind_get y.0.kind (sym (get_task g.bodies y.0.kind) ∙ ap (λ (p : Operation). list.is_get p.task) (sym y.2.same) ∙ get) in
      let task : o.task ≡ gets z.0 = ap (λ (p : Operation). p.task) y.2.same ∙ ap (task_of g.bodies) z.1 in
      let f = fit-some (long g.vertices) None ops fit u o is in
      let t : IsTaskFit (gets z.0) f.0 (map (long g.vertices) o.ins) o.outs = subst (λ t. IsTaskFit t f.0 (map (long g.vertices) o.ins) o.outs) task f.1.task in
      record {
        vertex = y.0;
        is = y.1;
        value = z.0;
        kind = z.1;
        outs = t.1;
        twin = subst (λ m. y.0.twin ≡ Some (suc m)) (zero-add u) (subst (λ t. IsTwin (0 + u) t y.0.twin) task y.2.twin);
      }

  -- what a set half is
  pub record Setting (u : ℕ) (o s : Operation) : Type 0 where
    pub vertex : Vertex
    pub is : slice_get g.vertices (suc u) ≡ Some vertex
    pub kind : vertex.kind ≡ Set
    pub twin : vertex.twin ≡ Some u
    pub lens : lens_of g.vertices vertex.ins ≡ o.outs

  setting : (u : ℕ) (o s : Operation) → slice_get ops u ≡ Some o → slice_get ops (suc u) ≡ Some s → s.task ≡ sets → Setting u o s
  setting u o s was is set =
      let y = vertex_of g.bodies 0 g.vertices ops stands (suc u) s is in
      let f = fit-at (long g.vertices) None ops fit u o s was is in
      let t : IsTaskFit sets (Some o) (map (long g.vertices) s.ins) s.outs = subst (λ t. IsTaskFit t (Some o) (map (long g.vertices) s.ins) s.outs) set f.task in
      let twin : IsTwin (suc u) sets y.0.twin = subst (λ m. IsTwin m sets y.0.twin) (zero-add (suc u)) (subst (λ t. IsTwin (0 + suc u) t y.0.twin) set y.2.twin) in
      let e = twin.1 in
      let same : twin.0 ≡ u = omega (arith, e) in
      record {
        vertex = y.0;
        is = y.1;
        kind = kind_set g.bodies y.0.kind (ap (λ (p : Operation). is_set p.task) (sym y.2.same) ∙ ap is_set set);
        twin = twin.2 ∙ ap Some same;
        lens = sym (lens-same g.vertices y.0.ins) ∙ ap (λ (p : Operation). map (long g.vertices) p.ins) (sym y.2.same) ∙ t.1.1;
      }

  -- a get half's twin
  set-half : (v n : ℕ) (o s : Operation) (twin : Option ℕ) → Setting v o s → o.outs ≡ n ∷ [] → twin ≡ Some (suc v) → has_set_half g.vertices v n twin ≡ true
  set-half v n o s twin h outs e =
      ap (has_set_half g.vertices v n) e
      ∙ and_from (nat_lt v (suc v)) (with_vertex (slice_get g.vertices (suc v)) false (is_set_half_of g.vertices v n)) (lt-ltb v (suc v) (omega arith))
      (ap (λ y. with_vertex y false (is_set_half_of g.vertices v n)) h.is
      ∙ ap (is_set_half_by g.vertices v n h.vertex) h.kind
      ∙ and_from (is_number h.vertex.twin v) (is_only n (lens_of g.vertices h.vertex.ins))
      (ap (λ t. is_number t v) h.twin ∙ eq-eqb v v refl) (only-pass n (lens_of g.vertices h.vertex.ins) (h.lens ∙ outs)))

  -- a set half's twin
  get-half : (u : ℕ) (o : Operation) (twin : Option ℕ) → Getting u o → twin ≡ Some u → has_get_half g.vertices (suc u) twin ≡ true
  get-half u o twin h e =
      ap (has_get_half g.vertices (suc u)) e
      ∙ and_from (nat_lt u (suc u)) (with_vertex (slice_get g.vertices u) false (is_get_half_of (suc u))) (lt-ltb u (suc u) (omega arith))
      (ap (λ y. with_vertex y false (is_get_half_of (suc u))) h.is
      ∙ ap (is_get_half_by (suc u) h.vertex) h.kind
      ∙ ap (λ t. is_number t (suc u)) h.twin ∙ eq-eqb (suc u) (suc u) refl)

  twin-by : (v : ℕ) (k : Kind) (twin : Option ℕ) → ((z : List ℤ) → k ≡ Get z → has_set_half g.vertices v (length z) twin ≡ true) → (k ≡ Set → has_get_half g.vertices v twin ≡ true)
      → IsTwin v (task_of g.bodies k) twin → has_twin g.vertices v k twin ≡ true
  twin-by v (Get z) twin get set h = get z refl
  twin-by v Set twin get set h = set refl
  twin-by v (Sensor i) twin get set h = ap is_none h
  twin-by v (Actuator i) twin get set h = ap is_none h
  twin-by v (Function b) twin get set h = ap is_none h
  twin-by v (Constant z) twin get set h = ap is_none h
  twin-by v Explode twin get set h = ap is_none h
  twin-by v Implode twin get set h = ap is_none h
  twin-by v (Merge values) twin get set h = ap is_none h

  -- the operation of a vertex, by what the vertex is
  task-is : (v : ℕ) (x : Vertex) (op : Operation) (k : Kind) → StandsFor g.bodies (0 + v) x op → x.kind ≡ k → op.task ≡ task_of g.bodies k
  task-is v x op k h e = ap (λ (p : Operation). p.task) h.same ∙ ap (task_of g.bodies) e

  has-set : (v : ℕ) (x : Vertex) (op : Operation) (z : List ℤ) → slice_get ops v ≡ Some op → StandsFor g.bodies (0 + v) x op → x.kind ≡ Get z → has_set_half g.vertices v (length z) x.twin ≡ true
  has-set v x op z is h e =
      let task = task-is v x op (Get z) h e in
      let p = pair-at ops paired v op is (ap list.is_get task) in
      let f = fit-some (long g.vertices) None ops fit v op is in
      let t : IsTaskFit (gets z) f.0 (map (long g.vertices) op.ins) op.outs = subst (λ t. IsTaskFit t f.0 (map (long g.vertices) op.ins) op.outs) task f.1.task in
      set-half v (length z) op p.0 x.twin (setting v op p.0 is p.1 p.2) t.1
      (subst (λ m. x.twin ≡ Some (suc m)) (zero-add v) (subst (λ t. IsTwin (0 + v) t x.twin) task h.twin))

  -- where a set half stands
  record Behind (v : ℕ) (x : Vertex) (op : Operation) : Type 0 where
    place : ℕ
    get : Operation
    next : v ≡ suc place
    was : slice_get ops place ≡ Some get
    is : slice_get ops (suc place) ≡ Some op
    gets : list.is_get get.task ≡ true
    sets : op.task ≡ sets
    twin : x.twin ≡ Some place

  behind : (v : ℕ) (x : Vertex) (op : Operation) → slice_get ops v ≡ Some op → StandsFor g.bodies (0 + v) x op → x.kind ≡ Set → Behind v x op
  behind v x op is h e =
      let task = task-is v x op Set h e in
      let twin : IsTwin v sets x.twin = subst (λ m. IsTwin m sets x.twin) (zero-add v) (subst (λ t. IsTwin (0 + v) t x.twin) task h.twin) in
      let here = subst (λ m. slice_get ops m ≡ Some op) twin.1 is in
      let half = follow-at None ops halves twin.0 op here task in
      record { place = twin.0; get = half.0; next = twin.1; was = half.1; is = here; gets = half.2; sets = task; twin = twin.2 }

  has-get : (v : ℕ) (x : Vertex) (op : Operation) → Behind v x op → has_get_half g.vertices v x.twin ≡ true
  has-get v x op b = subst (λ m. has_get_half g.vertices m x.twin ≡ true) (sym b.next) (get-half b.place b.get x.twin (getting b.place b.get b.was b.gets) b.twin)

  pub twins-pass : (v : ℕ) (x : Vertex) (op : Operation) → slice_get ops v ≡ Some op → StandsFor g.bodies (0 + v) x op → has_twin g.vertices v x.kind x.twin ≡ true
  twins-pass v x op is h =
      twin-by v x.kind x.twin (λ z e. has-set v x op z is h e) (λ e. has-get v x op (behind v x op is h e))
      (subst (λ m. IsTwin m (task_of g.bodies x.kind) x.twin) (zero-add v) (subst (λ t. IsTwin (0 + v) t x.twin) (task-is v x op x.kind h refl) h.twin))

  single-by : (v : ℕ) (x : Vertex) (op : Operation) → StandsFor g.bodies (0 + v) x op → Behind v x op → length (lens_of g.vertices x.ins) ≡ 1
  single-by v x op h b =
      let f = fit-at (long g.vertices) None ops fit b.place b.get op b.was b.is in
      let t : IsTaskFit sets (Some b.get) (map (long g.vertices) op.ins) op.outs = subst (λ t. IsTaskFit t (Some b.get) (map (long g.vertices) op.ins) op.outs) b.sets f.task in
      let lens : lens_of g.vertices x.ins ≡ b.get.outs = sym (lens-same g.vertices x.ins) ∙ ap (λ (p : Operation). map (long g.vertices) p.ins) (sym h.same) ∙ t.1.1 in
      ap length lens ∙ ap length (getting b.place b.get b.was b.gets).outs

  -- a set half has one input
  pub set-single : (v : ℕ) (x : Vertex) (op : Operation) → slice_get ops v ≡ Some op → StandsFor g.bodies (0 + v) x op → x.kind ≡ Set → length (lens_of g.vertices x.ins) ≡ 1
  set-single v x op is h e = single-by v x op h (behind v x op is h e)
