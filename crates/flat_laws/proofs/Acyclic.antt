-- A flat graph that stands for a flat list without cycles has none, though a set half also depends on its get half: that reads
-- nothing, under the same guards.
use Rattle.std.proofs.Common.{◌≡◌, ℕ, zero, suc, ◌+◌, ◌<◌, Bool, true, false, ◌&&◌, List, [], ◌∷◌, ◌++◌, map, length, slice_index_or, Option, Some, None, slice_get, refl, sym, ap, subst, arith, ◌∙◌}
use Rattle.std.specs.Prelude.{Contains, option_map}
use Rattle.std.proofs.lemmas.Bool.{false≢true}
use Rattle.std.proofs.lemmas.Option.{slice_get_within, slice_get-map}
use Rattle.std.proofs.lemmas.List.{length-map}
use Rattle.algo_tree.specs.Level.{Node, with_node}
use Rattle.algo_tree.specs.Order.{sources_ready, guards_ready, is_ready, settled, IsAcyclic}
use Rattle.algo_tree.proofs.Fuel.{and-left, and-right}
use Rattle.algo_tree.specs.Tree as tree
use Rattle.algo_tree.specs.Valid.{IsTree}
use Rattle.flat_graph.specs.Expr.{Expr}
use Rattle.flat_graph.specs.declared.vertex.Source.{Source}
use Rattle.flat_graph.specs.declared.vertex.Guard.{Guard}
use Rattle.flat_graph.specs.declared.vertex.Kind.{Kind}
use Rattle.flat_graph.specs.declared.vertex.Kind.TheVariants.{Sensor, Actuator, Function, Constant, Get, Set, Explode, Implode, Merge}
use Rattle.flat_graph.specs.declared.vertex.Vertex.{Vertex}
use Rattle.flat_graph.specs.Graph.{Graph}
use Rattle.flat_graph.specs.Order.{depends_on, get_half, is_acyclic}
use Rattle.flat_graph.specs.Cycles.{DependsOn, LeadsTo, at_once, through, AllAreThere}
use Rattle.flat_graph.specs.Meaning.{level_source, level_guard, is_get, no_state}
use Rattle.flat_graph.proofs.Loops.{rounds_find_cycles}
use Rattle.flat_laws.specs.Flat as list
use Rattle.flat_laws.specs.Flat.{Operation, sets, flat_level}
use Rattle.flat_laws.specs.Inlined.{operations}
use Rattle.flat_laws.specs.Plain.{IsPlain}
use Rattle.flat_laws.proofs.Flatten.{flatten-keeps}
use Rattle.flat_laws.specs.Stands.{task_of, operation_at, IsTwin, AllStand, Stands}
use Rattle.flat_laws.proofs.Stands.{get_task, vertex_of}
use Rattle.flat_laws.proofs.Halves.{Follow, follow-main, follow-at}

-- all that operation v depends on, however far, is there and comes to an end
data Ends (vertices : List Vertex) : ℕ → Type 0 where
  ends : {v : ℕ} → v < length vertices → ((u : ℕ) → DependsOn vertices v u → Ends vertices u) → Ends vertices v

module _ (vertices : List Vertex) where
  ends-range : (v : ℕ) → Ends vertices v → v < length vertices
  ends-range v (ends lt f) = lt

  ends-on : (v u : ℕ) → Ends vertices v → DependsOn vertices v u → Ends vertices u
  ends-on v u (ends lt f) d = f u d

  further : (v u w : ℕ) → LeadsTo vertices v u → DependsOn vertices u w → LeadsTo vertices v w
  further v u w (at_once d) e = through d (at_once e)
  further v u w (through {u = q} d rest) e = through d (further q u w rest e)

  ends-none : (v : ℕ) → Ends vertices v → LeadsTo vertices v v → ⊥
  ends-none v (ends lt f) (at_once d) = ends-none v (f v d) (at_once d)
  ends-none v (ends lt f) (through {u = u} d rest) = ends-none u (f u d) (further u v u rest d)

  starts : (v w : ℕ) → LeadsTo vertices v w → v < length vertices
  starts v w (at_once d) = slice_get_within vertices v d.at d.is
  starts v w (through d rest) = slice_get_within vertices v d.at d.is

  acyclic-from_ends : ((v : ℕ) → v < length vertices → Ends vertices v) → is_acyclic vertices ≡ true
  acyclic-from_ends all =
      let there : AllAreThere vertices = λ v u d. ends-range u (ends-on v u (all v (slice_get_within vertices v d.at d.is)) d) in
      (rounds_find_cycles vertices there).1 (λ v loop. ends-none v (all v (starts v v loop)) loop)

  abbrev AllEnd : List ℕ → Type 0
  AllEnd [] = Unit {0}
  AllEnd (u ∷ us) = Ends vertices u × AllEnd us

  all-append : (us vs : List ℕ) → AllEnd us → AllEnd vs → AllEnd (us ++ vs)
  all-append [] vs h k = k
  all-append (u ∷ us) vs h k = (h.0, all-append us vs h.1 k)

  at_place : (us : List ℕ) (k q d : ℕ) → AllEnd us → k < length us → slice_index_or us k d ≡ q → Ends vertices q
  at_place [] k q d h lt e = absurd (omega arith)
  at_place (u ∷ us) zero q d h lt e = subst (Ends vertices) e h.0
  at_place (u ∷ us) (suc k) q d h lt e = at_place us k q d h.1 (omega arith) e

  ends-from : (v : ℕ) (x : Vertex) → slice_get vertices v ≡ Some x → AllEnd (depends_on x) → Ends vertices v
  ends-from v x is all =
      ends (slice_get_within vertices v x is) (λ u d.
      let same : d.at ≡ x = let e = d.is in cc in
      let among = subst (λ (z : Vertex). Contains (depends_on z) u) same d.among in
      at_place (depends_on x) among.0 u u all among.1 among.2)

  half-end : (k : Kind) (t : Option ℕ) → ((u : ℕ) → k ≡ Set → t ≡ Some u → Ends vertices u) → AllEnd (get_half k t)
  half-end Set None h = tt
  half-end Set (Some u) h = (h u refl refl, tt)
  half-end (Sensor i) t h = tt
  half-end (Actuator i) t h = tt
  half-end (Function b) t h = tt
  half-end (Constant z) t h = tt
  half-end (Get z) t h = tt
  half-end Explode t h = tt
  half-end Implode t h = tt
  half-end (Merge values) t h = tt

  get-end : (k : Kind) (t : Option ℕ) → is_get k ≡ true → AllEnd (get_half k t)
  get-end k t h = half-end k t (λ u e s. absurd (false≢true (sym (ap is_get e) ∙ h)))

  -- where all that is done comes to an end
  module _ (done : ℕ → Bool) (before : (u : ℕ) → done u ≡ true → Ends vertices u) where
    guards-end : (gs : List Guard) → guards_ready done (map level_guard gs) ≡ true → AllEnd (map (λ d. d.source.vertex) gs)
    guards-end [] h = tt
    guards-end (d ∷ gs) h = (
      before d.source.vertex (and-left (done d.source.vertex) (guards_ready done (map level_guard gs)) h),
      guards-end gs (and-right (done d.source.vertex) (guards_ready done (map level_guard gs)) h),
    )

    sources-end : (ss : List Source) → sources_ready done (map level_source ss) ≡ true → AllEnd (map (λ s. s.vertex) ss)
    sources-end [] h = tt
    sources-end (s ∷ ss) h = (
      before s.vertex (and-left (done s.vertex) (sources_ready done (map level_source ss)) h),
      sources-end ss (and-right (done s.vertex) (sources_ready done (map level_source ss)) h),
    )

    ready-ends : (bodies : List (List Expr)) (v : ℕ) (op : Operation) (x : Vertex) → slice_get vertices v ≡ Some x → op ≡ operation_at bodies op.path op.stage x
        → guards_ready done op.guards ≡ true → sources_ready done op.ins ≡ true → AllEnd (get_half x.kind x.twin) → Ends vertices v
    ready-ends bodies v op x is same guards sources half =
        ends-from v x is (all-append (map (λ d. d.source.vertex) x.guards ++ map (λ s. s.vertex) x.ins) (get_half x.kind x.twin)
        (all-append (map (λ d. d.source.vertex) x.guards) (map (λ s. s.vertex) x.ins)
        (guards-end x.guards (subst (λ (o : Operation). guards_ready done o.guards ≡ true) same guards))
        (sources-end x.ins (subst (λ (o : Operation). sources_ready done o.ins ≡ true) same sources)))
        half)

pub same_length : (bodies : List (List Expr)) (a : ℕ) (xs : List Vertex) (ops : List Operation) → AllStand bodies a xs ops → length xs ≡ length ops
same_length bodies a [] [] h = refl
same_length bodies a [] (op ∷ ops) h = absurd h
same_length bodies a (x ∷ xs) [] h = absurd h
same_length bodies a (x ∷ xs) (op ∷ ops) h = ap suc (same_length bodies (suc a) xs ops h.1)

module _ (g : Graph) (ops : List Operation) (stands : Stands g ops) (halves : Follow None ops) where
  abbrev level : List Node
  level = flat_level (list.stages_of no_state) ops

  -- a set half's get half has the same guards and reads nothing
  get-ends : (done : ℕ → Bool) → ((u : ℕ) → done u ≡ true → Ends g.vertices u) → (u : ℕ) (op : Operation) → slice_get ops (suc u) ≡ Some op
      → op.task ≡ sets → guards_ready done op.guards ≡ true → Ends g.vertices u
  get-ends done before u op is set guards =
      let half = follow-at None ops halves u op is set in
      let o = half.0 in
      let y = vertex_of g.bodies 0 g.vertices ops stands u o half.1 in
      let get : is_get y.0.kind ≡ true = sym (get_task g.bodies y.0.kind) ∙ ap (λ (z : Operation). list.is_get z.task) (sym y.2.same) ∙ half.2 in
      ready-ends g.vertices done before g.bodies u o y.0 y.1 y.2.same
      (ap (guards_ready done) half.3 ∙ guards) (ap (sources_ready done) half.4) (get-end g.vertices y.0.kind y.0.twin get)

  step : (done : ℕ → Bool) → ((u : ℕ) → done u ≡ true → Ends g.vertices u) → (v : ℕ) (op : Operation) → slice_get ops v ≡ Some op
      → (guards_ready done op.guards && sources_ready done op.ins) ≡ true → Ends g.vertices v
  step done before v op is ready =
      let f = vertex_of g.bodies 0 g.vertices ops stands v op is in
      let x = f.0 in
      let guards = and-left (guards_ready done op.guards) (sources_ready done op.ins) ready in
      let sources = and-right (guards_ready done op.guards) (sources_ready done op.ins) ready in
      ready-ends g.vertices done before g.bodies v op x f.1 f.2.same guards sources
      (half-end g.vertices x.kind x.twin (λ u set twin.
      let task : op.task ≡ sets = ap (λ (o : Operation). o.task) f.2.same ∙ ap (task_of g.bodies) set in
      let pair = subst (λ t. IsTwin (0 + v) t x.twin) task f.2.twin in
      let named : pair.0 ≡ u = let e = pair.2 in cc in
      let place : v ≡ suc u = let e = pair.1 in omega (arith, e, named) in
      get-ends done before u op (subst (λ m. slice_get ops m ≡ Some op) place is) task guards))

  rounds : (k v : ℕ) → settled level k v ≡ true → Ends g.vertices v
  rounds zero v h = absurd (false≢true h)
  rounds (suc k) v h =
      by (slice_get ops v) refl (λ u e. rounds k u e) (sym (ap (λ o. with_node o false (is_ready (settled level k))) (slice_get-map (list.node_of (list.stages_of no_state)) ops v)) ∙ h)
    where
      by : (o : Option Operation) → slice_get ops v ≡ o → ((u : ℕ) → settled level k u ≡ true → Ends g.vertices u)
          → with_node (option_map (list.node_of (list.stages_of no_state)) o) false (is_ready (settled level k)) ≡ true → Ends g.vertices v
      by None e before r = absurd (false≢true r)
      by (Some op) e before r = step (settled level k) before v op e r

  no_cycle : IsAcyclic level → is_acyclic g.vertices ≡ true
  no_cycle acyclic =
      acyclic-from_ends g.vertices (λ v lt.
      let a = length-map ops (list.node_of (list.stages_of no_state)) in
      let b = same_length g.bodies 0 g.vertices ops stands in
      rounds (length level) v (acyclic v (omega (arith, a, b, lt))))

pub stands-acyclic : (main : tree.Vertex) (g : Graph) → IsTree main → IsPlain main → Stands g (operations main) → is_acyclic g.vertices ≡ true
stands-acyclic main g h plain stands = no_cycle g (operations main) stands (follow-main main) ((flatten-keeps main h plain).acyclic (list.stages_of no_state))
