-- The sensors and the actuators of the main graph: none stands inside another vertex, and they are numbered in order.
use Rattle.std.proofs.Common.{
  ◌≡◌,
  ℕ,
  suc,
  ◌+◌,
  true,
  false,
  List,
  [],
  ◌∷◌,
  ◌++◌,
  map,
  length,
  Option,
  Some,
  None,
  ◌⊎◌,
  inl,
  inr,
  refl,
  ap,
  sym,
  subst,
  ◌∙◌,
  arith,
  append_assoc,
  append-nil,
  add-zero,
  zero-add,
}
use Rattle.level_meaning.specs.declared.source.Source.{Source}
use Rattle.level_meaning.specs.declared.part.Part.{Part}
use Rattle.level_meaning.specs.declared.part.Part.TheVariants.{Named}
use Rattle.syn_base.specs.Bytes.{Bytes}
use Rattle.algo_rules.specs.declared.Port.{Port}
use Rattle.algo_rules.specs.Tree.{Vertex, vertex, Vertices, and_vertex}
use Rattle.algo_rules.specs.View.{vertices_of}
use Rattle.algo_rules.specs.Meaning.{vertices_in}
use Rattle.algo_rules.specs.Typed.{label_of}
use Rattle.algo_rules.specs.Ends.{AllNoEnds, NoneInside, AreEndsNumbered, sensor_number, sensor_numbers, actuator_number, actuator_numbers}
use Rattle.algo_rules.specs.declared.Def.{Def}
use Rattle.algo_rules.specs.declared.Body.{Body}
use Rattle.algo_rules.specs.declared.Body.TheVariants.{Sensor, Actuator, Constant, Delay, Function, Graph, Switch, Repeat}
use Rattle.algo_rules.specs.declared.Reference.{Reference}
use Rattle.algo_rules.specs.declared.Edge.{Edge}
use Rattle.algo_rules.specs.Links.{definition, is_main, may_stand, mentions_in}
use Rattle.algo_rules.specs.Ports.{ports_of}
use Rattle.algo_rules.specs.declared.ports.Ports.{Ports}
use Rattle.algo_rules.specs.Resolved.{Making, vertex_within, vertex_by, references_from, sources_to, kind_by, inner_by, is_main_graph, sensor_count, actuator_count}
use Rattle.algo_laws.proofs.Firsts.{Each}
use Rattle.algo_laws.proofs.Standing.{Stands, not_main}
use Rattle.algo_laws.proofs.Ends.{AllStand, reference_line, inner_no_ends, no_ends}
use Rattle.syn_base.specs.Numbers.{numbers_below}

-- a definition of this name is not `main`
abbrev pub IsOther : Bytes → Option Def → Type 0
IsOther w None = Unit {0}
IsOther w (Some d) = is_main w ≡ false

other_by : (owner : Bytes) (r : Reference) (o : Option Def) → may_stand owner (reference_line r) o ≡ true → IsOther r.def o
other_by owner r None h = tt
other_by owner r (Some d) h = not_main owner (reference_line r) d h

other_no_ends : (ds : List Def) (n : ℕ) → AllStand ds → (part : Part) (w : Bytes) (ins : List Source) (s a : ℕ) (o : Option Def) → definition ds w ≡ o → IsOther w o
    → AllNoEnds (vertices_in (vertex_by ds (vertex_within ds n) part w ins s a o))
other_no_ends ds n stand part w ins s a None e k = tt
other_no_ends ds n stand part w ins s a (Some d) e k = inner_no_ends ds (vertex_within ds n) (no_ends ds stand n) w k d.line d.body (stand w d e)

none_front : (u : Vertex) (us : Vertices) → AllNoEnds (vertices_in u) → NoneInside us → NoneInside (and_vertex u us)
none_front (vertex l vs) us h k = (h, k)

module _ (ds : List Def) (n : ℕ) (ins : List Port) (all : List Reference) (edges : List Edge) where
  abbrev made : ℕ → ℕ → List Reference → Vertices
  made s a rs = vertices_of (references_from ds (vertex_within ds (suc n)) ins all edges s a rs)

  references_none_inside : AllStand ds → (owner : Bytes) (s a : ℕ) (rs : List Reference) → Each (Stands ds owner) (map reference_line rs) → NoneInside (made s a rs)
  references_none_inside stand owner s a [] k = tt
  references_none_inside stand owner s a (r ∷ rs) k =
      none_front _ _ (other_no_ends ds n stand _ r.def _ s a (definition ds r.def) refl (other_by owner r (definition ds r.def) k.0))
      (references_none_inside stand owner (s + sensor_count (definition ds r.def)) (a + actuator_count (definition ds r.def)) rs k.1)

-- a vertex has this number, or none
abbrev Counts : List ℕ → ℕ → ℕ → Type 0
Counts ks one n = ((one ≡ 1) × (ks ≡ n ∷ [])) ⊎ ((one ≡ 0) × (ks ≡ []))

one_more : (n : ℕ) (xs : List ℕ) → numbers_below (suc n) ++ xs ≡ numbers_below (suc n + length xs) → numbers_below n ++ n ∷ xs ≡ numbers_below (n + length (n ∷ xs))
one_more n xs h = sym (append_assoc (numbers_below n) (n ∷ []) xs) ∙ h ∙ ap numbers_below (let e : suc n + length xs ≡ n + length (n ∷ xs) = omega arith in e)

-- one vertex in front of those that are numbered after it
in_front : (ks : List ℕ) (one n : ℕ) (xs : List ℕ) → Counts ks one n → numbers_below (n + one) ++ xs ≡ numbers_below ((n + one) + length xs)
    → numbers_below n ++ (ks ++ xs) ≡ numbers_below (n + length (ks ++ xs))
in_front ks one n xs (inl c) h =
    let next : n + one ≡ suc n = omega (arith, c.0) in
    let moved : numbers_below (suc n) ++ xs ≡ numbers_below (suc n + length xs) = subst (λ (m : ℕ). numbers_below m ++ xs ≡ numbers_below (m + length xs)) next h in
    subst (λ (ys : List ℕ). numbers_below n ++ (ys ++ xs) ≡ numbers_below (n + length (ys ++ xs))) (sym c.1) (one_more n xs moved)
in_front ks one n xs (inr c) h =
    let same : n + one ≡ n = omega (arith, c.0) in
    let moved : numbers_below n ++ xs ≡ numbers_below (n + length xs) = subst (λ (m : ℕ). numbers_below m ++ xs ≡ numbers_below (m + length xs)) same h in
    subst (λ (ys : List ℕ). numbers_below n ++ (ys ++ xs) ≡ numbers_below (n + length (ys ++ xs))) (sym c.1) moved

module _ (ds : List Def) (n : ℕ) where
  abbrev make : Making
  make = vertex_within ds n

  sensor_by : (own : Ports) (s a : ℕ) (b : Body) (d : Def) → d.body ≡ b → Counts (sensor_number (kind_by ds make own s a b)) (sensor_count (Some (record { name = d.name; line = d.line; body = b }))) s
  sensor_by own s a (Sensor len) d e = inl (refl, refl)
  sensor_by own s a (Actuator len) d e = inr (refl, refl)
  sensor_by own s a (Constant values) d e = inr (refl, refl)
  sensor_by own s a (Delay depth values) d e = inr (refl, refl)
  sensor_by own s a (Function ins outs) d e = inr (refl, refl)
  sensor_by own s a (Graph ins outs references edges) d e = inr (refl, refl)
  sensor_by own s a (Switch on ins outs cases otherwise last) d e = inr (refl, refl)
  sensor_by own s a (Repeat copies def lines) d e = inr (refl, refl)

  actuator_by : (own : Ports) (s a : ℕ) (b : Body) (d : Def) → d.body ≡ b
      → Counts (actuator_number (kind_by ds make own s a b)) (actuator_count (Some (record { name = d.name; line = d.line; body = b }))) a
  actuator_by own s a (Sensor len) d e = inr (refl, refl)
  actuator_by own s a (Actuator len) d e = inl (refl, refl)
  actuator_by own s a (Constant values) d e = inr (refl, refl)
  actuator_by own s a (Delay depth values) d e = inr (refl, refl)
  actuator_by own s a (Function ins outs) d e = inr (refl, refl)
  actuator_by own s a (Graph ins outs references edges) d e = inr (refl, refl)
  actuator_by own s a (Switch on ins outs cases otherwise last) d e = inr (refl, refl)
  actuator_by own s a (Repeat copies def lines) d e = inr (refl, refl)

  sensor_of : (part : Part) (w : Bytes) (ins : List Source) (s a : ℕ) (o : Option Def) → Counts (sensor_number (label_of (vertex_by ds make part w ins s a o)).kind) (sensor_count o) s
  sensor_of part w ins s a None = inr (refl, refl)
  sensor_of part w ins s a (Some d) = sensor_by (ports_of ds w) s a d.body d refl

  actuator_of : (part : Part) (w : Bytes) (ins : List Source) (s a : ℕ) (o : Option Def) → Counts (actuator_number (label_of (vertex_by ds make part w ins s a o)).kind) (actuator_count o) a
  actuator_of part w ins s a None = inr (refl, refl)
  actuator_of part w ins s a (Some d) = actuator_by (ports_of ds w) s a d.body d refl

abbrev IsNumberedFrom : ℕ → List ℕ → Type 0
IsNumberedFrom n ks = numbers_below n ++ ks ≡ numbers_below (n + length ks)

sensor_put : (u : Vertex) (us : Vertices) (one s : ℕ) → Counts (sensor_number (label_of u).kind) one s
    → IsNumberedFrom (s + one) (sensor_numbers us) → IsNumberedFrom s (sensor_numbers (and_vertex u us))
sensor_put (vertex l vs) us one s c h = in_front (sensor_number l.kind) one s (sensor_numbers us) c h

actuator_put : (u : Vertex) (us : Vertices) (one a : ℕ) → Counts (actuator_number (label_of u).kind) one a
    → IsNumberedFrom (a + one) (actuator_numbers us) → IsNumberedFrom a (actuator_numbers (and_vertex u us))
actuator_put (vertex l vs) us one a c h = in_front (actuator_number l.kind) one a (actuator_numbers us) c h

module _ (ds : List Def) (n : ℕ) (ins : List Port) (all : List Reference) (edges : List Edge) where
  abbrev fed : Reference → List Source
  fed r = sources_to (ports_of ds) ins all edges (Some r.name) (ports_of ds r.def).ins

  abbrev one : Reference → ℕ → ℕ → Vertex
  one r s a = vertex_within ds (suc n) (Named r.name) r.def (fed r) s a

  sensors : (s a : ℕ) (rs : List Reference) → IsNumberedFrom s (sensor_numbers (made ds n ins all edges s a rs))
  sensors s a [] = append-nil (numbers_below s) ∙ ap numbers_below (sym (add-zero s))
  sensors s a (r ∷ rs) =
      sensor_put (one r s a) (made ds n ins all edges (s + sensor_count (definition ds r.def)) (a + actuator_count (definition ds r.def)) rs) (sensor_count (definition ds r.def)) s
      (sensor_of ds n (Named r.name) r.def (fed r) s a (definition ds r.def)) (sensors (s + sensor_count (definition ds r.def)) (a + actuator_count (definition ds r.def)) rs)

  actuators : (s a : ℕ) (rs : List Reference) → IsNumberedFrom a (actuator_numbers (made ds n ins all edges s a rs))
  actuators s a [] = append-nil (numbers_below a) ∙ ap numbers_below (sym (add-zero a))
  actuators s a (r ∷ rs) =
      actuator_put (one r s a) (made ds n ins all edges (s + sensor_count (definition ds r.def)) (a + actuator_count (definition ds r.def)) rs) (actuator_count (definition ds r.def)) a
      (actuator_of ds n (Named r.name) r.def (fed r) s a (definition ds r.def)) (actuators (s + sensor_count (definition ds r.def)) (a + actuator_count (definition ds r.def)) rs)

  numbered : (rs : List Reference) → AreEndsNumbered (made ds n ins all edges 0 0 rs)
  numbered rs = record {
    sensors = sensors 0 0 rs ∙ ap numbers_below (zero-add (length (sensor_numbers (made ds n ins all edges 0 0 rs))));
    actuators = actuators 0 0 rs ∙ ap numbers_below (zero-add (length (actuator_numbers (made ds n ins all edges 0 0 rs))));
  }

-- the definition of `main` is a graph
abbrev pub IsGraphOf : Option Def → Type 0
IsGraphOf None = ⊥
IsGraphOf (Some d) = is_main_graph d.body ≡ true

module _ (ds : List Def) (n : ℕ) where
  graph_none : AllStand ds → (w : Bytes) (line : ℕ) (b : Body) → is_main_graph b ≡ true → Each (Stands ds w) (mentions_in line b) → NoneInside (vertices_of (inner_by ds (vertex_within ds (suc n)) b))
  graph_none stand w line (Graph ins outs references edges) h k = references_none_inside ds n ins references edges stand w 0 0 references k
  graph_none stand w line (Sensor len) h k = cc
  graph_none stand w line (Actuator len) h k = cc
  graph_none stand w line (Constant values) h k = cc
  graph_none stand w line (Delay depth values) h k = cc
  graph_none stand w line (Function ins outs) h k = cc
  graph_none stand w line (Switch on ins outs cases otherwise last) h k = cc
  graph_none stand w line (Repeat copies def lines) h k = cc

  graph_numbered : (b : Body) → is_main_graph b ≡ true → AreEndsNumbered (vertices_of (inner_by ds (vertex_within ds (suc n)) b))
  graph_numbered (Graph ins outs references edges) h = numbered ds n ins references edges references
  graph_numbered (Sensor len) h = cc
  graph_numbered (Actuator len) h = cc
  graph_numbered (Constant values) h = cc
  graph_numbered (Delay depth values) h = cc
  graph_numbered (Function ins outs) h = cc
  graph_numbered (Switch on ins outs cases otherwise last) h = cc
  graph_numbered (Repeat copies def lines) h = cc

  pub main_none : AllStand ds → (part : Part) (w : Bytes) (ins : List Source) (s a : ℕ) (o : Option Def) → definition ds w ≡ o → IsGraphOf o
      → NoneInside (vertices_in (vertex_by ds (vertex_within ds (suc n)) part w ins s a o))
  main_none stand part w ins s a None e h = absurd h
  main_none stand part w ins s a (Some d) e h = graph_none stand w d.line d.body h (stand w d e)

  pub main_numbered : (part : Part) (w : Bytes) (ins : List Source) (s a : ℕ) (o : Option Def) → IsGraphOf o → AreEndsNumbered (vertices_in (vertex_by ds (vertex_within ds (suc n)) part w ins s a o))
  main_numbered part w ins s a None h = absurd h
  main_numbered part w ins s a (Some d) h = graph_numbered d.body h
