-- The sensors and actuators of a flat graph have the lengths that those of the tree have.
use Rattle.std.proofs.Common.{◌≡◌, ℕ, suc, List, [], ◌∷◌, ◌++◌, length, map, Option, Some, None, refl, sym, ap, ap₂, ◌∙◌, subst, arith}
use Rattle.algo_tree.specs.declared.Source.{Source}
use Rattle.algo_tree.specs.Level.{Path}
use Rattle.algo_tree.specs.Tree as tree
use Rattle.algo_tree.specs.Tree.{Label, sensor, actuator, constant, delay, function, explode, implode, merge, graph, switch, repeat, vertex, Vertices, no_vertices, and_vertex}
use Rattle.algo_tree.specs.Ends.{IsNoEnd, first_length, sensor_length, actuator_length, sensor_lengths_in, actuator_lengths_in}
use Rattle.algo_tree.specs.Meaning.{nodes}
use Rattle.algo_tree.specs.Typed.{outs_of, source_length, IsKindTyped, IsTyped, AllTyped, IsBodyTyped}
use Rattle.algo_tree.specs.Valid.{IsTree}
use Rattle.flat_graph.specs.Expr.{Expr}
use Rattle.flat_graph.specs.declared.vertex.Kind.{Kind}
use Rattle.flat_graph.specs.declared.vertex.Kind.TheVariants.{Sensor, Actuator, Function, Constant, Get, Set, Explode, Implode, Merge}
use Rattle.flat_graph.specs.declared.vertex.Vertex.{Vertex}
use Rattle.flat_graph.specs.Graph.{Graph, lens_of}
use Rattle.flat_graph.specs.Laws.{sensor_len, sensor_lens, actuator_lens, actuator_len}
use Rattle.flat_laws.specs.Flat.{Operation, Task, runs, gets, sets}
use Rattle.flat_laws.specs.Inlined.{wire, wirings, operations}
use Rattle.flat_laws.specs.Plain.{IsPlain}
use Rattle.flat_laws.proofs.Inlinable.{IsKindInlinable, CanInline, can_inline}
use Rattle.algo_tree.proofs.Lists.{map_map}
use Rattle.flat_laws.specs.EndLengths.{HasEndLengths}
use Rattle.flat_laws.specs.Stands.{task_of, AllStand, Stands}
use Rattle.flat_laws.proofs.Ends.{IsNoEndTask, told_in, told_of, main_wire, told-main}
use Rattle.flat_laws.proofs.Fits.{AllFit, IsTaskFit, fit-main}
use Rattle.flat_laws.proofs.KindTests.{long, lens-same}
use Rattle.flat_laws.proofs.Lengths.{same_map, Outs, measures-all}
use Rattle.flat_laws.proofs.Valid.{outs-main}

-- sensors
abbrev sensed : Task → List ℕ → List ℕ
sensed (runs k) outs = sensor_length k outs
sensed (gets vs) outs = []
sensed sets outs = []

abbrev sensor_told : Operation → List ℕ
sensor_told op = sensed op.task op.outs

no-sensor : (k : tree.Kind) (outs : List ℕ) → IsNoEnd k → sensor_length k outs ≡ []
no-sensor (sensor n) outs h = absurd h
no-sensor (actuator n) outs h = absurd h
no-sensor (constant v) outs h = refl
no-sensor (delay v) outs h = refl
no-sensor (function es) outs h = refl
no-sensor explode outs h = refl
no-sensor implode outs h = refl
no-sensor (merge values) outs h = refl
no-sensor (graph sources) outs h = refl
no-sensor (switch values names) outs h = refl
no-sensor (repeat n feeds gives) outs h = refl

none-sensed : (op : Operation) → IsNoEndTask op.task → sensor_told op ≡ []
none-sensed op h = by op.task h
  where
    by : (t : Task) → IsNoEndTask t → sensed t op.outs ≡ []
    by (runs k) f = no-sensor k op.outs f
    by (gets vs) f = refl
    by sets f = refl

tree-sensed : (W : Source → Source) (at : Path → Path) (us : Vertices) → told_of sensor_told none-sensed W at us ≡ sensor_lengths_in us
tree-sensed W at no_vertices = refl
tree-sensed W at (and_vertex (vertex l vs) us) = ap (λ xs. sensor_length l.kind l.outs ++ xs) (tree-sensed W at us)

sensed-kind : (bodies : List (List Expr)) (k : Kind) (outs : List ℕ) → sensor_len k outs ≡ sensed (task_of bodies k) outs
sensed-kind bodies (Sensor i) outs = refl
sensed-kind bodies (Actuator i) outs = refl
sensed-kind bodies (Function b) outs = refl
sensed-kind bodies (Constant z) outs = refl
sensed-kind bodies (Get z) outs = refl
sensed-kind bodies Set outs = refl
sensed-kind bodies Explode outs = refl
sensed-kind bodies Implode outs = refl
sensed-kind bodies (Merge values) outs = refl

flat-sensed : (bodies : List (List Expr)) (v : ℕ) (xs : List Vertex) (ops : List Operation) → AllStand bodies v xs ops → sensor_lens xs ≡ told_in sensor_told none-sensed ops
flat-sensed bodies v [] [] h = refl
flat-sensed bodies v [] (op ∷ ops) h = absurd h
flat-sensed bodies v (x ∷ xs) [] h = absurd h
flat-sensed bodies v (x ∷ xs) (op ∷ ops) h = ap₂ (λ ns ms. ns ++ ms) (sensed-kind bodies x.kind x.outs ∙ sym (ap sensor_told h.0.same)) (flat-sensed bodies (suc v) xs ops h.1)

-- actuators
abbrev took : Task → List ℕ → List ℕ
took (runs k) lens = actuator_length k lens
took (gets vs) lens = []
took sets lens = []

no-actuator : (k : tree.Kind) (lens : List ℕ) → IsNoEnd k → actuator_length k lens ≡ []
no-actuator (sensor n) lens h = absurd h
no-actuator (actuator n) lens h = absurd h
no-actuator (constant v) lens h = refl
no-actuator (delay v) lens h = refl
no-actuator (function es) lens h = refl
no-actuator explode lens h = refl
no-actuator implode lens h = refl
no-actuator (merge values) lens h = refl
no-actuator (graph sources) lens h = refl
no-actuator (switch values names) lens h = refl
no-actuator (repeat n feeds gives) lens h = refl

-- a list of one length
only_first : (lens : List ℕ) → length lens ≡ 1 → lens ≡ first_length lens ∷ []
only_first [] h = absurd (omega arith)
only_first (n ∷ []) h = refl
only_first (n ∷ m ∷ lens) h = absurd (omega arith)

module _ (g : Graph) where
  abbrev taken : Operation → List ℕ
  taken op = took op.task (map (long g.vertices) op.ins)

  none-taken : (op : Operation) → IsNoEndTask op.task → taken op ≡ []
  none-taken op h = by op.task h
    where
      by : (t : Task) → IsNoEndTask t → took t (map (long g.vertices) op.ins) ≡ []
      by (runs k) f = no-actuator k (map (long g.vertices) op.ins) f
      by (gets vs) f = refl
      by sets f = refl

  tree-taken : (W : Source → Source) (len : Source → ℕ) → ((s : Source) → long g.vertices (W s) ≡ len s)
      → (at : Path → Path) (us : Vertices) → told_of taken none-taken W at us ≡ actuator_lengths_in len us
  tree-taken W len all at no_vertices = refl
  tree-taken W len all at (and_vertex (vertex l vs) us) =
      ap₂ (λ ns ms. actuator_length l.kind ns ++ ms) (map_map (long g.vertices) W l.ins ∙ same_map (λ s. long g.vertices (W s)) len all l.ins) (tree-taken W len all at us)

  took-kind : (x : Vertex) (k : Kind) (before : Option Operation) → IsTaskFit (task_of g.bodies k) before (lens_of g.vertices x.ins) x.outs
      → actuator_len g x k ≡ took (task_of g.bodies k) (lens_of g.vertices x.ins)
  took-kind x (Actuator i) before h = only_first (lens_of g.vertices x.ins) h.0
  took-kind x (Sensor i) before h = refl
  took-kind x (Function b) before h = refl
  took-kind x (Constant z) before h = refl
  took-kind x (Get z) before h = refl
  took-kind x Set before h = refl
  took-kind x Explode before h = refl
  took-kind x Implode before h = refl
  took-kind x (Merge values) before h = refl

  flat-taken : (before : Option Operation) (v : ℕ) (xs : List Vertex) (ops : List Operation) → AllStand g.bodies v xs ops
      → AllFit (long g.vertices) before ops → actuator_lens g xs ≡ told_in taken none-taken ops
  flat-taken before v [] [] h fit = refl
  flat-taken before v [] (op ∷ ops) h fit = absurd h
  flat-taken before v (x ∷ xs) [] h fit = absurd h
  flat-taken before v (x ∷ xs) (op ∷ ops) h fit =
      let same = lens-same g.vertices x.ins in
      let task : IsTaskFit (task_of g.bodies x.kind) before (lens_of g.vertices x.ins) x.outs =
      subst (λ ns. IsTaskFit (task_of g.bodies x.kind) before ns x.outs) same (subst (λ (o : Operation). IsTaskFit o.task before (map (long g.vertices) o.ins) o.outs) h.0.same fit.0.task) in
      ap₂ (λ ns ms. ns ++ ms) (took-kind x x.kind before task ∙ sym (ap (took (task_of g.bodies x.kind)) same) ∙ sym (ap taken h.0.same)) (flat-taken (Some op) (suc v) xs ops h.1 fit.1)

-- where the sources of the main graph lead, values have the lengths that the tree gives
wired : (g : Graph) (l : Label) (us : Vertices) → l.kind ≡ graph [] → CanInline (vertex l us) → IsTyped [] (vertex l us) → Outs (long g.vertices) (λ k. refl) 0 (operations (vertex l us))
    → (s : Source) → long g.vertices (wire (wirings 0 us) [] s) ≡ source_length [] (outs_of us) s
wired g l us e h t m =
    let typed = (subst (λ k. IsKindTyped k [] l.outs (outs_of us) (λ own outs. AllTyped own outs us) (λ fed. IsBodyTyped fed us)) e t.1).0 in
    let level = subst (λ k. IsKindInlinable k l.guards (nodes us)) e h.0 in
    measures-all (long g.vertices) (λ k. refl) us h.1 [] [] 0 (λ q. q) level.1.0 typed (λ k. refl) m

pub stands-lengths : (main : tree.Vertex) (g : Graph) → IsTree main → IsPlain main → Stands g (operations main) → HasEndLengths main g
stands-lengths (vertex l us) g h plain stands =
    let main = vertex l us in
    let m = outs-main g (operations main) stands in
    let fit = fit-main (long g.vertices) (λ k. refl) main h plain m in
    record {
      sensors = flat-sensed g.bodies 0 g.vertices (operations main) stands ∙ told-main sensor_told none-sensed main h.inside ∙ tree-sensed (main_wire sensor_told none-sensed main) (λ q. q) us;
      actuators =
          flat-taken g None 0 g.vertices (operations main) stands fit
          ∙ told-main (taken g) (none-taken g) main h.inside
          ∙ tree-taken g (wire (wirings 0 us) []) (source_length [] (outs_of us)) (wired g l us h.portless.kind (can_inline [] main h.well h.typed plain) h.typed m) (λ q. q) us;
    }
