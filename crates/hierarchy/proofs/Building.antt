-- Operations that are added one by one: what was built before stays, and the next one has the next number.
use Rattle.std.proofs.Common.{
  ◌≡◌,
  ℕ,
  zero,
  suc,
  ◌+◌,
  ◌<◌,
  ◌==◌,
  Bool,
  true,
  false,
  cond,
  ℤ,
  List,
  [],
  ◌∷◌,
  ◌++◌,
  length,
  map,
  get_or,
  drop,
  drop-cons,
  codes,
  Some,
  None,
  refl,
  sym,
  ap,
  ◌∙◌,
  subst,
  arith,
  length-append,
  append-nil,
  eq-eqb,
  ne_eqb,
}
use Rattle.std.proofs.lemmas.Bool.{false≢true, eqb-true}
use Rattle.std.proofs.lemmas.List.{append_assoc, get_or_append_left}
use Rattle.algo_tree.specs.declared.Source.{Source}
use Rattle.algo_tree.specs.declared.Source.TheVariants.{Of}
use Rattle.algo_tree.specs.Level.{Path}
use Rattle.algo_tree.specs.Tree as tree
use Rattle.algo_tree.specs.Tree.{Label, Vertices, and_vertex}
use Rattle.algo_tree.specs.Counted.{operations as count}
use Rattle.flat_graph.specs.Expr.{Expr}
use Rattle.flat_graph.specs.declared.vertex.Kind.{Kind}
use Rattle.flat_graph.specs.declared.vertex.Kind.TheVariants.{Sensor, Actuator, Function, Constant, Get, Set, Explode, Implode, Merge}
use Rattle.flat_graph.specs.declared.vertex.Vertex.{Vertex}
use Rattle.flat_graph.specs.Graph.{Graph}
use Rattle.flat_graph.specs.Meaning.{level_source, level_guard}
use Rattle.flat_laws.specs.Flat.{Operation, Task, runs, gets, sets}
use Rattle.flat_laws.specs.Inlined.{wire, wirings, operation_of, stage_input, stages, inlined, inlined_all, inlined_level}
use Rattle.flat_laws.specs.Plain.{IsPlain}
use Rattle.flat_laws.proofs.Wires.{long-plain}
use Rattle.algo_tree.specs.Texts.{path_text}
use Rattle.flat_laws.specs.Names.{stage_text, half_text}
use Rattle.flat_laws.specs.Stands.{task_of, IsTwin, StandsFor, AllStand}
use Rattle.flat_laws.specs.Numbering.{IsNumbered, AreNumbered, body_count}
use Rattle.hierarchy.specs.Built.{IsBodyThere, AreBodiesThere, Built, Adds, IsOperation, stage_pair}
use Rattle.syn_base.specs.Vectors.{Vector}

-- After n bodies an operation of this kind brings m more: a function has the one that it brings.
pub record Brings (n m : ℕ) (k : Kind) : Type 0 where
  pub numbered : IsNumbered n k
  pub many : m ≡ body_count k

-- more bodies change nothing for the operations that are there
task_more : (bodies more : List (List Expr)) (k : Kind) → IsBodyThere (length bodies) k → task_of bodies k ≡ task_of (bodies ++ more) k
task_more bodies more (Function b) h = ap (λ es. runs (tree.function es)) (sym (get_or_append_left bodies more [] b h))
task_more bodies more (Sensor i) h = refl
task_more bodies more (Actuator i) h = refl
task_more bodies more (Constant z) h = refl
task_more bodies more (Get z) h = refl
task_more bodies more Set h = refl
task_more bodies more Explode h = refl
task_more bodies more Implode h = refl
task_more bodies more (Merge values) h = refl

abbrev with_task : Path → ℕ → Vertex → Task → Operation
with_task path stage x task = record {
  path = path;
  stage = stage;
  definition = x.def;
  ins = map level_source x.ins;
  guards = map level_guard x.guards;
  outs = x.outs;
  task = task;
}

stands_more : (bodies more : List (List Expr)) (v : ℕ) (x : Vertex) (op : Operation) → IsBodyThere (length bodies) x.kind → StandsFor bodies v x op → StandsFor (bodies ++ more) v x op
stands_more bodies more v x op there h = record {
  same = h.same ∙ ap (with_task op.path op.stage x) (task_more bodies more x.kind there);
  name = h.name;
  twin = h.twin;
}

there_more : (n m : ℕ) (k : Kind) → IsBodyThere n k → IsBodyThere (n + m) k
there_more n m (Function b) h = omega (arith, h)
there_more n m (Sensor i) h = tt
there_more n m (Actuator i) h = tt
there_more n m (Constant z) h = tt
there_more n m (Get z) h = tt
there_more n m Set h = tt
there_more n m Explode h = tt
there_more n m Implode h = tt
there_more n m (Merge values) h = tt

all_stand : (bodies more : List (List Expr)) (v : ℕ) (xs : List Vertex) (ops : List Operation) (x : Vertex) (op : Operation) → AreBodiesThere (length bodies) xs
    → AllStand bodies v xs ops → StandsFor (bodies ++ more) (v + length ops) x op → AllStand (bodies ++ more) v (xs ++ x ∷ []) (ops ++ op ∷ [])
all_stand bodies more v [] [] x op there h here = (subst (λ n. StandsFor (bodies ++ more) n x op) (omega arith) here, tt)
all_stand bodies more v [] (o ∷ ops) x op there h here = absurd h
all_stand bodies more v (y ∷ xs) [] x op there h here = absurd h
all_stand bodies more v (y ∷ xs) (o ∷ ops) x op there h here =
    (stands_more bodies more v y o there.0 h.0, all_stand bodies more (suc v) xs ops x op there.1 h.1 (subst (λ n. StandsFor (bodies ++ more) n x op) (omega arith) here))

all_there : (n m : ℕ) (xs : List Vertex) (x : Vertex) → AreBodiesThere n xs → IsBodyThere (n + m) x.kind → AreBodiesThere (n + m) (xs ++ x ∷ [])
all_there n m [] x h here = (here, tt)
all_there n m (y ∷ xs) x h here = (there_more n m y.kind h.0, all_there n m xs x h.1 here)

brought_there : (n m : ℕ) (k : Kind) → Brings n m k → IsBodyThere (n + m) k
brought_there n m (Function b) h = omega (arith, h.numbered, h.many)
brought_there n m (Sensor i) h = tt
brought_there n m (Actuator i) h = tt
brought_there n m (Constant z) h = tt
brought_there n m (Get z) h = tt
brought_there n m Set h = tt
brought_there n m Explode h = tt
brought_there n m Implode h = tt
brought_there n m (Merge values) h = tt

all_numbered : (b n m : ℕ) (xs : List Vertex) (x : Vertex) → AreNumbered b n xs → Brings n m x.kind → AreNumbered b (n + m) (xs ++ x ∷ [])
all_numbered b n m [] x h here = (subst (λ k. IsNumbered k x.kind) (sym h) here.numbered, ap (λ k. k + body_count x.kind) h ∙ ap (λ k. n + k) (sym here.many))
all_numbered b n m (y ∷ xs) x h here = (h.0, all_numbered (b + body_count y.kind) n m xs x h.1 here)

stand_length : (bodies : List (List Expr)) (v : ℕ) (xs : List Vertex) (ops : List Operation) → AllStand bodies v xs ops → length xs ≡ length ops
stand_length bodies v [] [] h = refl
stand_length bodies v [] (o ∷ ops) h = absurd h
stand_length bodies v (y ∷ xs) [] h = absurd h
stand_length bodies v (y ∷ xs) (o ∷ ops) h = ap suc (stand_length bodies (suc v) xs ops h.1)

pub built_length : (g : Graph) (ops : List Operation) → Built g ops → length g.vertices ≡ length ops
built_length g ops h = stand_length g.bodies 0 g.vertices ops h.stands

-- one operation more
one_added : (old new : Graph) (x : Vertex) (more : List (List Expr)) (op : Operation) → new.vertices ≡ old.vertices ++ x ∷ [] → new.bodies ≡ old.bodies ++ more
    → StandsFor new.bodies (length old.vertices) x op → Brings (length old.bodies) (length more) x.kind → Adds old new (λ v. op ∷ [])
one_added old new x more op vertices bodies stands brings ops h =
    let next : length old.vertices ≡ 0 + length ops = let count = built_length old ops h in omega (arith, count) in
    let here : StandsFor (old.bodies ++ more) (0 + length ops) x op = subst (λ n. StandsFor (old.bodies ++ more) n x op) next (subst (λ bs. StandsFor bs (length old.vertices) x op) bodies stands) in
    let long : length new.bodies ≡ length old.bodies + length more = ap length bodies ∙ length-append old.bodies more in
    record {
      stands =
          subst (λ xs. AllStand new.bodies 0 xs (ops ++ op ∷ [])) (sym vertices)
          (subst (λ bs. AllStand bs 0 (old.vertices ++ x ∷ []) (ops ++ op ∷ [])) (sym bodies) (all_stand old.bodies more 0 old.vertices ops x op h.bodies h.stands here));
      bodies =
          subst (AreBodiesThere (length new.bodies)) (sym vertices)
          (subst (λ n. AreBodiesThere n (old.vertices ++ x ∷ [])) (sym long)
          (all_there (length old.bodies) (length more) old.vertices x h.bodies (brought_there (length old.bodies) (length more) x.kind brings)));
      order =
          subst (AreNumbered 0 (length new.bodies)) (sym vertices)
          (subst (λ n. AreNumbered 0 n (old.vertices ++ x ∷ [])) (sym long) (all_numbered 0 (length old.bodies) (length more) old.vertices x h.order brings));
    }

-- the vertex that stands for an operation
stands_for : (w : Source → Source) (l : Label) (ins : List Source) (outs : List ℕ) (x : Vertex) (bodies : List (List Expr)) (path : Path)
    (stage : ℕ) (task : Task) (v : ℕ) → IsOperation w l ins outs x → task_of bodies x.kind ≡ task
    → x.name ≡ path_text path ++ half_text task stage → IsTwin v task x.twin → StandsFor bodies v x (operation_of w path stage l ins outs task)
stands_for w l ins outs x bodies path stage task v is kind name twin = record {
  same = λ i. record {
    path = path;
    stage = stage;
    definition = (sym is.definition) i;
    ins = (sym is.ins) i;
    guards = (sym is.guards) i;
    outs = (sym is.outs) i;
    task = (sym kind) i;
  };
  name = name;
  twin = twin;
}

-- the one operation of a vertex
pub run_added : (old new : Graph) (w : Source → Source) (l : Label) (x : Vertex) (text : List ℕ) (k : tree.Kind) (t : Kind)
    (more : List (List Expr)) → new.vertices ≡ old.vertices ++ x ∷ [] → new.bodies ≡ old.bodies ++ more
    → IsOperation w l (map w l.ins) l.outs x → x.name ≡ text → x.kind ≡ t → x.twin ≡ None → task_of new.bodies t ≡ runs k → Brings (length old.bodies) (length more) t
    → (at : Path) → path_text at ≡ text → Adds old new (λ v. operation_of w at 0 l (map w l.ins) l.outs (runs k) ∷ [])
run_added old new w l x text k t more vertices bodies is name kind twin task brings at named =
    one_added old new x more (operation_of w at 0 l (map w l.ins) l.outs (runs k)) vertices bodies
    (stands_for w l (map w l.ins) l.outs x new.bodies at 0 (runs k) (length old.vertices) is (ap (task_of new.bodies) kind ∙ task) (name ∙ sym named ∙ sym (append-nil (path_text at))) twin)
    (subst (Brings (length old.bodies) (length more)) (sym kind) brings)

abbrev with_one : Graph → Vertex → Graph
with_one g x = record { vertices = g.vertices ++ x ∷ []; bodies = g.bodies }

-- the two halves of a stage of a delay
pub pair_added : (old new : Graph) (w : Source → Source) (l : Label) (i : ℕ) (z : List ℤ) (sources : List Source) (x y : Vertex)
    (text get_name set_name : List ℕ) (get set : ℕ) → new.vertices ≡ (old.vertices ++ x ∷ []) ++ y ∷ [] → new.bodies ≡ old.bodies
    → get ≡ length old.vertices → set ≡ suc (length old.vertices) → get_name ≡ text ++ (codes ":get" ++ stage_text i) → set_name ≡ text ++ (codes ":set" ++ stage_text i)
    → IsOperation w l [] l.outs x → x.name ≡ get_name → x.kind ≡ Get z → x.twin ≡ Some set → IsOperation w l sources [] y → y.name ≡ set_name → y.kind ≡ Set → y.twin ≡ Some get
    → (at : Path) → path_text at ≡ text → Adds old new (λ v. stage_pair w at i l z sources)
pair_added old new w l i z sources x y text get_name set_name get set vertices bodies get_is set_is get_named set_named is name kind twin is' name' kind' twin' at named ops h =
    let mid = with_one old x in
    let first = operation_of w at i l [] l.outs (gets z) in
    let second = operation_of w at i l sources [] sets in
    let long : length mid.vertices ≡ suc (length old.vertices) = length-append old.vertices (x ∷ []) ∙ omega arith in
    let a : Adds old mid (λ v. first ∷ []) =
    one_added old mid x [] first refl (sym (append-nil old.bodies))
    (stands_for w l [] l.outs x old.bodies at i (gets z) (length old.vertices) is (ap (task_of old.bodies) kind)
    (name ∙ get_named ∙ ap (λ t. t ++ (codes ":get" ++ stage_text i)) (sym named)) (twin ∙ ap Some set_is))
    (subst (Brings (length old.bodies) 0) (sym kind) (record { numbered = tt; many = refl })) in
    let b : Adds mid new (λ v. second ∷ []) =
    one_added mid new y [] second vertices (bodies ∙ sym (append-nil old.bodies))
    (stands_for w l sources [] y new.bodies at i sets (length mid.vertices) is' (ap (task_of new.bodies) kind')
    (name' ∙ set_named ∙ ap (λ t. t ++ (codes ":set" ++ stage_text i)) (sym named)) (length old.vertices, long, twin' ∙ ap Some get_is))
    (subst (Brings (length old.bodies) 0) (sym kind') (record { numbered = tt; many = refl })) in
    subst (Built new) (append_assoc ops (first ∷ []) (second ∷ [])) (b (ops ++ first ∷ []) (a ops h))

-- The stages of a delay, from the front. Whatever stages are added after those before stage i, all are added.
abbrev pub StagesRest : Graph → Graph → (Source → Source) → Path → Label → ℕ → List Vector → Type 0
StagesRest old now w at l i vs = (last : Graph) → Adds now last (λ v. stages w v at l i (drop i vs)) → Adds old last (λ v. stages w v at l 0 vs)

same_test : (m n : ℕ) (t : Bool) → (m == n) ≡ t → (m == n) ≡ (suc m == suc n)
same_test m n true e = e ∙ sym (eq-eqb (suc m) (suc n) (ap suc (eqb-true m n e)))
same_test m n false e = e ∙ sym (ne_eqb (suc m) (suc n) (λ k. false≢true (sym e ∙ eq-eqb m n (omega (arith, k)))))

-- what stage i takes, by whether it is the last
input_behind : (b i : ℕ) (ins : List Source) (vs : List Vector) → i < length vs → stage_input b ins (drop (suc i) vs) ≡ cond (suc i == length vs) ins (Of (b + 2) 0 ∷ [])
input_behind b i ins [] lt = absurd (omega arith)
input_behind b zero ins (v ∷ []) lt = refl
input_behind b zero ins (v ∷ (u ∷ vs)) lt = ap (λ t. cond t ins (Of (b + 2) 0 ∷ [])) (sym (ne_eqb 1 (suc (suc (length vs))) (λ e. omega (arith, e))))
input_behind b (suc i) ins (v ∷ vs) lt =
    input_behind b i ins vs (omega arith) ∙ ap (λ t. cond t ins (Of (b + 2) 0 ∷ [])) (same_test (suc i) (length vs) (suc i == length vs) refl)

pub input_is : (b i : ℕ) (ins : List Source) (vs : List Vector) → i < length vs → stage_input b ins (drop (i + 1) vs) ≡ cond (i + 1 == length vs) ins (Of (b + 2) 0 ∷ [])
input_is b i ins vs lt =
    let next : suc i ≡ i + 1 = omega arith in
    subst (λ k. stage_input b ins (drop k vs) ≡ cond (k == length vs) ins (Of (b + 2) 0 ∷ [])) next (input_behind b i ins vs lt)

-- the stage at a place and those after it
pub stages_from : (i : ℕ) (vs : List Vector) → i < length vs → drop i vs ≡ get_or vs i [] ∷ drop (i + 1) vs
stages_from i vs lt = let next : suc i ≡ i + 1 = omega arith in drop-cons vs i [] lt ∙ ap (λ k. get_or vs i [] ∷ drop k vs) next

pub stage_added : (old now next : Graph) (w : Source → Source) (at : Path) (l : Label) (i : ℕ) (z : Vector) (sources : List Source) (vs : List Vector) → drop i vs ≡ z ∷ drop (i + 1) vs
    → sources ≡ stage_input (length now.vertices) (map w l.ins) (drop (i + 1) vs) → Adds now next (λ v. stage_pair w at i l z sources)
    → StagesRest old now w at l i vs → StagesRest old next w at l (i + 1) vs
stage_added old now next w at l i z sources vs from takes one so_far last then = so_far last (λ ops h.
    let pair = stage_pair w at i l z sources in
    let rest = drop (i + 1) vs in
    let number : length now.vertices ≡ length ops = built_length now ops h in
    let long : length (ops ++ pair) ≡ length ops + 2 = length-append ops pair in
    let next_stage : i + 1 ≡ suc i = omega arith in
    let built : Built last ((ops ++ pair) ++ stages w (length (ops ++ pair)) at l (i + 1) rest) = then (ops ++ pair) (one ops h) in
    let placed : Built last (ops ++ (pair ++ stages w (length ops + 2) at l (suc i) rest)) =
    subst (Built last) (append_assoc ops pair (stages w (length ops + 2) at l (suc i) rest))
    (subst (λ j. Built last ((ops ++ pair) ++ stages w (length ops + 2) at l j rest)) next_stage
    (subst (λ n. Built last ((ops ++ pair) ++ stages w n at l (i + 1) rest)) long built)) in
    let wired : Built last (ops ++ stages w (length ops) at l i (z ∷ rest)) =
    subst (λ ins. Built last (ops ++
    (operation_of w at i l [] l.outs (gets z) ∷ operation_of w at i l ins [] sets ∷ stages w (length ops + 2) at l (suc i) rest)))
    (takes ∙ ap (λ n. stage_input n (map w l.ins) rest) number) placed in
    subst (λ us. Built last (ops ++ stages w (length ops) at l i us)) (sym from) wired)

pub stages_begin : (g : Graph) (w : Source → Source) (at : Path) (l : Label) (vs : List Vector) → StagesRest g g w at l 0 vs
stages_begin g w at l vs last adds = adds

pub stages_end : (old now : Graph) (w : Source → Source) (at : Path) (l : Label) (i : ℕ) (vs : List Vector) → drop i vs ≡ [] → StagesRest old now w at l i vs → Adds old now (λ v. stages w v at l 0 vs)
stages_end old now w at l i vs none so_far =
    so_far now (λ ops h. subst (λ us. Built now (ops ++ stages w (length ops) at l i us)) (sym none) (subst (Built now) (sym (append-nil ops)) h))

-- Operations of several vertices, from the front. Whatever else is added after them, all is added.
abbrev pub AddsRest : Graph → Graph → (Source → Source) → (Path → Path) → Vertices → Vertices → Type 0
AddsRest old now w at rest us = (last : Graph) → Adds now last (λ v. inlined_all w v at rest) → Adds old last (λ v. inlined_all w v at us)

pub vertex_added : (old now next : Graph) (w : Source → Source) (at : Path → Path) (u : tree.Vertex) (rest us : Vertices) → IsPlain u → Adds now next (λ v. inlined w v at u)
    → AddsRest old now w at (and_vertex u rest) us → AddsRest old next w at rest us
vertex_added old now next w at u rest us can one so_far last then = so_far last (λ ops h.
    let xs = inlined w (length ops) at u in
    let long : length (ops ++ xs) ≡ length ops + count u = length-append ops xs ∙ ap (λ n. length ops + n) (long-plain w (length ops) at u can) in
    subst (Built last) (append_assoc ops xs (inlined_all w (length ops + count u) at rest))
    (subst (λ n. Built last ((ops ++ xs) ++ inlined_all w n at rest)) long (then (ops ++ xs) (one ops h))))

pub all_added : (old now : Graph) (w : Source → Source) (at : Path → Path) (us : Vertices) → AddsRest old now w at tree.no_vertices us → Adds old now (λ v. inlined_all w v at us)
all_added old now w at us so_far = so_far now (λ ops h. subst (Built now) (sym (append-nil ops)) h)

-- the operations of a level, whose wires are those of its table
pub level_added : (old new : Graph) (w : Source → Source) (own : List Source) (first : ℕ) (at : Path → Path) (us : Vertices) → first ≡ length old.vertices → w ≡ wire (wirings first us) own
    → Adds old new (λ v. inlined_all w v at us) → Adds old new (λ v. inlined_level own v at us)
level_added old new w own first at us number leads adds ops h =
    let same : w ≡ wire (wirings (length ops) us) own = leads ∙ ap (λ n. wire (wirings n us) own) (number ∙ built_length old ops h) in
    subst (λ f. Built new (ops ++ inlined_all f (length ops) at us)) same (adds ops h)

-- from nothing
pub none_built : (g : Graph) → g.vertices ≡ [] → g.bodies ≡ [] → Built g []
none_built g is none = record {
  stands = subst (λ xs. AllStand g.bodies 0 xs []) (sym is) tt;
  bodies = subst (AreBodiesThere (length g.bodies)) (sym is) tt;
  order = subst (AreNumbered 0 (length g.bodies)) (sym is) (sym (ap length none));
}
