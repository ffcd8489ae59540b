-- A tree without cases has the same meaning.
use Rattle.std.proofs.Common.{◌≡◌, ℤ, ℕ, zero, suc, ◌+◌, ◌==◌, inl, inr, List, [], ◌∷◌, ◌++◌, length, map, slice_index_or, Bool, true, false, cond, ◌&&◌, refl, sym, ap, ap₂, ◌∙◌, subst, zero-add}
use Rattle.std.proofs.lemmas.List.{map-append}
use Rattle.algo_tree.specs.declared.Source.{Source}
use Rattle.algo_tree.specs.declared.Source.TheVariants.{Own, Of}
use Rattle.algo_tree.specs.declared.Guard.{Guard}
use Rattle.algo_tree.specs.Level.{State, Node, selected, source_value, all_hold, node_next, level_value, graph_outputs, graph_next, switch_outputs, switch_next}
use Rattle.algo_tree.specs.Order.{IsAcyclic}
use Rattle.algo_tree.specs.Parts.{HasDistinctParts}
use Rattle.algo_tree.specs.Tree.{Label, Kind, sensor, actuator, constant, delay, function, explode, implode, merge, graph, switch, repeat, Vertex, vertex, Vertices, no_vertices, and_vertex}
use Rattle.algo_tree.specs.Code.{count_of, join}
use Rattle.algo_tree.specs.Meaning.{asked_by, behaviour, behaviour_of, node, nodes, past, actuator_values, actuator_value, input_value}
use Rattle.algo_tree.specs.Well.{IsEmpty, IsKindWell, IsWell, AllWell, IsOwn, AreOwn, OwnGuards, AreCases}
use Rattle.algo_tree.specs.Valid.{IsTree}
use Rattle.algo_tree.specs.SameMeaning.{KeepsMeaning}
use Rattle.algo_tree.proofs.Segments.{asked_or}
use Rattle.algo_tree.specs.NoRepeat.{IsNoRepeat, HasNoRepeat, AllNoRepeat}
use Rattle.algo_tree.specs.Relabelled.{with_kind}
use Rattle.algo_tree.proofs.Lists.{append_right}
use Rattle.flat_laws.specs.Guarded.{
  shift,
  shift_guard,
  guard_sources,
  own_guards,
  guard_for,
  merges,
  merge_sources,
  switch_inside,
  operation_under,
  graph_under,
  guarded_by,
  guarded,
  guarded_all,
  guarded_cases,
  guard,
}
use Rattle.flat_laws.proofs.Guards.{Follows, Under, AllUnder, hold-append, own-hold, graph-still, idle-still, first-same, graph_next-same, graph_outputs-same, level-follows}
use Rattle.flat_laws.proofs.Cases.{IsFed, CasesUnder, cases_level, switch-idle, switch_outputs-same, switch_next-same, cases_level-acyclic, switch_first-same}
use Rattle.syn_base.specs.Vectors.{Vector, Values, vector_at, zeros}

-- sources and guards that are shifted
own-shift : (n : ℕ) (ss : List Source) → AreOwn ss → AreOwn (map (shift n) ss)
own-shift n [] h = tt
own-shift n (Own k ∷ ss) h = (tt, own-shift n ss h.1)
own-shift n (Of r p ∷ ss) h = absurd h.0

own_guards-shift : (n : ℕ) (gs : List Guard) → OwnGuards gs → OwnGuards (map (shift_guard n) gs)
own_guards-shift n [] h = tt
own_guards-shift n (g ∷ gs) h = (one g.source h.0, own_guards-shift n gs h.1)
  where
    one : (s : Source) → IsOwn s → IsOwn (shift n s)
    one (Own k) h = tt
    one (Of r p) h = absurd h

own-append : (xs ys : List Source) → AreOwn xs → AreOwn ys → AreOwn (xs ++ ys)
own-append [] ys h k = k
own-append (x ∷ xs) ys h k = (h.0, own-append xs ys h.1 k)

pub own_guards-append : (xs ys : List Guard) → OwnGuards xs → OwnGuards ys → OwnGuards (xs ++ ys)
own_guards-append [] ys h k = k
own_guards-append (x ∷ xs) ys h k = (h.0, own_guards-append xs ys h.1 k)

own-sources : (gs : List Guard) → OwnGuards gs → AreOwn (guard_sources gs)
own-sources [] h = tt
own-sources (g ∷ gs) h = (h.0, own-sources gs h.1)

pub own-own : (i : ℕ) (gs : List Guard) → OwnGuards (own_guards i gs)
own-own i [] = tt
own-own i (g ∷ gs) = (tt, own-own (suc i) gs)

own-asked : (k : Kind) (ss : List Source) → AreOwn ss → AreOwn (asked_by k ss)
own-asked k ss h = elim (asked_or k ss) [ inl e ↦ subst AreOwn (sym e) tt | inr e ↦ subst AreOwn (sym e) h ]

pub asked-map : (k : Kind) (f : Source → Source) (ss : List Source) → asked_by k (map f ss) ≡ map f (asked_by k ss)
asked-map (sensor m) f ss = refl
asked-map (actuator m) f ss = refl
asked-map (constant v) f ss = refl
asked-map (delay v) f ss = refl
asked-map (function es) f ss = refl
asked-map explode f ss = refl
asked-map implode f ss = refl
asked-map (merge values) f ss = refl
asked-map (graph sources) f ss = refl
asked-map (switch values names) f ss = refl
asked-map (repeat m feeds gives) f ss = refl

module _ (n : ℕ) (look look' : Source → Vector) (follows : Follows n look look') where
  sources-follow : (ss : List Source) → map look' (map (shift n) ss) ≡ map look ss
  sources-follow [] = refl
  sources-follow (s ∷ ss) = ap₂ (λ v vs. v ∷ vs) (follows s) (sources-follow ss)

  guards-follow : (gs : List Guard) → all_hold look' (map (shift_guard n) gs) ≡ all_hold look gs
  guards-follow [] = refl
  guards-follow (g ∷ gs) = ap₂ (λ v b. (selected g.values v == g.case) && b) (follows g.source) (guards-follow gs)

-- an operation
module _ (gs : List Guard) (n : ℕ) (l : Label) (k : Kind) where
  abbrev op : Node
  op = node (vertex (with_kind l k) no_vertices)

  abbrev op' : Node
  op' = node (operation_under gs n l k)

  still : (b : Bool) (row : Values) (st : State) (look' : Source → Vector) → b ≡ false → node_next row st look' op'
      ≡ cond b (op'.does.next row st (map look' op'.ins)) st → node_next row st look' op' ≡ st
  still b row st look' e h = h ∙ ap (λ x. cond x (op'.does.next row st (map look' op'.ins)) st) e

  under-operation : Under gs n op op'
  under-operation = record {
    part = refl;
    outs = refl;
    first = refl;
    outputs = λ row st look look' follows e.
        ap₂ (λ b vs. cond b (op.does.outputs row st vs) (map zeros l.outs))
        (hold-append look' gs (map (shift_guard n) l.guards) ∙ ap₂ (λ a b. a && b) e (guards-follow n look look' follows l.guards))
        (ap (map look') (asked-map k (shift n) l.ins) ∙ sources-follow n look look' follows (asked_by k l.ins));
    next = λ row st look look' follows e.
        ap₂ (λ b vs. cond b (op.does.next row st vs) st)
        (hold-append look' gs (map (shift_guard n) l.guards) ∙ ap₂ (λ a b. a && b) e (guards-follow n look look' follows l.guards))
        (sources-follow n look look' follows l.ins);
    idle = λ row st look' e.
        ap (λ b. cond b (op'.does.next row st (map look' op'.ins)) st)
        (hold-append look' gs (map (shift_guard n) l.guards) ∙ ap (λ a. a && all_hold look' (map (shift_guard n) l.guards)) e);
  }

  fed-operation : OwnGuards gs → AreOwn l.ins → OwnGuards l.guards → IsFed op'
  fed-operation own ins guards = record {
    guards = own_guards-append gs _ own (own_guards-shift n l.guards guards);
    asked = own-asked k (map (shift n) l.ins) (own-shift n l.ins ins);
    ins = own-shift n l.ins ins;
  }

-- the inputs of a graph that is handed the sources of guards
module _ (gs : List Guard) (look' : Source → Vector) (ins : Values) where
  abbrev handed : Values
  handed = map look' (guard_sources gs) ++ ins

  long_sources : (hs : List Guard) → length (map look' (guard_sources hs)) ≡ length hs
  long_sources [] = refl
  long_sources (h ∷ hs) = ap suc (long_sources hs)

  handed-own : (k : ℕ) → vector_at handed (length gs + k) ≡ vector_at ins k
  handed-own k = ap (λ m. vector_at handed (m + k)) (sym (long_sources gs)) ∙ append_right (map look' (guard_sources gs)) ins k []

  handed-hold : (b : Bool) → all_hold look' gs ≡ b → (given : ℕ → Values) → all_hold (source_value handed given) (own_guards 0 gs) ≡ b
  handed-hold b e given = own-hold look' [] ins given 0 gs refl ∙ e

-- the inputs that a graph under guards sees
handed-ins : (gs : List Guard) (n : ℕ) (look look' : Source → Vector) → Follows n look look' → (ss : List Source) → map look' (guard_sources gs ++ map (shift n) ss) ≡ handed gs look' (map look ss)
handed-ins gs n look look' follows ss = map-append look' (guard_sources gs) (map (shift n) ss) ∙ ap (λ vs. map look' (guard_sources gs) ++ vs) (sources-follow n look look' follows ss)

module _ (gs : List Guard) (n : ℕ) (l : Label) (none : l.guards ≡ []) where
  fed-graph : (outs : List Source) (vs : Vertices) → OwnGuards gs → AreOwn l.ins → IsFed (node (graph_under gs n l outs vs))
  fed-graph outs vs own ins = record {
    guards = tt;
    asked = own-append (guard_sources gs) _ (own-sources gs own) (own-shift n l.ins ins);
    ins = own-append (guard_sources gs) _ (own-sources gs own) (own-shift n l.ins ins);
  }

  unguarded : {A : Type 0} (look : Source → Vector) (x y : A) → cond (all_hold look l.guards) x y ≡ x
  unguarded look x y = ap (λ hs. cond (all_hold look hs) x y) none

  under-graph : (outs : List Source) (us vs : Vertices) → AllUnder (own_guards 0 gs) (length gs) (nodes us) (nodes vs)
      → Under gs n (node (vertex (with_kind l (graph outs)) us)) (node (graph_under gs n l (map (shift (length gs)) outs) vs))
  under-graph outs us vs all =
      let m = length gs in let own = own_guards 0 gs in let cs = nodes us in let ds = nodes vs in
      record {
        part = refl;
        outs = refl;
        first = first-same own m cs ds all;
        outputs = λ row st look look' follows e.
            ap (graph_outputs (map (shift m) outs) ds row st) (handed-ins gs n look look' follows l.ins)
            ∙ graph_outputs-same own m cs ds all row st (map look l.ins) (handed gs look' (map look l.ins)) (handed-own gs look' (map look l.ins)) (handed-hold gs look' (map look l.ins) true e) outs
            ∙ sym (unguarded look (graph_outputs outs cs row st (map look l.ins)) (map zeros l.outs));
        next = λ row st look look' follows e.
            ap (graph_next ds row st) (handed-ins gs n look look' follows l.ins)
            ∙ graph_next-same own m cs ds all row st (map look l.ins) (handed gs look' (map look l.ins)) (handed-own gs look' (map look l.ins)) (handed-hold gs look' (map look l.ins) true e)
            ∙ sym (unguarded look (graph_next cs row st (map look l.ins)) st);
        idle = λ row st look' e.
            ap (graph_next ds row st) (map-append look' (guard_sources gs) (map (shift n) l.ins))
            ∙ graph-still row st (handed gs look' (map look' (map (shift n) l.ins))) ds (idle-still own m row st _ cs ds all (handed-hold gs look' (map look' (map (shift n) l.ins)) false e _));
      }

pub nodes-joined : (us vs : Vertices) → nodes (join us vs) ≡ nodes us ++ nodes vs
nodes-joined no_vertices vs = refl
nodes-joined (and_vertex u us) vs = ap (λ cs. node u ∷ cs) (nodes-joined us vs)

pub count-nodes : (us : Vertices) → count_of us ≡ length (nodes us)
count-nodes no_vertices = refl
count-nodes (and_vertex u us) = ap suc (count-nodes us)

-- a switch, whose cases stand under its conditions too
module _ (gs : List Guard) (n : ℕ) (l : Label) (none : l.guards ≡ []) (values : List ℤ) (names : List (List ℕ)) (us es : Vertices)
    (long : length (nodes us) ≡ suc (length values)) (distinct : HasDistinctParts (nodes us)) (cases : CasesUnder (own_guards 0 gs) (length gs) values 0 (nodes us) (nodes es)) where
  abbrev m : ℕ
  m = length gs

  abbrev outer : List Guard
  outer = own_guards 0 gs

  abbrev cs : List Node
  cs = nodes us

  abbrev ds : List Node
  ds = nodes es

  abbrev level : List Node
  level = cases_level l.definition outer m values cs ds names l.outs

  abbrev sources : List Source
  sources = merge_sources (length cs) (length names)

  acyclic : IsAcyclic level
  acyclic = cases_level-acyclic l.definition outer m values cs ds names l.outs (own-own 0 gs) cases

  abbrev made : Node
  made = record {
    part = l.part;
    ins = guard_sources gs ++ map (shift n) l.ins;
    asked = guard_sources gs ++ map (shift n) l.ins;
    guards = [];
    outs = l.outs;
    does = behaviour_of (with_kind l (graph sources)) level;
  }

  under-made : Under gs n (node (vertex (with_kind l (switch values names)) us)) made
  under-made = record {
    part = refl;
    outs = refl;
    first = switch_first-same l.definition outer m values cs ds names l.outs cases;
    outputs = λ row st look look' follows e.
        ap (graph_outputs sources level row st) (handed-ins gs n look look' follows l.ins)
        ∙ switch_outputs-same l.definition outer m values cs ds names l.outs row st (map look l.ins) (handed gs look' (map look l.ins))
        (handed-own gs look' (map look l.ins)) long cases (handed-hold gs look' (map look l.ins) true e) acyclic
        ∙ sym (unguarded gs n l none look (switch_outputs values (length names) cs row st (map look l.ins)) (map zeros l.outs));
    next = λ row st look look' follows e.
        ap (graph_next level row st) (handed-ins gs n look look' follows l.ins)
        ∙ switch_next-same l.definition outer m values cs ds names l.outs row st (map look l.ins) (handed gs look' (map look l.ins))
        (handed-own gs look' (map look l.ins)) long cases (handed-hold gs look' (map look l.ins) true e) distinct
        ∙ sym (unguarded gs n l none look (switch_next values cs row st (map look l.ins)) st);
    idle = λ row st look' e.
        let ins = map look' (map (shift n) l.ins) in
        ap (graph_next level row st) (map-append look' (guard_sources gs) (map (shift n) l.ins))
        ∙ switch-idle l.definition outer m values cs ds names l.outs row st ins (handed gs look' ins) (handed-own gs look' ins) cases (handed-hold gs look' ins false e (λ _. [])) (own-own 0 gs);
  }

  same-made : node (graph_under gs n l (merge_sources (count_of us) (length names)) (switch_inside gs l values names (count_of us) es)) ≡ made
  same-made =
      ap₂ (λ k ks. record {
        part = l.part;
        ins = guard_sources gs ++ map (shift n) l.ins;
        asked = guard_sources gs ++ map (shift n) l.ins;
        guards = [];
        outs = l.outs;
        does = behaviour_of (with_kind l (graph (merge_sources k (length names)))) ks;
      }) (count-nodes us) (nodes-joined es (merges l.definition outer m values (count_of us) l.outs 0 names)
      ∙ ap (λ k. ds ++ nodes (merges l.definition outer m values k l.outs 0 names)) (count-nodes us))

  under-switch : Under gs n (node (vertex (with_kind l (switch values names)) us))
      (node (graph_under gs n l (merge_sources (count_of us) (length names)) (switch_inside gs l values names (count_of us) es)))
  under-switch = subst (Under gs n (node (vertex (with_kind l (switch values names)) us))) (sym same-made) under-made

pub none_inside : (us : Vertices) → IsEmpty us → us ≡ no_vertices
none_inside no_vertices h = refl
none_inside (and_vertex u us) h = absurd h

-- by the kind, where the theorem holds of what is inside
module _ (gs : List Guard) (n : ℕ) (l : Label) (us : Vertices) (inner : List Guard → ℕ → Vertices) (cases : List Guard → ℕ → List ℤ → Vertices)
    (all : AllUnder (own_guards 0 gs) (length gs) (nodes us) (nodes (inner (own_guards 0 gs) (length gs))))
    (each : (values : List ℤ) → AreCases us → CasesUnder (own_guards 0 gs) (length gs) values 0 (nodes us) (nodes (cases (own_guards 0 gs) (length gs) values))) where
  under-alone : (k : Kind) → IsEmpty us → Under gs n (node (vertex (with_kind l k) us)) (node (operation_under gs n l k))
  under-alone k h = subst (λ vs. Under gs n (node (vertex (with_kind l k) vs)) (node (operation_under gs n l k))) (sym (none_inside us h)) (under-operation gs n l k)

  under-by : (k : Kind) → IsKindWell k l.guards us → IsNoRepeat k → Under gs n (node (vertex (with_kind l k) us)) (node (guarded_by gs n l k us inner cases))
  under-by (graph outs) h none = under-graph gs n l h.0 outs us (inner (own_guards 0 gs) (length gs)) all
  under-by (switch values names) h none = under-switch gs n l h.0.0 values names us (cases (own_guards 0 gs) (length gs) values) h.0.1.0 h.0.1.1.0 (each values h.0.1.1.1)
  under-by (repeat k feeds gives) h none = absurd none
  under-by (sensor k) h none = under-alone (sensor k) h
  under-by (actuator k) h none = under-alone (actuator k) h
  under-by (constant v) h none = under-alone (constant v) h
  under-by (delay v) h none = under-alone (delay v) h
  under-by (function v) h none = under-alone (function v) h
  under-by explode h none = under-alone explode h
  under-by implode h none = under-alone implode h
  under-by (merge values) h none = under-alone (merge values) h

  fed-by : OwnGuards gs → AreOwn l.ins → OwnGuards l.guards → (k : Kind) → IsKindWell k l.guards us → IsNoRepeat k → IsFed (node (guarded_by gs n l k us inner cases))
  fed-by own ins guards (graph outs) h none = fed-graph gs n l h.0 (map (shift (length gs)) outs) (inner (own_guards 0 gs) (length gs)) own ins
  fed-by own ins guards (switch values names) h none = fed-graph gs n l h.0.0 (merge_sources (count_of us) (length names)) _ own ins
  fed-by own ins guards (repeat k feeds gives) h none = absurd none
  fed-by own ins guards (sensor k) h none = fed-operation gs n l (sensor k) own ins guards
  fed-by own ins guards (actuator k) h none = fed-operation gs n l (actuator k) own ins guards
  fed-by own ins guards (constant v) h none = fed-operation gs n l (constant v) own ins guards
  fed-by own ins guards (delay v) h none = fed-operation gs n l (delay v) own ins guards
  fed-by own ins guards (function v) h none = fed-operation gs n l (function v) own ins guards
  fed-by own ins guards explode h none = fed-operation gs n l explode own ins guards
  fed-by own ins guards implode h none = fed-operation gs n l implode own ins guards
  fed-by own ins guards (merge values) h none = fed-operation gs n l (merge values) own ins guards

abbrev IsCase : Vertex → Type 0
IsCase (vertex l us) = AreOwn l.ins × OwnGuards l.guards

mutual
  pub under-guarded : (gs : List Guard) (n : ℕ) (u : Vertex) → IsWell u → HasNoRepeat u → Under gs n (node u) (node (guarded gs n u))
  under-guarded gs n (vertex l us) h none =
      under-by gs n l us (λ inside m. guarded_all inside m us) (λ inside m values. guarded_cases inside m values 0 us)
      (under-all (own_guards 0 gs) (length gs) us h.1 none.1) (λ values fed. under-cases (own_guards 0 gs) (length gs) values 0 us (own-own 0 gs) fed h.1 none.1) l.kind h.0 none.0

  pub under-all : (gs : List Guard) (n : ℕ) (us : Vertices) → AllWell us → AllNoRepeat us → AllUnder gs n (nodes us) (nodes (guarded_all gs n us))
  under-all gs n no_vertices h none = tt
  under-all gs n (and_vertex u us) h none = (under-guarded gs n u h.0 none.0, under-all gs n us h.1 none.1)

  pub under-cases : (gs : List Guard) (m : ℕ) (values : List ℤ) (i : ℕ) (us : Vertices) → OwnGuards gs → AreCases us → AllWell us → AllNoRepeat us
      → CasesUnder gs m values i (nodes us) (nodes (guarded_cases gs m values i us))
  under-cases gs m values i no_vertices own fed h none = tt
  under-cases gs m values i (and_vertex (vertex l vs) us) own fed h none = (
    (under-guarded (gs ++ guard_for m values i ∷ []) m (vertex l vs) h.0 none.0, fed-guarded (gs ++ guard_for m values i ∷ []) m (vertex l vs) (own_guards-append gs _ own (tt, tt)) fed.0 h.0 none.0),
    under-cases gs m values (suc i) us own fed.1 h.1 none.1,
  )

  fed-guarded : (gs : List Guard) (n : ℕ) (u : Vertex) → OwnGuards gs → IsCase u → IsWell u → HasNoRepeat u → IsFed (node (guarded gs n u))
  fed-guarded gs n (vertex l us) own fed h none =
      fed-by gs n l us (λ inside m. guarded_all inside m us) (λ inside m values. guarded_cases inside m values 0 us)
      (under-all (own_guards 0 gs) (length gs) us h.1 none.1) (λ values fed. under-cases (own_guards 0 gs) (length gs) values 0 us (own-own 0 gs) fed h.1 none.1) own fed.0 fed.1 l.kind h.0 none.0

-- the actuators of the main graph
module _ (gs : List Guard) (n : ℕ) (look look' : Source → Vector) (follows : Follows n look look') where
  input-follows : (ss : List Source) → input_value look' (map (shift n) ss) ≡ input_value look ss
  input-follows [] = refl
  input-follows (s ∷ ss) = follows s

  actuator-by : (l : Label) (k : Kind) (us : Vertices) (inner : List Guard → ℕ → Vertices) (cases : List Guard → ℕ → List ℤ → Vertices) (vs : Vertices)
      → actuator_values look' (and_vertex (guarded_by gs n l k us inner cases) vs) ≡ actuator_value look l k ++ actuator_values look' vs
  actuator-by l (graph outs) us inner cases vs = refl
  actuator-by l (switch values names) us inner cases vs = refl
  actuator-by l (repeat k feeds gives) us inner cases vs = refl
  actuator-by l (sensor k) us inner cases vs = refl
  actuator-by l (actuator k) us inner cases vs = ap (λ v. v ∷ actuator_values look' vs) (input-follows l.ins)
  actuator-by l (constant v) us inner cases vs = refl
  actuator-by l (delay v) us inner cases vs = refl
  actuator-by l (function v) us inner cases vs = refl
  actuator-by l explode us inner cases vs = refl
  actuator-by l implode us inner cases vs = refl
  actuator-by l (merge values) us inner cases vs = refl

  actuators-guarded : (us : Vertices) → actuator_values look' (guarded_all gs n us) ≡ actuator_values look us
  actuators-guarded no_vertices = refl
  actuators-guarded (and_vertex (vertex l vs) us) =
      actuator-by l l.kind vs (λ inside m. guarded_all inside m vs) (λ inside m values. guarded_cases inside m values 0 vs)
      (guarded_all gs n us) ∙ ap (λ xs. actuator_value look l l.kind ++ xs) (actuators-guarded us)

module _ (l : Label) (outs : List Source) (us : Vertices) (h : AllWell us) (none : AllNoRepeat us) where
  abbrev before : Vertex
  before = vertex (with_kind l (graph outs)) us

  abbrev after : Vertex
  after = graph_under [] 0 l (map (shift 0) outs) (guarded_all [] 0 us)

  all : AllUnder [] 0 (nodes us) (nodes (guarded_all [] 0 us))
  all = under-all [] 0 us h none

  own-none : (k : ℕ) → vector_at [] (0 + k) ≡ vector_at [] k
  own-none k = ap (vector_at []) (zero-add k)

  past-same : (rows : List Values) (k : ℕ) → past after rows k ≡ past before rows k
  past-same rows zero = first-same [] 0 (nodes us) (nodes (guarded_all [] 0 us)) all
  past-same rows (suc k) =
      ap (λ st. (behaviour after).next (slice_index_or rows k []) st []) (past-same rows k)
      ∙ graph_next-same [] 0 (nodes us) (nodes (guarded_all [] 0 us)) all (slice_index_or rows k []) (past before rows k) [] [] own-none (λ given. refl)

  keeps : KeepsMeaning before after
  keeps = record {
    taken = λ rows k.
        ap (λ st. actuator_values (level_value (nodes (guarded_all [] 0 us)) (slice_index_or rows k []) st []) (guarded_all [] 0 us)) (past-same rows k)
        ∙ actuators-guarded [] 0 _ _ (level-follows [] 0 (nodes us) (nodes (guarded_all [] 0 us)) all (slice_index_or rows k []) (past before rows k) [] [] own-none (λ given. refl)) us;
    kept = λ rows k q. ap (λ st. st q) (past-same rows k);
  }

guard-keeps : (l : Label) (outs : List Source) (us : Vertices) → l.kind ≡ graph outs → AllWell us → AllNoRepeat us → KeepsMeaning (vertex l us) (guard (vertex l us))
guard-keeps l outs us e h none =
    subst (λ k. KeepsMeaning (vertex l us) (guarded_by [] 0 l k us (λ inside m. guarded_all inside m us) (λ inside m values. guarded_cases inside m values 0 us))) (sym e)
    (subst (λ k. KeepsMeaning (vertex (with_kind l k) us) (graph_under [] 0 l (map (shift 0) outs) (guarded_all [] 0 us))) (sym e) (keeps l outs us h none))

pub guard_main-keeps : (main : Vertex) → IsTree main → HasNoRepeat main → KeepsMeaning main (guard main)
guard_main-keeps (vertex l us) h none = guard-keeps l [] us h.portless.kind h.well.1 none.1
