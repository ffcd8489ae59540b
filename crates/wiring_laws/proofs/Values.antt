-- A unit without operations gives at each output the value of the input to which it leads.
use Rattle.std.proofs.Common.{
  ◌≡◌,
  ℕ,
  zero,
  suc,
  ◌-◌,
  ◌≤◌,
  ◌==◌,
  inl,
  inr,
  List,
  [],
  ◌∷◌,
  length,
  map,
  slice_index_or,
  Bool,
  true,
  false,
  cond,
  if◌then◌else◌,
  nat_lt,
  Option,
  Some,
  None,
  slice_get,
  refl,
  sym,
  ap,
  ap₂,
  ◌∙◌,
  subst,
  arith,
}
use Rattle.std.proofs.lemmas.Bool.{cases_lt}
use Rattle.syn_base.specs.Vectors.{Vector, Values, vector_at, zeros}
use Rattle.algo_tree.specs.declared.Source.{Source}
use Rattle.algo_tree.specs.declared.Source.TheVariants.{Of}
use Rattle.algo_tree.specs.declared.Part.{Part}
use Rattle.algo_tree.specs.declared.Part.TheVariants.{Named, Numbered, Port}
use Rattle.algo_tree.specs.declared.Feed.{Feed}
use Rattle.algo_tree.specs.declared.Feed.TheVariants.{Fork, Diffuse, Iterate}
use Rattle.algo_tree.specs.declared.Give.{Give}
use Rattle.algo_tree.specs.declared.Give.TheVariants.{Last, Join}
use Rattle.algo_tree.specs.Level.{
  State,
  Path,
  Behaviour,
  Node,
  below,
  same_part,
  selected,
  all_hold,
  with_node,
  node_outputs,
  node_next,
  out,
  level_value,
  find_node,
  case_look,
  copy_input,
  copy_outputs,
  copy_before,
  give_value,
  body_of,
}
use Rattle.algo_tree.specs.Order.{IsAcyclic}
use Rattle.algo_tree.proofs.Fuel.{fuel_is_enough}
use Rattle.algo_tree.proofs.Lists.{none_past}
use Rattle.algo_tree.proofs.SameParts.{same_means}
use Rattle.algo_tree.specs.Tree.{Label, Kind, sensor, actuator, constant, delay, function, explode, implode, merge, graph, switch, repeat, Vertex, vertex, Vertices, no_vertices, and_vertex}
use Rattle.algo_tree.specs.Meaning.{behaviour, kind_outputs, kind_next, kind_initial, node, nodes}
use Rattle.wiring_laws.specs.Wiring.{pick, lead, feed_lead, copy_lead, give_lead, body_leads, leads_by, wires, wiring}
use Rattle.wiring_laws.proofs.Rounds.{pick-map, at-map, hop, leads}
use Rattle.wiring_laws.proofs.Idle.{NoFork, NoJoin, IsKindIdle, IsIdle, AllIdle, matched, asked, unguarded}

-- the values of a level meet the equations of its nodes
level-fix : (cs : List Node) → IsAcyclic cs → (row : Values) (st : State) (ins : Values) (r p : ℕ)
    → level_value cs row st ins (Of r p) ≡ vector_at (with_node (slice_get cs r) [] (λ c. node_outputs row (below c.part st) (level_value cs row st ins) c)) p
level-fix cs acyclic row st ins r p = elim (cases_lt r (length cs)) [
  | inl lt ↦ ap (λ vs. vector_at vs p) (sym (fuel_is_enough cs acyclic row st ins r (suc (length cs)) lt (omega arith)))
  | inr past ↦ ap (λ vs. vector_at vs p) (past-out (length cs) past ∙ sym (ap (λ o. with_node o [] (λ c. node_outputs row (below c.part st) (level_value cs row st ins) c)) (none_past cs r past)))
]
  where
    past-out : (fuel : ℕ) → length cs ≤ r → out cs row st ins fuel r ≡ []
    past-out zero h = rw (none_past cs r h)
    past-out (suc fuel) h = rw (none_past cs r h)

same-map : {A B : Type 0} (f g : A → B) (xs : List A) → ((x : A) → f x ≡ g x) → map f xs ≡ map g xs
same-map f g [] h = refl
same-map f g (x ∷ xs) h = ap₂ (λ y ys. y ∷ ys) (h x) (same-map f g xs h)

pub map-pick : {A : Type 0} (d : A) (xs : List A) (S : Type 0) (f : S → A) (g : S → Option ℕ) (ss : List S) → ((s : S) → f s ≡ pick d xs (g s)) → map f ss ≡ map (pick d xs) (map g ss)
map-pick d xs S f g [] h = refl
map-pick d xs S f g (s ∷ ss) h = ap₂ (λ y ys. y ∷ ys) (h s) (map-pick d xs S f g ss h)

-- an input of a copy, where the copy before leads so
fed-copy : (ins before : Values) (f : ℕ → Option ℕ) (i : ℕ) → ((y : ℕ) → vector_at before y ≡ pick [] ins (f y)) → (fs : List Feed) → NoFork fs
    → (j : ℕ) (s : Feed) → slice_get fs j ≡ Some s → copy_input ins before i s ≡ pick [] ins (feed_lead f i s)
fed-copy ins before f i h [] none j s e = absurd (let x = e in cc)
fed-copy ins before f i h (Fork name k len ∷ fs) none j s e = absurd none
fed-copy ins before f i h (Diffuse k ∷ fs) none zero s e =
    let same : Diffuse k ≡ s = cc in
    subst (λ x. copy_input ins before i x ≡ pick [] ins (feed_lead f i x)) same refl
fed-copy ins before f i h (Iterate k y ∷ fs) none zero s e =
    let same : Iterate k y ≡ s = cc in
    subst (λ x. copy_input ins before i x ≡ pick [] ins (feed_lead f i x)) same (either (i == 0))
  where
    either : (b : Bool) → cond b (vector_at ins k) (vector_at before y) ≡ pick [] ins (cond b (Some k) (f y))
    either true = refl
    either false = h y
fed-copy ins before f i h (Diffuse k ∷ fs) none (suc j) s e = fed-copy ins before f i h fs none j s e
fed-copy ins before f i h (Iterate k y ∷ fs) none (suc j) s e = fed-copy ins before f i h fs none j s e

module _ (feeds : List Feed) (none : NoFork feeds) (body : Behaviour) (ls : List (Option ℕ))
    (is : (row : Values) (st : State) (ins : Values) → body.outputs row st ins ≡ map (pick [] ins) ls) (row : Values) (st : State) (ins : Values) where
  pub copies-lead : (i y : ℕ) → vector_at (copy_outputs feeds body row st ins i) y ≡ pick [] ins (copy_lead feeds ls i y)
  copies-lead zero y =
      ap (λ vs. vector_at vs y) (is row (below (Numbered 0) st) (map (copy_input ins [] 0) feeds))
      ∙ at-map (pick [] (map (copy_input ins [] 0) feeds)) None ls y
      ∙ pick-map [] ins (copy_input ins [] 0) (feed_lead (λ _. None) 0) feeds (fed-copy ins [] (λ _. None) 0 (λ y. refl) feeds none) (slice_index_or ls y None)
  copies-lead (suc i) y =
      ap (λ vs. vector_at vs y) (is row (below (Numbered (suc i)) st) (map (copy_input ins (copy_outputs feeds body row st ins i) (suc i)) feeds))
      ∙ at-map (pick [] (map (copy_input ins (copy_outputs feeds body row st ins i) (suc i)) feeds)) None ls y
      ∙ pick-map [] ins (copy_input ins (copy_outputs feeds body row st ins i) (suc i)) (feed_lead (copy_lead feeds ls i) (suc i)) feeds
      (fed-copy ins (copy_outputs feeds body row st ins i) (copy_lead feeds ls i) (suc i) (copies-lead i) feeds none) (slice_index_or ls y None)

  pub gives-lead : (n : ℕ) (gs : List Give) → NoJoin gs → map (give_value (copy_outputs feeds body row st ins) n) gs ≡ map (pick [] ins) (map (give_lead n feeds ls) gs)
  gives-lead n [] h = refl
  gives-lead n (Last y ∷ gs) h = ap₂ (λ v vs. v ∷ vs) (copies-lead (n - 1) y) (gives-lead n gs h)
  gives-lead n (Join name y ∷ gs) h = absurd h

-- a node without guards is active
active : (row : Values) (st : State) (look : Source → Vector) (c : Node) → c.guards ≡ [] → node_outputs row st look c ≡ c.does.outputs row st (map look c.asked)
active row st look c h = ap (λ gs. cond (all_hold look gs) (c.does.outputs row st (map look c.asked)) (map zeros c.outs)) h

module _ (l : Label) (us : Vertices) (inner : AllIdle us)
    (each : (row : Values) (st : State) (look : Source → Vector) (r p : ℕ)
    → vector_at (with_node (slice_get (nodes us) r) [] (λ c. node_outputs row (below c.part st) look c)) p ≡ hop [] look (wires us) r p)
    (body : (row : Values) (st : State) (ins : Values) → (body_of (nodes us)).outputs row st ins ≡ map (pick [] ins) (body_leads (wires us))) where
  outputs-by : (k : Kind) → IsKindIdle k us → (row : Values) (st : State) (ins : Values) → kind_outputs k l.outs (nodes us) row st ins ≡ map (pick [] ins) (leads_by k (wires us))
  outputs-by (graph outs) h row st ins =
      map-pick [] ins Source (level_value (nodes us) row st ins) (lead (wires us)) outs
      (leads [] ins (level_value (nodes us) row st ins) (wires us) (nodes us) (matched us inner) (λ k. refl)
      (λ r p. level-fix (nodes us) h row st ins r p ∙ each row st (level_value (nodes us) row st ins) r p) h)
  outputs-by (switch values names) h row st ins = rw h
  outputs-by (repeat n feeds gives) h row st ins = gives-lead feeds h.0.0 (body_of (nodes us)) (body_leads (wires us)) body row st ins n gives h.0.1
  outputs-by (sensor n) h row st ins = absurd h
  outputs-by (actuator n) h row st ins = absurd h
  outputs-by (constant v) h row st ins = absurd h
  outputs-by (delay vs) h row st ins = absurd h
  outputs-by (function es) h row st ins = absurd h
  outputs-by explode h row st ins = absurd h
  outputs-by implode h row st ins = absurd h
  outputs-by (merge values) h row st ins = absurd h

mutual
  pub outputs-idle : (u : Vertex) → IsIdle u → (row : Values) (st : State) (ins : Values) → (behaviour u).outputs row st ins ≡ map (pick [] ins) (wiring u)
  outputs-idle (vertex l us) h row st ins = outputs-by l us h.1 (λ row st look r p. each-idle us h.1 row st look r p) (λ row st ins. body-outputs us h.1 row st ins) l.kind h.0.1 row st ins

  each-idle : (us : Vertices) → AllIdle us → (row : Values) (st : State) (look : Source → Vector) (r p : ℕ)
      → vector_at (with_node (slice_get (nodes us) r) [] (λ c. node_outputs row (below c.part st) look c)) p ≡ hop [] look (wires us) r p
  each-idle no_vertices h row st look r p = refl
  each-idle (and_vertex u us) h row st look zero p =
      ap (λ vs. vector_at vs p)
      (active row (below (node u).part st) look (node u) (unguarded u h.0)
      ∙ node-outputs u row (below (node u).part st) (map look (node u).asked) ∙ outputs-idle u h.0 row (below (node u).part st) (map look (node u).asked))
      ∙ at-map (pick [] (map look (node u).asked)) None (wiring u) p ∙ ap (λ ss. pick [] (map look ss) (slice_index_or (wiring u) p None)) (asked u h.0)
  each-idle (and_vertex u us) h row st look (suc r) p = each-idle us h.1 row st look r p

  body-outputs : (us : Vertices) → AllIdle us → (row : Values) (st : State) (ins : Values) → (body_of (nodes us)).outputs row st ins ≡ map (pick [] ins) (body_leads (wires us))
  body-outputs no_vertices h row st ins = refl
  body-outputs (and_vertex u us) h row st ins = node-outputs u row st ins ∙ outputs-idle u h.0 row st ins

  node-outputs : (u : Vertex) (row : Values) (st : State) (ins : Values) → (node u).does.outputs row st ins ≡ (behaviour u).outputs row st ins
  node-outputs (vertex l us) row st ins = refl

-- what is kept below the one node that goes on
next-node : (u : Vertex) → IsIdle u → ((row : Values) (st : State) (ins : Values) (q : Path) → (node u).does.next row st ins q ≡ st q)
    → (row : Values) (st : State) (look : Source → Vector) (q : Path) → node_next row st look (node u) q ≡ st q
next-node u h keeps row st look q = either (all_hold look (node u).guards)
  where
    either : (b : Bool) → (cond b ((node u).does.next row st (map look (node u).ins)) st) q ≡ st q
    either true = keeps row st (map look (node u).ins) q
    either false = refl

module _ (us : Vertices)
    (found : (row : Values) (st : State) (look : Source → Vector) (p : Part) (q : Path) → with_node (find_node p (nodes us)) (st (p ∷ q)) (λ c. node_next row (below c.part st) look c q) ≡ st (p ∷ q))
    (case : (row : Values) (st : State) (look : Source → Vector) (r : ℕ) (p : Part) (q : Path)
    → with_node (slice_get (nodes us) r) (st (p ∷ q))
    (λ c. if same_part c.part p then node_next row (below c.part st) look c q else st (p ∷ q)) ≡ st (p ∷ q))
    (body : (row : Values) (st : State) (ins : Values) (q : Path) → (body_of (nodes us)).next row st ins q ≡ st q) where
  keeps-by : (k : Kind) → IsKindIdle k us → (row : Values) (st : State) (ins : Values) (q : Path) → kind_next k (nodes us) row st ins q ≡ st q
  keeps-by (graph outs) h row st ins [] = refl
  keeps-by (graph outs) h row st ins (p ∷ q) = found row st (level_value (nodes us) row st ins) p q
  keeps-by (switch values names) h row st ins [] = refl
  keeps-by (switch values names) h row st ins (p ∷ q) = case row st (case_look ins) (selected values (vector_at ins 0)) p q
  keeps-by (repeat n feeds gives) h row st ins [] = refl
  keeps-by (repeat n feeds gives) h row st ins (Named x ∷ q) = refl
  keeps-by (repeat n feeds gives) h row st ins (Port x ∷ q) = refl
  keeps-by (repeat n feeds gives) h row st ins (Numbered i ∷ q) = either (nat_lt i n)
    where
      either : (b : Bool) → cond b ((body_of (nodes us)).next row (below (Numbered i) st)
          (map (copy_input ins (copy_before feeds (body_of (nodes us)) row st ins i) i) feeds) q) (st (Numbered i ∷ q)) ≡ st (Numbered i ∷ q)
      either true = body row (below (Numbered i) st) (map (copy_input ins (copy_before feeds (body_of (nodes us)) row st ins i) i) feeds) q
      either false = refl
  keeps-by (sensor n) h row st ins q = absurd h
  keeps-by (actuator n) h row st ins q = absurd h
  keeps-by (constant v) h row st ins q = absurd h
  keeps-by (delay vs) h row st ins q = absurd h
  keeps-by (function es) h row st ins q = absurd h
  keeps-by explode h row st ins q = absurd h
  keeps-by implode h row st ins q = absurd h
  keeps-by (merge values) h row st ins q = absurd h

found-next : (u : Vertex) (rest : List Node) (row : Values) (st : State) (look : Source → Vector) (p : Part) (q : Path)
    → node_next row (below (node u).part st) look (node u) q ≡ st ((node u).part ∷ q)
    → with_node (find_node p rest) (st (p ∷ q)) (λ c. node_next row (below c.part st) look c q) ≡ st (p ∷ q)
    → (b : Bool) → same_part (node u).part p ≡ b → with_node (cond b (Some (node u)) (find_node p rest)) (st (p ∷ q)) (λ c. node_next row (below c.part st) look c q) ≡ st (p ∷ q)
found-next u rest row st look p q here later true same = here ∙ ap (λ x. st (x ∷ q)) (same_means (node u).part p same)
found-next u rest row st look p q here later false same = later

case-next : (u : Vertex) (row : Values) (st : State) (look : Source → Vector) (p : Part) (q : Path) → node_next row (below (node u).part st) look (node u) q ≡ st ((node u).part ∷ q)
    → (b : Bool) → same_part (node u).part p ≡ b → cond b (node_next row (below (node u).part st) look (node u) q) (st (p ∷ q)) ≡ st (p ∷ q)
case-next u row st look p q here true same = here ∙ ap (λ x. st (x ∷ q)) (same_means (node u).part p same)
case-next u row st look p q here false same = refl

mutual
  pub keeps-idle : (u : Vertex) → IsIdle u → (row : Values) (st : State) (ins : Values) (q : Path) → (behaviour u).next row st ins q ≡ st q
  keeps-idle (vertex l us) h = keeps-by us (found-idle us h.1) (case-idle us h.1) (body-keeps us h.1) l.kind h.0.1

  node-keeps : (u : Vertex) → IsIdle u → (row : Values) (st : State) (ins : Values) (q : Path) → (node u).does.next row st ins q ≡ st q
  node-keeps (vertex l us) h = keeps-by us (found-idle us h.1) (case-idle us h.1) (body-keeps us h.1) l.kind h.0.1

  found-idle : (us : Vertices) → AllIdle us → (row : Values) (st : State) (look : Source → Vector) (p : Part) (q : Path)
      → with_node (find_node p (nodes us)) (st (p ∷ q)) (λ c. node_next row (below c.part st) look c q) ≡ st (p ∷ q)
  found-idle no_vertices h row st look p q = refl
  found-idle (and_vertex u us) h row st look p q =
      found-next u (nodes us) row st look p q (next-node u h.0 (node-keeps u h.0) row (below (node u).part st) look q) (found-idle us h.1 row st look p q) (same_part (node u).part p) refl

  case-idle : (us : Vertices) → AllIdle us → (row : Values) (st : State) (look : Source → Vector) (r : ℕ) (p : Part) (q : Path)
      → with_node (slice_get (nodes us) r) (st (p ∷ q)) (λ c. if same_part c.part p then node_next row (below c.part st) look c q else st (p ∷ q)) ≡ st (p ∷ q)
  case-idle no_vertices h row st look r p q = refl
  case-idle (and_vertex u us) h row st look zero p q =
      case-next u row st look p q (next-node u h.0 (node-keeps u h.0) row (below (node u).part st) look q) (same_part (node u).part p) refl
  case-idle (and_vertex u us) h row st look (suc r) p q = case-idle us h.1 row st look r p q

  body-keeps : (us : Vertices) → AllIdle us → (row : Values) (st : State) (ins : Values) (q : Path) → (body_of (nodes us)).next row st ins q ≡ st q
  body-keeps no_vertices h row st ins q = refl
  body-keeps (and_vertex u us) h row st ins q = node-keeps u h.0 row st ins q

module _ (us : Vertices)
    (found : (p : Part) (q : Path) → with_node (find_node p (nodes us)) [] (λ c. c.does.initial q) ≡ [])
    (body : (q : Path) → (body_of (nodes us)).initial q ≡ []) where
  starts-by : (k : Kind) → IsKindIdle k us → (q : Path) → kind_initial k (nodes us) q ≡ []
  starts-by (graph outs) h [] = refl
  starts-by (graph outs) h (p ∷ q) = found p q
  starts-by (switch values names) h [] = refl
  starts-by (switch values names) h (p ∷ q) = found p q
  starts-by (repeat n feeds gives) h [] = refl
  starts-by (repeat n feeds gives) h (Named x ∷ q) = refl
  starts-by (repeat n feeds gives) h (Port x ∷ q) = refl
  starts-by (repeat n feeds gives) h (Numbered i ∷ q) = either (nat_lt i n)
    where
      either : (b : Bool) → cond b ((body_of (nodes us)).initial q) [] ≡ []
      either true = body q
      either false = refl
  starts-by (sensor n) h q = absurd h
  starts-by (actuator n) h q = absurd h
  starts-by (constant v) h q = absurd h
  starts-by (delay vs) h q = absurd h
  starts-by (function es) h q = absurd h
  starts-by explode h q = absurd h
  starts-by implode h q = absurd h
  starts-by (merge values) h q = absurd h

found-start : (u : Vertex) (rest : List Node) (p : Part) (q : Path) → (node u).does.initial q ≡ [] → with_node (find_node p rest) [] (λ c. c.does.initial q) ≡ []
    → (b : Bool) → with_node (cond b (Some (node u)) (find_node p rest)) [] (λ c. c.does.initial q) ≡ []
found-start u rest p q here later true = here
found-start u rest p q here later false = later

mutual
  pub starts-idle : (u : Vertex) → IsIdle u → (q : Path) → (behaviour u).initial q ≡ []
  starts-idle (vertex l us) h = starts-by us (found-starts us h.1) (body-starts us h.1) l.kind h.0.1

  node-starts : (u : Vertex) → IsIdle u → (q : Path) → (node u).does.initial q ≡ []
  node-starts (vertex l us) h = starts-by us (found-starts us h.1) (body-starts us h.1) l.kind h.0.1

  found-starts : (us : Vertices) → AllIdle us → (p : Part) (q : Path) → with_node (find_node p (nodes us)) [] (λ c. c.does.initial q) ≡ []
  found-starts no_vertices h p q = refl
  found-starts (and_vertex u us) h p q = found-start u (nodes us) p q (node-starts u h.0 q) (found-starts us h.1 p q) (same_part (node u).part p)

  body-starts : (us : Vertices) → AllIdle us → (q : Path) → (body_of (nodes us)).initial q ≡ []
  body-starts no_vertices h q = refl
  body-starts (and_vertex u us) h q = node-starts u h.0 q
