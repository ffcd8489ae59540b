-- Where a source of a level leads in the flat list, and the values that are found there.
use Rattle.std.proofs.Common.{
  ◌≡◌,
  ℕ,
  zero,
  suc,
  ◌+◌,
  ◌*◌,
  ◌≤◌,
  ◌==◌,
  inl,
  inr,
  List,
  [],
  ◌∷◌,
  ◌++◌,
  length,
  map,
  slice_index_or,
  Bool,
  true,
  false,
  cond,
  ◌&&◌,
  Option,
  Some,
  None,
  slice_get,
  refl,
  sym,
  ap,
  ap₂,
  ◌∙◌,
  subst,
  arith,
  length-append,
}
use Rattle.std.proofs.lemmas.Bool.{cases_lt, false≢true}
use Rattle.algo_tree.specs.declared.Source.{Source}
use Rattle.algo_tree.specs.declared.Source.TheVariants.{Own, Of}
use Rattle.algo_tree.specs.declared.Guard.{Guard}
use Rattle.algo_tree.specs.Level.{State, Path, Node, below, selected, source_value, all_hold, with_node, node_outputs, out, level_value, graph_outputs}
use Rattle.algo_tree.specs.Order.{sources_ready, guards_ready, is_ready, settled, IsAcyclic}
use Rattle.algo_tree.proofs.Fuel.{Agree, same_outputs, and-left, and-right}
use Rattle.algo_tree.specs.Tree.{Label, Kind, sensor, actuator, constant, delay, function, explode, implode, merge, graph, switch, repeat, Vertex, vertex, Vertices, no_vertices, and_vertex}
use Rattle.algo_tree.specs.Meaning.{asked_by, node, nodes, kind_outputs}
use Rattle.flat_laws.specs.Flat.{Operation, Task, runs, gets, task_outputs, stages_of, node_of}
use Rattle.flat_laws.specs.Inlined.{
  nowhere,
  Wiring,
  with_wiring,
  wire_source,
  wire_out,
  wire,
  gives_by,
  wiring,
  wirings,
  wire_guard,
  operation_of,
  stages,
  inlined_by,
  inlined,
  inlined_all,
  inlined_level,
}
use Rattle.algo_tree.specs.Counted.{operations as count, operations_in as count_all, operations_by as count_by}
use Rattle.flat_laws.specs.Plain.{IsKindPlain, IsPlain, AllPlain}
use Rattle.flat_laws.proofs.Inlinable.{with_kind, IsKindInlinable, CanInline, AllCanInline, is_plain}
use Rattle.algo_tree.proofs.Lists.{map_map, none_past}
use Rattle.flat_graph.specs.Meaning.{no_state}
use Rattle.syn_base.specs.Vectors.{Vector, Values, vector_at, zeros}

-- the equation of each vertex, port by port, has one solution
module _ (cs : List Node) (row : Values) (st : State) (ins : Values) (look : Source → Vector) (own : (k : ℕ) → look (Own k) ≡ vector_at ins k)
    (meets : (r p : ℕ) → vector_at (with_node (slice_get cs r) [] (λ c. node_outputs row (below c.part st) look c)) p ≡ look (Of r p)) where
  agree : (done : ℕ → Bool) (f : ℕ → Values) → ((r : ℕ) → done r ≡ true → (p : ℕ) → vector_at (f r) p ≡ look (Of r p)) → Agree done (source_value ins f) look
  agree done f same (Own k) h = sym (own k)
  agree done f same (Of r p) h = same r h p

  at_node : (o : Option Node) (done : ℕ → Bool) (f : ℕ → Values) → ((r : ℕ) → done r ≡ true → (p : ℕ) → vector_at (f r) p ≡ look (Of r p)) → with_node o false (is_ready done) ≡ true
      → with_node o [] (λ c. node_outputs row (below c.part st) (source_value ins f) c) ≡ with_node o [] (λ c. node_outputs row (below c.part st) look c)
  at_node None done f same h = refl
  at_node (Some c) done f same h = same_outputs done _ _ (agree done f same) row (below c.part st) c h

  unique_at : (k fuel r : ℕ) → settled cs k r ≡ true → k ≤ fuel → (p : ℕ) → vector_at (out cs row st ins fuel r) p ≡ look (Of r p)
  unique_at zero fuel r h le p = absurd (false≢true h)
  unique_at (suc k) zero r h le p = absurd (omega arith)
  unique_at (suc k) (suc fuel) r h le p =
      ap (λ vs. vector_at vs p) (at_node (slice_get cs r) (settled cs k) (out cs row st ins fuel) (λ q e x. unique_at k fuel q e (omega arith) x) h) ∙ meets r p

  out_past : (fuel r : ℕ) → length cs ≤ r → out cs row st ins fuel r ≡ []
  out_past zero r h = rw (none_past cs r h)
  out_past (suc fuel) r h = rw (none_past cs r h)

  pub level_is : IsAcyclic cs → (s : Source) → level_value cs row st ins s ≡ look s
  level_is acyclic (Own k) = sym (own k)
  level_is acyclic (Of r p) = elim (cases_lt r (length cs)) [
    | inl lt ↦ unique_at (length cs) (length cs) r (acyclic r lt) (omega arith) p
    | inr past ↦
        ap (λ vs. vector_at vs p) (out_past (length cs) r past)
        ∙ sym (ap (λ o. vector_at (with_node o [] (λ c. node_outputs row (below c.part st) look c)) p) (none_past cs r past)) ∙ meets r p
  ]

-- wires of a level, beside its vertices
abbrev pub Matched : List Wiring → List Node → Type 0
Matched [] [] = Unit {0}
Matched [] (c ∷ cs) = ⊥
Matched (w ∷ ws) [] = ⊥
Matched (w ∷ ws) (c ∷ cs) = (w.asked ≡ c.asked) × Matched ws cs

pub matched : (b : ℕ) (us : Vertices) → Matched (wirings b us) (nodes us)
matched b no_vertices = tt
matched b (and_vertex u us) = (one b u, matched (b + count u) us)
  where
    one : (b : ℕ) (u : Vertex) → (wiring b u).asked ≡ (node u).asked
    one b (vertex l us) = refl

matched_length : (ws : List Wiring) (cs : List Node) → Matched ws cs → length ws ≡ length cs
matched_length [] [] h = refl
matched_length [] (c ∷ cs) h = absurd h
matched_length (w ∷ ws) [] h = absurd h
matched_length (w ∷ ws) (c ∷ cs) h = ap suc (matched_length ws cs h.1)

module _ (own : List Source) where
  wires_agree : (done : ℕ → Bool) (f g : ℕ → ℕ → Source) → ((r : ℕ) → done r ≡ true → (p : ℕ) → f r p ≡ g r p) → (ss : List Source)
      → sources_ready done ss ≡ true → map (wire_source own f) ss ≡ map (wire_source own g) ss
  wires_agree done f g same [] h = refl
  wires_agree done f g same (Own k ∷ ss) h = ap (λ xs. slice_index_or own k nowhere ∷ xs) (wires_agree done f g same ss h)
  wires_agree done f g same (Of r p ∷ ss) h =
      ap₂ (λ x xs. x ∷ xs) (same r (and-left (done r) (sources_ready done ss) h) p) (wires_agree done f g same ss (and-right (done r) (sources_ready done ss) h))

  abbrev given : (ℕ → ℕ → Source) → ℕ → Option Wiring → Source
  given f p o = with_wiring o nowhere (λ w. w.gives (map (wire_source own f) w.asked) p)

  at_wiring : (ws : List Wiring) (cs : List Node) → Matched ws cs → (r : ℕ) (done : ℕ → Bool) (f g : ℕ → ℕ → Source)
      → ((r : ℕ) → done r ≡ true → (p : ℕ) → f r p ≡ g r p) → with_node (slice_get cs r) false (is_ready done) ≡ true
      → (p : ℕ) → given f p (slice_get ws r) ≡ given g p (slice_get ws r)
  at_wiring [] [] m r done f g same h p = refl
  at_wiring [] (c ∷ cs) m r done f g same h p = absurd m
  at_wiring (w ∷ ws) [] m r done f g same h p = absurd m
  at_wiring (w ∷ ws) (c ∷ cs) m zero done f g same h p =
      ap (λ xs. w.gives xs p) (wires_agree done f g same w.asked (ap (sources_ready done) m.0 ∙ and-right (guards_ready done c.guards) (sources_ready done c.asked) h))
  at_wiring (w ∷ ws) (c ∷ cs) m (suc r) done f g same h p = at_wiring ws cs m.1 r done f g same h p

  module _ (ws : List Wiring) (cs : List Node) (m : Matched ws cs) where
    more_wire : (k fuel r : ℕ) → settled cs k r ≡ true → k ≤ fuel → (p : ℕ) → wire_out ws own fuel r p ≡ wire_out ws own k r p
    more_wire zero fuel r h le p = absurd (false≢true h)
    more_wire (suc k) zero r h le p = absurd (omega arith)
    more_wire (suc k) (suc fuel) r h le p = at_wiring ws cs m r (settled cs k) (wire_out ws own fuel) (wire_out ws own k) (λ q e x. more_wire k fuel q e (omega arith) x) h p

    wire_past : (fuel r : ℕ) → length ws ≤ r → (p : ℕ) → wire_out ws own fuel r p ≡ nowhere
    wire_past zero r h p = refl
    wire_past (suc fuel) r h p = ap (given (wire_out ws own fuel) p) (none_past ws r h)

    -- a wire is what its vertex gives from the wires that it asks for
    pub wire_fix : IsAcyclic cs → (r p : ℕ) → with_wiring (slice_get ws r) nowhere (λ w. w.gives (map (wire ws own) w.asked) p) ≡ wire ws own (Of r p)
    wire_fix acyclic r p = elim (cases_lt r (length ws)) [
      | inl lt ↦
          let len = matched_length ws cs m in
          more_wire (length cs) (suc (length ws)) r (acyclic r (omega (arith, len, lt))) (omega (arith, len)) p
          ∙ sym (more_wire (length cs) (length ws) r (acyclic r (omega (arith, len, lt))) (omega (arith, len)) p)
      | inr past ↦ ap (given (wire_out ws own (length ws)) p) (none_past ws r past) ∙ sym (wire_past (length ws) r past p)
    ]

pub long-stages : (w : Source → Source) (b : ℕ) (path : Path) (l : Label) (i : ℕ) (vs : List Vector) → length (stages w b path l i vs) ≡ 2 * length vs
long-stages w b path l i [] = refl
long-stages w b path l i (v ∷ vs) = let rest = long-stages w (b + 2) path l (suc i) vs in omega (arith, rest)

-- a vertex has as many operations as it stands for
long-by : (w : Source → Source) (b : ℕ) (at : Path → Path) (l : Label) (k : Kind) (n : ℕ) (inner : List Source → ℕ → (Path → Path) → List Operation)
    → IsKindPlain k → ((own : List Source) (c : ℕ) (below' : Path → Path) → length (inner own c below') ≡ n) → length (inlined_by w b at l k inner) ≡ count_by k n
long-by w b at l (graph outs) n inner h deep = deep (map w l.ins) b (λ q. at (l.part ∷ q))
long-by w b at l (switch values names) n inner h deep = absurd h
long-by w b at l (repeat m feeds gives) n inner h deep = absurd h
long-by w b at l (delay vs) n inner h deep = long-stages w b (at (l.part ∷ [])) l 0 vs
long-by w b at l (sensor m) n inner h deep = refl
long-by w b at l (actuator m) n inner h deep = refl
long-by w b at l (constant v) n inner h deep = refl
long-by w b at l (function es) n inner h deep = refl
long-by w b at l explode n inner h deep = refl
long-by w b at l implode n inner h deep = refl
long-by w b at l (merge values) n inner h deep = refl

mutual
  pub long-plain : (w : Source → Source) (b : ℕ) (at : Path → Path) (u : Vertex) → IsPlain u → length (inlined w b at u) ≡ count u
  long-plain w b at (vertex l us) h = long-by w b at l l.kind (count_all us) _ h.0 (λ own c below'. long-plain_all (wire (wirings c us) own) c below' us h.1)

  pub long-plain_all : (w : Source → Source) (b : ℕ) (at : Path → Path) (us : Vertices) → AllPlain us → length (inlined_all w b at us) ≡ count_all us
  long-plain_all w b at no_vertices h = refl
  long-plain_all w b at (and_vertex u us) h =
      length-append (inlined w b at u) (inlined_all w (b + count u) at us) ∙ ap₂ (λ m n. m + n) (long-plain w b at u h.0) (long-plain_all w (b + count u) at us h.1)

pub long-inlined : (w : Source → Source) (b : ℕ) (at : Path → Path) (u : Vertex) → CanInline u → length (inlined w b at u) ≡ count u
long-inlined w b at u h = long-plain w b at u (is_plain u h)

-- The values of the flat list: V gives for each operation what the operation makes of V.
module _ (row : Values) (kept : State) (V : Source → Vector) (nothing : (k : ℕ) → V (Own k) ≡ []) where
  abbrev pub op_outputs : Operation → Values
  op_outputs op = node_outputs row no_state V (node_of (stages_of kept) op)

  abbrev pub Meets : ℕ → List Operation → Type 0
  Meets b [] = Unit {0}
  Meets b (op ∷ ops) = ((p : ℕ) → V (Of b p) ≡ vector_at (op_outputs op) p) × Meets (suc b) ops

  pub meets-left : (b : ℕ) (xs ys : List Operation) → Meets b (xs ++ ys) → Meets b xs
  meets-left b [] ys h = tt
  meets-left b (x ∷ xs) ys h = (h.0, meets-left (suc b) xs ys h.1)

  pub meets-right : (b : ℕ) (xs ys : List Operation) → Meets b (xs ++ ys) → Meets (b + length xs) ys
  meets-right b [] ys h = subst (λ m. Meets m ys) (omega arith) h
  meets-right b (x ∷ xs) ys h = subst (λ m. Meets m ys) (omega arith) (meets-right (suc b) xs ys h.1)

  pub hold-wired : (W : Source → Source) (gs : List Guard) → all_hold V (map (wire_guard W) gs) ≡ all_hold (λ s. V (W s)) gs
  hold-wired W [] = refl
  hold-wired W (g ∷ gs) = ap (λ b. (selected g.values (V (W g.source)) == g.case) && b) (hold-wired W gs)

  -- what an operation gives, as its vertex
  pub op_is : (W : Source → Source) (b : ℕ) (path : Path) (i : ℕ) (l : Label) (ss : List Source) (task : Task) (gives : Values → Values)
      → Meets b (operation_of W path i l (map W ss) l.outs task ∷ [])
      → ((ins : Values) → task_outputs task l.outs (vector_at (kept path) i) row ins ≡ gives ins) → (p : ℕ)
      → vector_at (cond (all_hold (λ s. V (W s)) l.guards) (gives (map (λ s. V (W s)) ss)) (map zeros l.outs)) p ≡ V (Of b p)
  op_is W b path i l ss task gives h same p =
      sym (h.0 p ∙ ap (λ vs. vector_at vs p) (ap₂ (λ t vs. cond t vs (map zeros l.outs)) (hold-wired W l.guards) (same (map V (map W ss)) ∙ ap gives (map_map V W ss))))

  -- the outputs of a graph
  graph_wired : (f : Source → Vector) (g : Source → Source) → ((s : Source) → f s ≡ V (g s)) → (outs : List Source) (p : ℕ) → vector_at (map f outs) p ≡ V (slice_index_or (map g outs) p nowhere)
  graph_wired f g same [] p = sym (nothing 0)
  graph_wired f g same (s ∷ outs) zero = same s
  graph_wired f g same (s ∷ outs) (suc p) = graph_wired f g same outs p

  pub own_wired : (W : Source → Source) (ss : List Source) (k : ℕ) → V (slice_index_or (map W ss) k nowhere) ≡ vector_at (map (λ s. V (W s)) ss) k
  own_wired W [] k = nothing 0
  own_wired W (s ∷ ss) zero = refl
  own_wired W (s ∷ ss) (suc k) = own_wired W ss k

  -- each source of a level has the value that stands where it leads
  abbrev pub Reads : Vertices → Type 0
  Reads us = (own : List Source) (b : ℕ) (at : Path → Path) (ins : Values) → IsAcyclic (nodes us) → ((k : ℕ) → V (slice_index_or own k nowhere) ≡ vector_at ins k) → Meets b (inlined_level own b at us)
      → (s : Source) → level_value (nodes us) row (λ q. kept (at q)) ins s ≡ V (wire (wirings b us) own s)

  -- from the equation of each vertex
  read-level : (us : Vertices) (own : List Source) (b : ℕ) (at : Path → Path) (ins : Values) → IsAcyclic (nodes us) → ((k : ℕ) → V (slice_index_or own k nowhere) ≡ vector_at ins k)
      → ((r p : ℕ) → vector_at (with_node (slice_get (nodes us) r) [] (λ c. node_outputs row (below c.part (λ q. kept (at q))) (λ s. V (wire (wirings b us) own s)) c)) p
      ≡ V (with_wiring (slice_get (wirings b us) r) nowhere (λ w. w.gives (map (wire (wirings b us) own) w.asked) p)))
      → (s : Source) → level_value (nodes us) row (λ q. kept (at q)) ins s ≡ V (wire (wirings b us) own s)
  read-level us own b at ins acyclic fed each =
      level_is (nodes us) row (λ q. kept (at q)) ins (λ s. V (wire (wirings b us) own s)) fed
      (λ r p. each r p ∙ ap V (wire_fix own (wirings b us) (nodes us) (matched b us) acyclic r p)) acyclic

  module _ (W : Source → Source) (b : ℕ) (at : Path → Path) (l : Label) (us : Vertices) (reads : Reads us) where
    abbrev look : Source → Vector
    look s = V (W s)

    abbrev inside : List Source → ℕ → (Path → Path) → List Operation
    inside own c below' = inlined_all (wire (wirings c us) own) c below' us

    read-by : (k : Kind) → Meets b (inlined_by W b at l k inside) → IsKindInlinable k l.guards (nodes us) → (p : ℕ)
        → vector_at (node_outputs row (λ q. kept (at (l.part ∷ q))) look (node (vertex (with_kind l k) us))) p ≡ V (gives_by b k (λ c. wirings c us) (map W (asked_by k l.ins)) p)
    read-by (graph outs) m h p =
        ap (λ gs. vector_at (cond (all_hold look gs) (graph_outputs outs (nodes us) row (λ q. kept (at (l.part ∷ q))) (map look l.ins)) (map zeros l.outs)) p) h.0
        ∙ graph_wired (level_value (nodes us) row (λ q. kept (at (l.part ∷ q))) (map look l.ins)) (wire (wirings b us) (map W l.ins))
        (reads (map W l.ins) b (λ q. at (l.part ∷ q)) (map look l.ins) h.1.0 (own_wired W l.ins) m) outs p
    read-by (switch values names) m h p = absurd h
    read-by (repeat n feeds gives) m h p = absurd h
    read-by (delay []) m h p = absurd (omega (arith, h))
    read-by (delay (v ∷ vs)) m h p = op_is W b (at (l.part ∷ [])) 0 l [] (gets v) (λ ins. vector_at (kept (at (l.part ∷ []))) 0 ∷ []) (m.0, tt) (λ ins. refl) p
    read-by (sensor n) m h p = op_is W b (at (l.part ∷ [])) 0 l l.ins (runs (sensor n)) (kind_outputs (sensor n) l.outs (nodes us) row (λ q. kept (at (l.part ∷ q)))) m (λ ins. refl) p
    read-by (actuator n) m h p = op_is W b (at (l.part ∷ [])) 0 l l.ins (runs (actuator n)) (kind_outputs (actuator n) l.outs (nodes us) row (λ q. kept (at (l.part ∷ q)))) m (λ ins. refl) p
    read-by (constant v) m h p = op_is W b (at (l.part ∷ [])) 0 l l.ins (runs (constant v)) (kind_outputs (constant v) l.outs (nodes us) row (λ q. kept (at (l.part ∷ q)))) m (λ ins. refl) p
    read-by (function es) m h p = op_is W b (at (l.part ∷ [])) 0 l l.ins (runs (function es)) (kind_outputs (function es) l.outs (nodes us) row (λ q. kept (at (l.part ∷ q)))) m (λ ins. refl) p
    read-by explode m h p = op_is W b (at (l.part ∷ [])) 0 l l.ins (runs explode) (kind_outputs explode l.outs (nodes us) row (λ q. kept (at (l.part ∷ q)))) m (λ ins. refl) p
    read-by implode m h p = op_is W b (at (l.part ∷ [])) 0 l l.ins (runs implode) (kind_outputs implode l.outs (nodes us) row (λ q. kept (at (l.part ∷ q)))) m (λ ins. refl) p
    read-by (merge values) m h p = op_is W b (at (l.part ∷ [])) 0 l l.ins (runs (merge values)) (kind_outputs (merge values) l.outs (nodes us) row (λ q. kept (at (l.part ∷ q)))) m (λ ins. refl) p

  mutual
    read-vertex : (W : Source → Source) (b : ℕ) (at : Path → Path) (u : Vertex) → CanInline u → Meets b (inlined W b at u) → (p : ℕ)
        → vector_at (node_outputs row (below (node u).part (λ q. kept (at q))) (λ s. V (W s)) (node u)) p ≡ V ((wiring b u).gives (map W (wiring b u).asked) p)
    read-vertex W b at (vertex l us) h m p =
        read-by W b at l us (λ own c at' ins acyclic fed met. read-level us own c at' ins acyclic fed (read-all (wire (wirings c us) own) c at' us h.1 met)) l.kind m h.0 p

    read-all : (W : Source → Source) (b : ℕ) (at : Path → Path) (us : Vertices) → AllCanInline us → Meets b (inlined_all W b at us) → (r p : ℕ)
        → vector_at (with_node (slice_get (nodes us) r) [] (λ c. node_outputs row (below c.part (λ q. kept (at q))) (λ s. V (W s)) c)) p
        ≡ V (with_wiring (slice_get (wirings b us) r) nowhere (λ w. w.gives (map W w.asked) p))
    read-all W b at no_vertices h m r p = sym (nothing 0)
    read-all W b at (and_vertex u us) h m zero p = read-vertex W b at u h.0 (meets-left b (inlined W b at u) _ m) p
    read-all W b at (and_vertex u us) h m (suc r) p =
        read-all W (b + count u) at us h.1 (subst (λ n. Meets (b + n) (inlined_all W (b + count u) at us)) (long-inlined W b at u h.0) (meets-right b (inlined W b at u) _ m)) r p

  pub reads-all : (us : Vertices) → AllCanInline us → Reads us
  reads-all us h own b at ins acyclic fed m = read-level us own b at ins acyclic fed (read-all (wire (wirings b us) own) b at us h m)
