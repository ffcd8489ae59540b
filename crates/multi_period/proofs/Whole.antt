-- The made tree has the meaning with periods.
use Rattle.std.proofs.Common.{
  ◌≡◌,
  ℕ,
  zero,
  suc,
  ◌-◌,
  ◌%◌,
  ◌==◌,
  ◌<◌,
  ◌≤◌,
  List,
  [],
  ◌∷◌,
  ◌++◌,
  length,
  map,
  Bool,
  true,
  false,
  cond,
  Option,
  Some,
  None,
  inl,
  inr,
  slice_get,
  slice_index_or,
  refl,
  sym,
  ap,
  ◌∙◌,
  subst,
  eq-eqb,
  ne_eqb,
  arith,
}
use Rattle.std.proofs.lemmas.Bool.{cases_eq, false≢true}
use mathlib.Core.Path.{fun_ext}
use native.Mathlib.Nat.{zero-mod}
use Rattle.algo_tree.specs.declared.Source.{Source}
use Rattle.algo_tree.specs.declared.Part.{Part}
use Rattle.algo_tree.specs.Level.{State, Node, below, all_hold, source_value, with_node, node_outputs, node_next, out, level_value, graph_next, graph_initial}
use Rattle.algo_tree.specs.Order.{IsAcyclic}
use Rattle.algo_tree.specs.Parts.{HasDistinctParts}
use Rattle.algo_tree.proofs.Fuel.{out_is}
use Rattle.algo_tree.specs.Tree.{Label, Kind, sensor, actuator, constant, delay, function, explode, implode, merge, graph, switch, repeat, Vertex, vertex, Vertices, no_vertices, and_vertex}
use Rattle.algo_tree.specs.Meaning.{node, nodes, past, actuator_values, actuator_value}
use Rattle.multi_period.specs.declared.mark.Mark.{Mark}
use Rattle.multi_period.specs.Marks.{IsMarkable, IsMark}
use Rattle.multi_period.specs.Meaning.{History, history, held_by, held_in, holding}
use Rattle.multi_period.specs.Periods.{period_by, all_periods}
use Rattle.multi_period.proofs.Turns.{same_last, last_itself, last_before}
use Rattle.multi_period.proofs.Found.{found_at}
use Rattle.multi_period.proofs.Reference.{Able, Rel, Holds, rel-first, rel-outputs, rel-next}
use Rattle.multi_period.proofs.Levels.{vertex_at, held-part, made-part, node-at, made-at, held-at, pairs, long-made, long-held, held-distinct, made-distinct, held-acyclic}
use Rattle.syn_base.specs.Vectors.{Vector, Values, zeros}

-- below the part of a node stands what the node keeps
below-next : (cs : List Node) (row : Values) (st : State) (r : ℕ) (c : Node) → HasDistinctParts cs → slice_get cs r ≡ Some c → (p : Part) → c.part ≡ p
    → below p (graph_next cs row st []) ≡ node_next row (below p st) (level_value cs row st []) c
below-next cs row st r c distinct is p e =
    fun_ext (λ q.
    ap (λ x. graph_next cs row st [] (x ∷ q)) (sym e)
    ∙ ap (λ o. with_node o (st (c.part ∷ q)) (λ d. node_next row (below d.part st) (level_value cs row st []) d q)) (found_at cs r c distinct is)
    ∙ ap (λ x. node_next row (below x st) (level_value cs row st []) c q) e)

below-first : (cs : List Node) (r : ℕ) (c : Node) → HasDistinctParts cs → slice_get cs r ≡ Some c → (p : Part) → c.part ≡ p → below p (graph_initial cs) ≡ c.does.initial
below-first cs r c distinct is p e =
    fun_ext (λ q. ap (λ x. graph_initial cs (x ∷ q)) (sym e) ∙ ap (λ o. with_node o [] (λ d. d.does.initial q)) (found_at cs r c distinct is))

-- the actuators are where they were
actuator-none : (look : Source → Vector) (l : Label) (k : Kind) → IsMarkable k → actuator_value look l k ≡ []
actuator-none look l (function es) h = refl
actuator-none look l (graph outs) h = refl
actuator-none look l (switch values names) h = refl
actuator-none look l (repeat n feeds gives) h = refl
actuator-none look l (sensor n) h = refl
actuator-none look l (actuator n) h = absurd h
actuator-none look l (constant v) h = refl
actuator-none look l (delay vs) h = refl
actuator-none look l explode h = refl
actuator-none look l implode h = refl
actuator-none look l (merge values) h = refl

actuators-made : (mark : ℕ → Option Mark) (look : Source → Vector) (us : Vertices) → ((r : ℕ) (l : Label) (vs : Vertices) → vertex_at us r ≡ Some (vertex l vs) → Able (mark r) l vs)
    → actuator_values look (all_periods mark us) ≡ actuator_values look us
actuators-made mark look no_vertices able = refl
actuators-made mark look (and_vertex (vertex l vs) us) able =
    here (mark 0) (able 0 l vs refl) ∙ ap (λ ys. actuator_value look l l.kind ++ ys) (actuators-made (λ r. mark (suc r)) look us (λ r l vs is. able (suc r) l vs is))
  where
    here : (o : Option Mark) → Able o l vs
        → actuator_values look (and_vertex (period_by o (vertex l vs)) (all_periods (λ r. mark (suc r)) us)) ≡ actuator_value look l l.kind
        ++ actuator_values look (all_periods (λ r. mark (suc r)) us)
    here None h = refl
    here (Some m) h = ap (λ xs. xs ++ actuator_values look (all_periods (λ r. mark (suc r)) us)) (sym (actuator-none look l l.kind h.0.kind))

abbrev pub as_main : Label → Label
as_main l = record { part = l.part; definition = l.definition; ins = l.ins; guards = l.guards; outs = l.outs; names = l.names; kind = graph [] }

module _ (mark : ℕ → Option Mark) (lab : Label) (us : Vertices) (acyclic : IsAcyclic (nodes us)) (distinct : HasDistinctParts (nodes us))
    (able : (r : ℕ) (l : Label) (vs : Vertices) → vertex_at us r ≡ Some (vertex l vs) → Able (mark r) l vs) (rows : List Values) where
  abbrev pub row : ℕ → Values
  row k = slice_index_or rows k []

  abbrev pub H : ℕ → History
  H k = history mark (vertex (as_main lab) us) rows k

  abbrev pub hold : ℕ → ℕ → Option Values
  hold k r = held_in (mark r) k (λ j. (H k).gave j r)

  abbrev pub es : ℕ → List Node
  es k = holding (hold k) (nodes us)

  abbrev ds : List Node
  ds = nodes (all_periods mark us)

  abbrev pub past' : ℕ → State
  past' k = past (vertex (as_main lab) (all_periods mark us)) rows k

  -- what each reference gives in a reaction
  abbrev pub G : ℕ → ℕ → Values
  G j = out (es j) (row j) (H j).past [] (length (es j))

  gave-is : (k j : ℕ) → j < k → (H k).gave j ≡ G j
  gave-is zero j lt = absurd (omega arith)
  gave-is (suc k) j lt = elim (cases_eq j k) [ inl e ↦ now e | inr ne ↦ ap (λ b. cond b (G k) ((H k).gave j)) (ne_eqb j k ne) ∙ gave-is k j (less ne) ]
    where
      now : j ≡ k → cond (j == k) (G k) ((H k).gave j) ≡ G j
      now e = ap (λ b. cond b (G k) ((H k).gave j)) (eq-eqb j k e) ∙ ap G (sym e)

      less : (j ≡ k → ⊥) → j < k
      less ne = omega (arith, ne, lt)

  module _ (m : Mark) (r : ℕ) (l : Label) (vs : Vertices) (is : vertex_at us r ≡ Some (vertex l vs)) (marked : mark r ≡ Some m) (ok : IsMark m l) where
    off-node : (k : ℕ) → ((k % m.every) == 0) ≡ false → hold k r ≡ Some ((H k).gave (k - (k % m.every)) r)
    off-node k off = ap (λ o. held_in o k (λ j. (H k).gave j r)) marked ∙ ap (λ b. cond b None (Some ((H k).gave (k - (k % m.every)) r))) off

    later : (k : ℕ) → ((k % m.every) == 0) ≡ false → 1 ≤ k
    later zero off = absurd (false≢true (sym off ∙ ap (λ x. x == 0) (zero-mod m.every)))
    later (suc k) off = omega arith

    looks-off : (k : ℕ) → ((k % m.every) == 0) ≡ false → G k r ≡ G (k - (k % m.every)) r
    looks-off k off =
        let before : Values = (H k).gave (k - (k % m.every)) r in
        out_is (es k) (held-acyclic (hold k) (nodes us) acyclic) (row k) (H k).past [] r (held_by (hold k r) (node (vertex l vs)))
        (held-at (hold k) (nodes us) r (node (vertex l vs)) (node-at us r (vertex l vs) is))
        ∙ ap (λ o. node_outputs (row k) (below (held_by o (node (vertex l vs))).part (H k).past) (level_value (es k) (row k) (H k).past []) (held_by o (node (vertex l vs)))) (off-node k off)
        ∙ ap (λ gs. cond (all_hold (level_value (es k) (row k) (H k).past []) gs) before (map zeros l.outs)) ok.guards
        ∙ ap (λ f. f r) (gave-is k (k - (k % m.every)) (last_before m.every k off ok.some (later k off)))

    looks-by : (k : ℕ) (b : Bool) → ((k % m.every) == 0) ≡ b → G k r ≡ G (k - (k % m.every)) r
    looks-by k true e = ap (λ j. G j r) (sym (last_itself m.every k e))
    looks-by k false e = looks-off k e

    -- it gives what it gave in the last reaction in which it ran
    looks-back : (k : ℕ) → G k r ≡ G (k - (k % m.every)) r
    looks-back k = looks-by k ((k % m.every) == 0) refl

  -- what a reference gave in the reaction before
  abbrev pub kept : ℕ → ℕ → Label → Values
  kept zero r l = map zeros l.outs
  kept (suc j) r l = G j r

  abbrev pub Inv : ℕ → Type 0
  Inv k = (r : ℕ) (l : Label) (vs : Vertices) → vertex_at us r ≡ Some (vertex l vs) → Rel (mark r) l vs k (kept k r l) (below l.part (H k).past) (below l.part (past' k))

  holds-some : (m : Mark) (r : ℕ) (l : Label) (vs : Vertices) → vertex_at us r ≡ Some (vertex l vs) → mark r ≡ Some m → IsMark m l
      → (k : ℕ) → ((k % m.every) == 0) ≡ false → (H k).gave (k - (k % m.every)) r ≡ kept k r l
  holds-some m r l vs is marked ok zero off = absurd (false≢true (sym off ∙ ap (λ x. x == 0) (zero-mod m.every)))
  holds-some m r l vs is marked ok (suc j) off =
      ap (λ f. f r) (gave-is (suc j) (suc j - (suc j % m.every)) (last_before m.every (suc j) off ok.some (omega arith)))
      ∙ ap (λ i. G i r) (same_last m.every j ok.some off)
      ∙ sym (looks-back m r l vs is marked ok j)

  holds-by : (o : Option Mark) (k r : ℕ) (l : Label) (vs : Vertices) → vertex_at us r ≡ Some (vertex l vs) → mark r ≡ o → Able o l vs
      → Holds k (λ j. (H k).gave j r) (kept k r l) (below l.part (H k).past) (below l.part (past' k)) (row k) (level_value ds (row k) (past' k) []) o
  holds-by None k r l vs is e ok = tt
  holds-by (Some m) k r l vs is e ok = holds-some m r l vs is e ok.0 k

  module _ (k : ℕ) (inv : Inv k) where
    given-at : (look : Source → Vector) (r : ℕ) (u : Vertex) → vertex_at us r ≡ Some u
        → node_outputs (row k) (below (node (period_by (mark r) u)).part (past' k)) look (node (period_by (mark r) u))
        ≡ node_outputs (row k) (below (held_by (hold k r) (node u)).part (H k).past) look (held_by (hold k r) (node u))
    given-at look r (vertex l vs) is =
        parts (mark r) (hold k r)
        ∙ rel-outputs k (λ j. (H k).gave j r) (kept k r l) (below l.part (H k).past) (below l.part (past' k)) (row k) look (mark r) l vs
        (able r l vs is) (inv r l vs is) (holds-by (mark r) k r l vs is refl (able r l vs is))
        ∙ sym (parts' (hold k r))
      where
        parts : (o : Option Mark) (h : Option Values) → node_outputs (row k) (below (node (period_by o (vertex l vs))).part (past' k)) look (node (period_by o (vertex l vs)))
            ≡ node_outputs (row k) (below l.part (past' k)) look (node (period_by o (vertex l vs)))
        parts None h = refl
        parts (Some m) h = refl

        parts' : (h : Option Values) → node_outputs (row k) (below (held_by h (node (vertex l vs))).part (H k).past) look (held_by h (node (vertex l vs)))
            ≡ node_outputs (row k) (below l.part (H k).past) look (held_by h (node (vertex l vs)))
        parts' None = refl
        parts' (Some v) = refl

    lockstep : (fuel : ℕ) → out ds (row k) (past' k) [] fuel ≡ out (es k) (row k) (H k).past [] fuel
    lockstep zero = fun_ext (λ r. pairs mark (hold k) [] (λ c. map zeros c.outs) (λ c. map zeros c.outs) us (λ r u e. outs (mark r) (hold k r) u) r)
      where
        outs : (o : Option Mark) (h : Option Values) (u : Vertex) → map zeros (node (period_by o u)).outs ≡ map zeros (held_by h (node u)).outs
        outs None None u = refl
        outs None (Some v) u = refl
        outs (Some m) None (vertex l vs) = refl
        outs (Some m) (Some v) (vertex l vs) = refl
    lockstep (suc fuel) =
        let look = source_value [] (out ds (row k) (past' k) [] fuel) in
        fun_ext (λ r.
        pairs mark (hold k) [] (λ c. node_outputs (row k) (below c.part (past' k)) look c) (λ c. node_outputs (row k) (below c.part (H k).past) look c) us (λ r u e. given-at look r u e) r
        ∙ ap (λ (f : ℕ → Values). with_node (slice_get (es k) r) [] (λ c. node_outputs (row k) (below c.part (H k).past) (source_value [] f) c)) (lockstep fuel))

    same-look : level_value ds (row k) (past' k) [] ≡ level_value (es k) (row k) (H k).past []
    same-look =
        ap (λ n. source_value [] (out ds (row k) (past' k) [] n)) (long-made mark us ∙ sym (long-held (hold k) (nodes us)))
        ∙ ap (source_value []) (lockstep (length (es k)))

    abbrev look : Source → Vector
    look = level_value (es k) (row k) (H k).past []

    module _ (r : ℕ) (l : Label) (vs : Vertices) (is : vertex_at us r ≡ Some (vertex l vs)) where
      abbrev before : Node
      before = held_by (hold k r) (node (vertex l vs))

      abbrev made : Node
      made = node (period_by (mark r) (vertex l vs))

      before-at : slice_get (es k) r ≡ Some before
      before-at = held-at (hold k) (nodes us) r (node (vertex l vs)) (node-at us r (vertex l vs) is)

      gives : G k r ≡ node_outputs (row k) (below l.part (H k).past) look before
      gives =
          out_is (es k) (held-acyclic (hold k) (nodes us) acyclic) (row k) (H k).past [] r before before-at
          ∙ ap (λ p. node_outputs (row k) (below p (H k).past) look before) (held-part (hold k r) (node (vertex l vs)))

      keeps : below l.part (H (suc k)).past ≡ node_next (row k) (below l.part (H k).past) look before
      keeps = below-next (es k) (row k) (H k).past r before (held-distinct (hold k) (nodes us) distinct) before-at l.part (held-part (hold k r) (node (vertex l vs)))

      makes : below l.part (past' (suc k)) ≡ node_next (row k) (below l.part (past' k)) look made
      makes =
          below-next ds (row k) (past' k) r made (made-distinct mark us distinct) (made-at mark us r (vertex l vs) is) l.part (made-part (mark r) (vertex l vs))
          ∙ ap (λ f. node_next (row k) (below l.part (past' k)) f made) same-look

      step-at : Rel (mark r) l vs (suc k) (G k r) (below l.part (H (suc k)).past) (below l.part (past' (suc k)))
      step-at =
          subst (λ x. Rel (mark r) l vs (suc k) x (below l.part (H (suc k)).past) (below l.part (past' (suc k)))) (sym gives)
          (subst (λ s. Rel (mark r) l vs (suc k) (node_outputs (row k) (below l.part (H k).past) look before) s (below l.part (past' (suc k)))) (sym keeps)
          (subst (λ s. Rel (mark r) l vs (suc k) (node_outputs (row k) (below l.part (H k).past) look before) (node_next (row k) (below l.part (H k).past) look before) s) (sym makes)
          (rel-next k (λ j. (H k).gave j r) (kept k r l) (below l.part (H k).past) (below l.part (past' k)) (row k) look (mark r) l vs
          (able r l vs is) (inv r l vs is) (holds-by (mark r) k r l vs is refl (able r l vs is)))))

  first-at : (r : ℕ) (l : Label) (vs : Vertices) → vertex_at us r ≡ Some (vertex l vs) → Rel (mark r) l vs 0 (map zeros l.outs) (below l.part (H 0).past) (below l.part (past' 0))
  first-at r l vs is =
      subst (λ s. Rel (mark r) l vs 0 (map zeros l.outs) s (below l.part (past' 0)))
      (sym (below-first (nodes us) r (node (vertex l vs)) distinct (node-at us r (vertex l vs) is) l.part refl))
      (subst (λ s. Rel (mark r) l vs 0 (map zeros l.outs) (node (vertex l vs)).does.initial s)
      (sym (below-first ds r (node (period_by (mark r) (vertex l vs))) (made-distinct mark us distinct) (made-at mark us r (vertex l vs) is) l.part (made-part (mark r) (vertex l vs))))
      (rel-first (mark r) l vs (able r l vs is)))

  pub always : (k : ℕ) → Inv k
  always zero = first-at
  always (suc k) = λ r l vs is. step-at k (always k) r l vs is

  pub taken : (k : ℕ) → actuator_values (level_value ds (row k) (past' k) []) (all_periods mark us) ≡ actuator_values (level_value (es k) (row k) (H k).past []) us
  taken k =
      ap (λ f. actuator_values f (all_periods mark us)) (same-look k (always k))
      ∙ actuators-made mark (level_value (es k) (row k) (H k).past []) us able
