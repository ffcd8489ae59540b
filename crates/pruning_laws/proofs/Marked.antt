-- Marks of the references of a main graph may be made before units without operations are pruned or after.
use Rattle.std.proofs.Common.{◌≡◌, ℕ, suc, ◌+◌, ◌==◌, List, [], ◌∷◌, ◌++◌, length, map, Bool, true, false, cond, Option, Some, None, refl, sym, ap, ap₂, ◌∙◌, arith}
use Rattle.std.proofs.lemmas.Bool.{eqb-true, false_from_ne_true}
use Rattle.syn_base.specs.Numbers.{numbers_below}
use Rattle.algo_tree.specs.Tree.{Label, Vertex, vertex, Vertices, no_vertices, and_vertex}
use Rattle.algo_tree.specs.View.{vertices_of}
use Rattle.algo_tree.specs.Counted.{operations, operations_in, operations_by}
use Rattle.algo_tree.specs.Typed.{label_of}
use Rattle.algo_tree.specs.Valid.{IsTree}
use Rattle.flat_laws.specs.FlatOf.{flat_of, graph_of}
use Rattle.multi_period.specs.declared.Mark.{Mark}
use Rattle.multi_period.specs.Marks.{mark_at}
use Rattle.multi_period.specs.Periods.{count, keep, run, when_runs, otherwise, body, period, period_by, all_periods, periods}
use Rattle.wiring_laws.specs.Wiring.{lead, leads_by, wiring, wire, wires}
use Rattle.wiring_laws.specs.Pruned.{own_of, passing, prune, prune_all, pruned}
use Rattle.wiring_laws.proofs.Idle.{IsIdle}
use Rattle.wiring_laws.proofs.Prunable.{AllSome, CanPrune, AllCanPrune, can_prune, counted-prune, counted-prune_all, prune-idle, prune-live}
use Rattle.pruning_laws.proofs.Flattened.{list-flattened}

-- what is passed on leads as before
passed : (os : List (Option ℕ)) → AllSome os → map (lead []) (map own_of os) ≡ os
passed [] h = refl
passed (None ∷ os) h = absurd h
passed (Some k ∷ os) h = ap (λ xs. Some k ∷ xs) (passed os h)

wire-either : (l : Label) (us : Vertices) → (operations (vertex l us) ≡ 0 → IsIdle (vertex l us) × AllSome (wiring (vertex l us)))
    → wires (prune_all us) ≡ wires us → (b : Bool) → (operations (vertex l us) == 0) ≡ b
    → wire (cond b (passing l (wiring (vertex l us))) (vertex l (prune_all us))) ≡ wire (vertex l us)
wire-either l us can inner true e = ap (λ os. record { ins = l.ins; leads = os }) (passed (wiring (vertex l us)) ((can (eqb-true (operations (vertex l us)) 0 e)).1))
wire-either l us can inner false e = ap (λ ws. record { ins = l.ins; leads = leads_by l.kind ws }) inner

mutual
  pub wire-prune : (u : Vertex) → CanPrune u → wire (prune u) ≡ wire u
  wire-prune (vertex l us) can = wire-either l us can.0 (wires-prune us can.1) (operations (vertex l us) == 0) refl

  pub wires-prune : (us : Vertices) → AllCanPrune us → wires (prune_all us) ≡ wires us
  wires-prune no_vertices can = refl
  wires-prune (and_vertex u us) can = ap₂ (λ w ws. w ∷ ws) (wire-prune u can.0) (wires-prune us can.1)

-- what is pruned follows from the number of operations, the wires and what is pruned inside
prune-same : (l : Label) (us vs : Vertices) → operations_in us ≡ operations_in vs → wires us ≡ wires vs → prune_all us ≡ prune_all vs → prune (vertex l us) ≡ prune (vertex l vs)
prune-same l us vs n ws ps =
    ap (λ m. cond (operations_by l.kind m == 0) (passing l (leads_by l.kind (wires us))) (vertex l (prune_all us))) n
    ∙ ap₂ (λ w p. cond (operations_by l.kind (operations_in vs) == 0) (passing l (leads_by l.kind w)) (vertex l p)) ws ps

twice-either : (l : Label) (us : Vertices) → CanPrune (vertex l us) → prune_all (prune_all us) ≡ prune_all us → (b : Bool) → (operations (vertex l us) == 0) ≡ b
    → prune (cond b (passing l (wiring (vertex l us))) (vertex l (prune_all us))) ≡ cond b (passing l (wiring (vertex l us))) (vertex l (prune_all us))
twice-either l us can inner true e = ap (passing l) (passed (wiring (vertex l us)) ((can.0 (eqb-true (operations (vertex l us)) 0 e)).1))
twice-either l us can inner false e = prune-live (vertex l (prune_all us)) (ap (λ n. operations_by l.kind n == 0) (counted-prune_all us) ∙ e) ∙ ap (vertex l) inner

mutual
  -- pruning twice is pruning once
  pub prune-twice : (u : Vertex) → CanPrune u → prune (prune u) ≡ prune u
  prune-twice (vertex l us) can = twice-either l us can (prune_all-twice us can.1) (operations (vertex l us) == 0) refl

  prune_all-twice : (us : Vertices) → AllCanPrune us → prune_all (prune_all us) ≡ prune_all us
  prune_all-twice no_vertices can = refl
  prune_all-twice (and_vertex u us) can = ap₂ and_vertex (prune-twice u can.0) (prune_all-twice us can.1)

abbrev run_of : Vertex → Vertex
run_of (vertex l us) = run l us

abbrev when_of : Vertex → Vertex
when_of (vertex l us) = when_runs l us

abbrev body_of : Vertex → Vertex
body_of (vertex l us) = body l us

abbrev period_of : Mark → Vertex → Vertex
period_of m (vertex l us) = period m l us

module _ (m : Mark) (l : Label) (us : Vertices) (can : CanPrune (vertex l us)) where
  abbrev cut : Bool → Vertex
  cut b = cond b (passing l (wiring (vertex l us))) (vertex l (prune_all us))

  run-counted : (b : Bool) → (operations (vertex l us) == 0) ≡ b → operations (run_of (cut b)) ≡ operations (run l us)
  run-counted true e = sym (eqb-true (operations (vertex l us)) 0 e)
  run-counted false e = ap (operations_by l.kind) (counted-prune_all us)

  run-wire : (b : Bool) → (operations (vertex l us) == 0) ≡ b → wire (run_of (cut b)) ≡ wire (run l us)
  run-wire true e = ap (λ os. record { ins = (label_of (run l us)).ins; leads = os }) (passed (wiring (vertex l us)) ((can.0 (eqb-true (operations (vertex l us)) 0 e)).1))
  run-wire false e = ap (λ ws. record { ins = (label_of (run l us)).ins; leads = leads_by l.kind ws }) (wires-prune us can.1)

  run-pruned : (b : Bool) → (operations (vertex l us) == 0) ≡ b → prune (run_of (cut b)) ≡ prune (run l us)
  run-pruned true e =
      ap (passing (label_of (run l us))) (passed (wiring (vertex l us)) ((can.0 (eqb-true (operations (vertex l us)) 0 e)).1))
      ∙ sym (prune-idle (run l us) (eqb-true (operations (vertex l us)) 0 e))
  run-pruned false e = prune-same (label_of (run l us)) (prune_all us) us (counted-prune_all us) (wires-prune us can.1) (prune_all-twice us can.1)

  -- the levels around it have the same labels
  when-pruned : (b : Bool) → (operations (vertex l us) == 0) ≡ b → prune (when_of (cut b)) ≡ prune (when_runs l us)
  when-pruned true e =
      prune-same (label_of (when_runs l us)) (and_vertex (run_of (cut true)) no_vertices) (and_vertex (run l us) no_vertices)
      (ap (λ n. n + 0) (run-counted true e)) (ap (λ w. w ∷ []) (run-wire true e))
      (ap (λ v. and_vertex v no_vertices) (run-pruned true e))
  when-pruned false e =
      prune-same (label_of (when_runs l us)) (and_vertex (run_of (cut false)) no_vertices) (and_vertex (run l us) no_vertices)
      (ap (λ n. n + 0) (run-counted false e)) (ap (λ w. w ∷ []) (run-wire false e))
      (ap (λ v. and_vertex v no_vertices) (run-pruned false e))

  when-counted : (b : Bool) → (operations (vertex l us) == 0) ≡ b → operations (when_of (cut b)) ≡ operations (when_runs l us)
  when-counted true e = ap (λ n. n + 0) (run-counted true e)
  when-counted false e = ap (λ n. n + 0) (run-counted false e)

  when-wire : (b : Bool) → (operations (vertex l us) == 0) ≡ b → wire (when_of (cut b)) ≡ wire (when_runs l us)
  when-wire true e = ap (λ w. record { ins = (label_of (when_runs l us)).ins; leads = leads_by (label_of (when_runs l us)).kind (w ∷ []) }) (run-wire true e)
  when-wire false e = ap (λ w. record { ins = (label_of (when_runs l us)).ins; leads = leads_by (label_of (when_runs l us)).kind (w ∷ []) }) (run-wire false e)

  abbrev both : Vertex → Vertices
  both v = and_vertex v (and_vertex (otherwise l) no_vertices)

  body-pruned : (b : Bool) → (operations (vertex l us) == 0) ≡ b → prune (body_of (cut b)) ≡ prune (body l us)
  body-pruned true e =
      prune-same (label_of (body l us)) (both (when_of (cut true))) (both (when_runs l us)) (ap (λ n. n + operations_in (and_vertex (otherwise l) no_vertices)) (when-counted true e))
      (ap (λ w. w ∷ wires (and_vertex (otherwise l) no_vertices)) (when-wire true e)) (ap (λ v. and_vertex v (prune_all (and_vertex (otherwise l) no_vertices))) (when-pruned true e))
  body-pruned false e =
      prune-same (label_of (body l us)) (both (when_of (cut false))) (both (when_runs l us)) (ap (λ n. n + operations_in (and_vertex (otherwise l) no_vertices)) (when-counted false e))
      (ap (λ w. w ∷ wires (and_vertex (otherwise l) no_vertices)) (when-wire false e)) (ap (λ v. and_vertex v (prune_all (and_vertex (otherwise l) no_vertices))) (when-pruned false e))

  body-counted : (b : Bool) → (operations (vertex l us) == 0) ≡ b → operations (body_of (cut b)) ≡ operations (body l us)
  body-counted b e = sym (counted-prune (body_of (cut b))) ∙ ap operations (body-pruned b e) ∙ counted-prune (body l us)

prune-listed : (us : List Vertex) → prune_all (vertices_of us) ≡ vertices_of (map prune us)
prune-listed [] = refl
prune-listed (u ∷ us) = ap (and_vertex (prune u)) (prune-listed us)

pub some-count : (m : Mark) (l : Label) (us : Vertices) → (operations (period m l us) == 0) ≡ false
some-count m l us = false_from_ne_true (operations (period m l us) == 0) (λ e. let none = eqb-true (operations (period m l us)) 0 e in omega (arith, none))

same-but-last : (x : Vertex) (xs : List Vertex) (v w : Vertex) → prune v ≡ prune w → prune_all (vertices_of (x ∷ (xs ++ v ∷ []))) ≡ prune_all (vertices_of (x ∷ (xs ++ w ∷ [])))
same-but-last x [] v w e = ap (λ y. and_vertex (prune x) (and_vertex y no_vertices)) e
same-but-last x (y ∷ xs) v w e = ap (and_vertex (prune x)) (same-but-last y xs v w e)

period-either : (m : Mark) (l : Label) (us : Vertices) → CanPrune (vertex l us) → (b : Bool) → (operations (vertex l us) == 0) ≡ b
    → prune (period_of m (cond b (passing l (wiring (vertex l us))) (vertex l (prune_all us)))) ≡ prune (period m l us)
period-either m l us can true e =
    prune-live (period_of m (passing l (wiring (vertex l us)))) (some-count m (label_of (passing l (wiring (vertex l us)))) no_vertices)
    ∙ ap (vertex (label_of (period m l us)))
    (same-but-last (count m.every) (map (keep l) (numbers_below (length l.outs))) (body_of (passing l (wiring (vertex l us))))
    (body l us) (body-pruned m l us can true e))
    ∙ sym (prune-live (period m l us) (some-count m l us))
period-either m l us can false e =
    prune-live (period m l (prune_all us)) (some-count m l (prune_all us))
    ∙ ap (vertex (label_of (period m l us))) (same-but-last (count m.every) (map (keep l) (numbers_below (length l.outs))) (body l (prune_all us)) (body l us) (body-pruned m l us can false e))
    ∙ sym (prune-live (period m l us) (some-count m l us))

by-mark : (m : Mark) (v : Vertex) → period_by (Some m) v ≡ period_of m v
by-mark m (vertex l us) = refl

one-marked : (o : Option Mark) (u : Vertex) → CanPrune u → prune (period_by o (prune u)) ≡ prune (period_by o u)
one-marked None u can = prune-twice u can
one-marked (Some m) (vertex l us) can = ap prune (by-mark m (prune (vertex l us))) ∙ period-either m l us can (operations (vertex l us) == 0) refl

all-marked : (mark : ℕ → Option Mark) (us : Vertices) → AllCanPrune us → prune_all (all_periods mark (prune_all us)) ≡ prune_all (all_periods mark us)
all-marked mark no_vertices can = refl
all-marked mark (and_vertex u us) can = ap₂ and_vertex (one-marked (mark 0) u can.0) (all-marked (λ r. mark (suc r)) us can.1)

pub pruned-marked : (marks : List Mark) (main : Vertex) → IsTree main → pruned (periods marks (pruned main)) ≡ pruned (periods marks main)
pruned-marked marks (vertex l us) h = ap (vertex l) (all-marked (mark_at marks) us ((can_prune [] (vertex l us) h.well h.typed).1))

pub flat-marked : (marks : List Mark) (main : Vertex) → IsTree main → IsTree (periods marks main) → IsTree (periods marks (pruned main))
    → flat_of (periods marks (pruned main)) ≡ flat_of (periods marks main)
flat-marked marks main h made made' =
    ap graph_of (sym (list-flattened (periods marks (pruned main)) made')) ∙ ap flat_of (pruned-marked marks main h) ∙ ap graph_of (list-flattened (periods marks main) made)
