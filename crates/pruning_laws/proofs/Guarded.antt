-- Guards of cases go round units without operations: what is pruned is put under guards as what is not.
use Rattle.std.proofs.Common.{◌≡◌, ℕ, ℤ, zero, suc, ◌+◌, ◌==◌, List, [], ◌∷◌, ◌++◌, length, map, slice_index_or, Bool, true, false, cond, Option, Some, None, slice_get, refl, sym, ap, ap₂, ◌∙◌, arith}
use Rattle.std.proofs.lemmas.Bool.{eqb-true}
use Rattle.algo_tree.specs.declared.Source.{Source}
use Rattle.algo_tree.specs.declared.Source.TheVariants.{Own, Of}
use Rattle.algo_tree.specs.declared.Guard.{Guard}
use Rattle.algo_tree.specs.Tree.{Label, Kind, sensor, actuator, constant, delay, function, explode, implode, merge, graph, switch, repeat, Vertex, vertex, Vertices, no_vertices, and_vertex}
use Rattle.algo_tree.specs.Code.{count_of, join}
use Rattle.algo_tree.specs.Counted.{operations}
use Rattle.algo_tree.specs.Typed.{label_of}
use Rattle.algo_tree.specs.NoRepeat.{IsNoRepeat, HasNoRepeat, AllNoRepeat}
use Rattle.flat_laws.specs.Guarded.{
  shift,
  guard_sources,
  own_guards,
  guard_for,
  operation_under,
  graph_under,
  merge_of,
  merges,
  merge_sources,
  switch_inside,
  guarded_by,
  guarded,
  guarded_all,
  guarded_cases,
}
use Rattle.flat_laws.proofs.GuardedCounting.{counted-guarded}
use Rattle.wiring_laws.specs.Wiring.{pick, Wire, with_wire, lead_source, lead_out, lead, leads_by, wiring, wire, wires}
use Rattle.wiring_laws.specs.Pruned.{own_of, passing, prune, prune_all}
use Rattle.wiring_laws.proofs.Idle.{IsKindIdle, IsIdle, AllIdle}
use Rattle.wiring_laws.proofs.Prunable.{AllSome, CanPrune, AllCanPrune, prune-idle, prune-live}

-- an input, where n others stand before
abbrev pub later : ℕ → Option ℕ → Option ℕ
later n None = None
later n (Some k) = Some (n + k)

pub length-own : (i : ℕ) (gs : List Guard) → length (own_guards i gs) ≡ length gs
length-own i [] = refl
length-own i (g ∷ gs) = ap suc (length-own (suc i) gs)

past-guards : (f : Source → Option ℕ) (gs : List Guard) (ss : List Source) (k : ℕ) → slice_index_or (map f (guard_sources gs ++ ss)) (length gs + k) None ≡ slice_index_or (map f ss) k None
past-guards f [] ss k = ap (λ j. slice_index_or (map f ss) j None) (omega arith)
past-guards f (g ∷ gs) ss k =
    let same : suc (length gs) + k ≡ suc (length gs + k) = omega arith in
    ap (λ j. slice_index_or (map f (guard_sources (g ∷ gs) ++ ss)) j None) same ∙ past-guards f gs ss k

map-pick-later : (n : ℕ) (f g : Source → Option ℕ) → ((s : Source) → f (shift n s) ≡ later n (g s)) → (ss : List Source) (k : ℕ)
    → slice_index_or (map f (map (shift n) ss)) k None ≡ later n (slice_index_or (map g ss) k None)
map-pick-later n f g h [] k = refl
map-pick-later n f g h (s ∷ ss) zero = h s
map-pick-later n f g h (s ∷ ss) (suc k) = map-pick-later n f g h ss k

at-later : (n : ℕ) (os : List (Option ℕ)) (p : ℕ) → slice_index_or (map (later n) os) p None ≡ later n (slice_index_or os p None)
at-later n [] p = refl
at-later n (o ∷ os) zero = refl
at-later n (o ∷ os) (suc p) = at-later n os p

-- wires of a level under guards: their sources stand before
abbrev pub under : List Guard → ℕ → Wire → Wire
under gs n w = record { ins = guard_sources gs ++ map (shift n) w.ins; leads = map (later (length gs)) w.leads }

module _ (gs : List Guard) (n : ℕ) where
  pick-later : (f g : Source → Option ℕ) → ((s : Source) → f (shift n s) ≡ later n (g s)) → (ss : List Source) (o : Option ℕ)
      → pick None (map f (guard_sources gs ++ map (shift n) ss)) (later (length gs) o) ≡ later n (pick None (map g ss) o)
  pick-later f g h ss None = refl
  pick-later f g h ss (Some k) = past-guards f gs (map (shift n) ss) k ∙ map-pick-later n f g h ss k

  source-later : (given given' : ℕ → ℕ → Option ℕ) → ((r p : ℕ) → given' r p ≡ later n (given r p)) → (s : Source) → lead_source given' (shift n s) ≡ later n (lead_source given s)
  source-later given given' h (Own k) = refl
  source-later given given' h (Of r p) = h r p

  hop-later : (vs : List Wire) (f g : Source → Option ℕ) → ((s : Source) → f (shift n s) ≡ later n (g s)) → (r p : ℕ)
      → with_wire (slice_get (map (under gs n) vs) r) None (λ w. pick None (map f w.ins) (slice_index_or w.leads p None))
      ≡ later n (with_wire (slice_get vs r) None (λ w. pick None (map g w.ins) (slice_index_or w.leads p None)))
  hop-later [] f g h r p = refl
  hop-later (w ∷ vs) f g h zero p =
      ap (pick None (map f (guard_sources gs ++ map (shift n) w.ins))) (at-later (length gs) w.leads p) ∙ pick-later f g h w.ins (slice_index_or w.leads p None)
  hop-later (w ∷ vs) f g h (suc r) p = hop-later vs f g h r p

  out-later : (ws : List Wire) (fuel r p : ℕ) → lead_out (map (under gs n) ws) fuel r p ≡ later n (lead_out ws fuel r p)
  out-later ws zero r p = refl
  out-later ws (suc fuel) r p =
      hop-later ws (lead_source (lead_out (map (under gs n) ws) fuel)) (lead_source (lead_out ws fuel)) (source-later (lead_out ws fuel) (lead_out (map (under gs n) ws) fuel) (out-later ws fuel)) r p

  same-length : (ws : List Wire) → length (map (under gs n) ws) ≡ length ws
  same-length [] = refl
  same-length (w ∷ ws) = ap suc (same-length ws)

  lead-later : (ws : List Wire) (s : Source) → lead (map (under gs n) ws) (shift n s) ≡ later n (lead ws s)
  lead-later ws s =
      ap (λ m. lead_source (lead_out (map (under gs n) ws) m) (shift n s)) (same-length ws)
      ∙ source-later (lead_out ws (length ws)) (lead_out (map (under gs n) ws) (length ws)) (out-later ws (length ws)) s

  pub leads-later : (ws : List Wire) (ss : List Source) → map (lead (map (under gs n) ws)) (map (shift n) ss) ≡ map (later n) (map (lead ws) ss)
  leads-later ws [] = refl
  leads-later ws (s ∷ ss) = ap₂ (λ o os. o ∷ os) (lead-later ws s) (leads-later ws ss)

abbrev Cases : Type 0
Cases = List Guard → ℕ → List ℤ → Vertices

wire-by : (gs : List Guard) (n : ℕ) (l : Label) (us : Vertices) (inner : List Guard → ℕ → Vertices) (cases : Cases) (k : Kind) → IsKindIdle k us → IsNoRepeat k
    → wires (inner (own_guards 0 gs) (length gs)) ≡ map (under (own_guards 0 gs) (length gs)) (wires us)
    → wire (guarded_by gs n l k us inner cases) ≡ under gs n (record { ins = l.ins; leads = leads_by k (wires us) })
wire-by gs n l us inner cases (graph outs) h none e =
    ap (λ os. record { ins = guard_sources gs ++ map (shift n) l.ins; leads = os })
    (ap (λ ws. map (lead ws) (map (shift (length gs)) outs)) e ∙ leads-later (own_guards 0 gs) (length gs) (wires us) outs)
wire-by gs n l us inner cases (switch values names) h none e = ap (λ xs. wire (guarded_by gs n l (switch values xs) us inner cases)) h
wire-by gs n l us inner cases (repeat m feeds gives) h none e = absurd none
wire-by gs n l us inner cases (sensor m) h none e = absurd h
wire-by gs n l us inner cases (actuator m) h none e = absurd h
wire-by gs n l us inner cases (constant v) h none e = absurd h
wire-by gs n l us inner cases (delay vs) h none e = absurd h
wire-by gs n l us inner cases (function es) h none e = absurd h
wire-by gs n l us inner cases explode h none e = absurd h
wire-by gs n l us inner cases implode h none e = absurd h
wire-by gs n l us inner cases (merge values) h none e = absurd h

mutual
  -- an input to which an output leads stands after the sources of the guards
  pub wire-guarded : (gs : List Guard) (n : ℕ) (u : Vertex) → IsIdle u → HasNoRepeat u → wire (guarded gs n u) ≡ under gs n (wire u)
  wire-guarded gs n (vertex l us) h none =
      wire-by gs n l us (λ inside m. guarded_all inside m us) (λ inside m values. guarded_cases inside m values 0 us) l.kind h.0.1 none.0 (wires-guarded (own_guards 0 gs) (length gs) us h.1 none.1)

  wires-guarded : (gs : List Guard) (n : ℕ) (us : Vertices) → AllIdle us → AllNoRepeat us → wires (guarded_all gs n us) ≡ map (under gs n) (wires us)
  wires-guarded gs n no_vertices h none = refl
  wires-guarded gs n (and_vertex u us) h none = ap₂ (λ w ws. w ∷ ws) (wire-guarded gs n u h.0 none.0) (wires-guarded gs n us h.1 none.1)

-- the inputs that a graph passes on, as its outputs under guards
shifted-own : (n : ℕ) (os : List (Option ℕ)) → AllSome os → map (shift n) (map own_of os) ≡ map own_of (map (later n) os)
shifted-own n [] h = refl
shifted-own n (None ∷ os) h = absurd h
shifted-own n (Some k ∷ os) h = ap (λ ss. Own (n + k) ∷ ss) (shifted-own n os h)

-- a graph that passes inputs on, under guards
passing-by : (gs : List Guard) (n : ℕ) (l : Label) (us : Vertices) (inner : List Guard → ℕ → Vertices) (cases : Cases) (k : Kind) → IsKindIdle k us → IsNoRepeat k → (os : List (Option ℕ)) → AllSome os
    → guarded gs n (passing l os) ≡ passing (label_of (guarded_by gs n l k us inner cases)) (map (later (length gs)) os)
passing-by gs n l us inner cases (graph outs) h none os some = ap (λ ss. graph_under gs n l ss no_vertices) (shifted-own (length gs) os some)
passing-by gs n l us inner cases (switch values names) h none os some = ap (λ ss. graph_under gs n l ss no_vertices) (shifted-own (length gs) os some)
passing-by gs n l us inner cases (repeat m feeds gives) h none os some = absurd none
passing-by gs n l us inner cases (sensor m) h none os some = absurd h
passing-by gs n l us inner cases (actuator m) h none os some = absurd h
passing-by gs n l us inner cases (constant v) h none os some = absurd h
passing-by gs n l us inner cases (delay vs) h none os some = absurd h
passing-by gs n l us inner cases (function es) h none os some = absurd h
passing-by gs n l us inner cases explode h none os some = absurd h
passing-by gs n l us inner cases implode h none os some = absurd h
passing-by gs n l us inner cases (merge values) h none os some = absurd h

prune-join : (us vs : Vertices) → prune_all (join us vs) ≡ join (prune_all us) (prune_all vs)
prune-join no_vertices vs = refl
prune-join (and_vertex u us) vs = ap (and_vertex (prune u)) (prune-join us vs)

prune-merges : (d : List ℕ) (gs : List Guard) (c : ℕ) (values : List ℤ) (m : ℕ) (outs : List ℕ) (o : ℕ) (names : List (List ℕ))
    → prune_all (merges d gs c values m outs o names) ≡ merges d gs c values m outs o names
prune-merges d gs c values m outs o [] = refl
prune-merges d gs c values m outs o (x ∷ names) =
    ap (and_vertex (merge_of d gs c values m o x (slice_index_or outs o 0))) (prune-merges d gs c values m outs (suc o) names)

pub count-pruned : (us : Vertices) → count_of (prune_all us) ≡ count_of us
count-pruned no_vertices = refl
count-pruned (and_vertex u us) = ap suc (count-pruned us)

module _ (gs : List Guard) (n : ℕ) (l : Label) (us : Vertices) (inner inner' : List Guard → ℕ → Vertices) (cases cases' : Cases)
    (same : inner' (own_guards 0 gs) (length gs) ≡ prune_all (inner (own_guards 0 gs) (length gs)))
    (each : (values : List ℤ) → cases' (own_guards 0 gs) (length gs) values ≡ prune_all (cases (own_guards 0 gs) (length gs) values)) where
  live-by : (k : Kind) → (operations (guarded_by gs n l k us inner cases) == 0) ≡ false → IsNoRepeat k → guarded_by gs n l k (prune_all us) inner' cases' ≡ prune (guarded_by gs n l k us inner cases)
  live-by (graph outs) e none = ap (graph_under gs n l (map (shift (length gs)) outs)) same ∙ sym (prune-live (guarded_by gs n l (graph outs) us inner cases) e)
  live-by (switch values names) e none =
      ap (λ m. graph_under gs n l (merge_sources m (length names)) (switch_inside gs l values names m (cases' (own_guards 0 gs) (length gs) values))) (count-pruned us)
      ∙ ap (graph_under gs n l (merge_sources (count_of us) (length names)))
      (ap₂ join (each values) (sym (prune-merges l.definition (own_guards 0 gs) (length gs) values (count_of us) l.outs 0 names)) ∙ sym (prune-join (cases (own_guards 0 gs) (length gs) values) _))
      ∙ sym (prune-live (guarded_by gs n l (switch values names) us inner cases) e)
  live-by (repeat m feeds gives) e none = absurd none
  live-by (sensor m) e none = refl
  live-by (actuator m) e none = refl
  live-by (constant v) e none = refl
  live-by (delay vs) e none = sym (prune-live (operation_under gs n l (delay vs)) e)
  live-by (function es) e none = refl
  live-by explode e none = refl
  live-by implode e none = refl
  live-by (merge values) e none = refl

guarded-either : (gs : List Guard) (n : ℕ) (l : Label) (us : Vertices) → (operations (vertex l us) ≡ 0 → IsIdle (vertex l us) × AllSome (wiring (vertex l us))) → HasNoRepeat (vertex l us)
    → guarded_all (own_guards 0 gs) (length gs) (prune_all us) ≡ prune_all (guarded_all (own_guards 0 gs) (length gs) us)
    → ((values : List ℤ) → guarded_cases (own_guards 0 gs) (length gs) values 0 (prune_all us) ≡ prune_all (guarded_cases (own_guards 0 gs) (length gs) values 0 us))
    → (b : Bool) → (operations (vertex l us) == 0) ≡ b → guarded gs n (cond b (passing l (wiring (vertex l us))) (vertex l (prune_all us))) ≡ prune (guarded gs n (vertex l us))
guarded-either gs n l us h none same each true e =
    let zero-ops = eqb-true (operations (vertex l us)) 0 e in
    let known = h zero-ops in
    passing-by gs n l us (λ inside m. guarded_all inside m us) (λ inside m values. guarded_cases inside m values 0 us) l.kind known.0.0.1 none.0 (wiring (vertex l us)) known.1
    ∙ ap (passing (label_of (guarded gs n (vertex l us)))) (sym (ap (λ w. w.leads) (wire-guarded gs n (vertex l us) known.0 none)))
    ∙ sym (prune-idle (guarded gs n (vertex l us)) (counted-guarded gs n (vertex l us) none ∙ zero-ops))
guarded-either gs n l us h none same each false e =
    live-by gs n l us (λ inside m. guarded_all inside m us) (λ inside m. guarded_all inside m (prune_all us))
    (λ inside m values. guarded_cases inside m values 0 us) (λ inside m values. guarded_cases inside m values 0 (prune_all us)) same each l.kind
    (ap (λ m. m == 0) (counted-guarded gs n (vertex l us) none) ∙ e) none.0

mutual
  pub guarded-prune : (gs : List Guard) (n : ℕ) (u : Vertex) → CanPrune u → HasNoRepeat u → guarded gs n (prune u) ≡ prune (guarded gs n u)
  guarded-prune gs n (vertex l us) h none =
      guarded-either gs n l us h.0 none (guarded_all-prune (own_guards 0 gs) (length gs) us h.1 none.1) (λ values. guarded_cases-prune (own_guards 0 gs) (length gs) values 0 us h.1 none.1)
      (operations (vertex l us) == 0) refl

  pub guarded_all-prune : (gs : List Guard) (n : ℕ) (us : Vertices) → AllCanPrune us → AllNoRepeat us → guarded_all gs n (prune_all us) ≡ prune_all (guarded_all gs n us)
  guarded_all-prune gs n no_vertices h none = refl
  guarded_all-prune gs n (and_vertex u us) h none = ap₂ and_vertex (guarded-prune gs n u h.0 none.0) (guarded_all-prune gs n us h.1 none.1)

  guarded_cases-prune : (gs : List Guard) (m : ℕ) (values : List ℤ) (i : ℕ) (us : Vertices) → AllCanPrune us → AllNoRepeat us
      → guarded_cases gs m values i (prune_all us) ≡ prune_all (guarded_cases gs m values i us)
  guarded_cases-prune gs m values i no_vertices h none = refl
  guarded_cases-prune gs m values i (and_vertex u us) h none =
      ap₂ and_vertex (guarded-prune (gs ++ guard_for m values i ∷ []) m u h.0 none.0) (guarded_cases-prune gs m values (suc i) us h.1 none.1)
