-- What pruning needs of a valid tree: each unit without operations is wiring whose outputs lead somewhere.
use Rattle.std.proofs.Common.{◌≡◌, ℕ, ◌+◌, ◌==◌, List, [], ◌∷◌, length, map, Bool, true, false, cond, Option, Some, None, refl, sym, ap, ap₂}
use Rattle.std.proofs.lemmas.Bool.{eqb-true}
use Rattle.algo_tree.specs.Tree.{Label, Kind, sensor, actuator, constant, delay, function, explode, implode, merge, graph, switch, repeat, Vertex, vertex, Vertices, no_vertices, and_vertex}
use Rattle.algo_tree.specs.Counted.{operations, operations_in, operations_by}
use Rattle.algo_tree.specs.Meaning.{vertices_in}
use Rattle.algo_tree.specs.Typed.{label_of, outs_of, source_length, fed_length, IsKindTyped, IsTyped, AllTyped, IsBodyTyped}
use Rattle.algo_tree.specs.Well.{IsOne, IsEmpty, IsKindWell, IsWell, AllWell}
use Rattle.wiring_laws.specs.Wiring.{wiring}
use Rattle.wiring_laws.specs.Pruned.{passing, prune, prune_all, pruned}
use Rattle.wiring_laws.specs.Laws.{AllLead}
use Rattle.wiring_laws.proofs.Idle.{IsIdle, idle}
use Rattle.wiring_laws.proofs.Fits.{inputs-fit}

-- each of these leads somewhere
abbrev pub AllSome : List (Option ℕ) → Type 0
AllSome [] = Unit {0}
AllSome (None ∷ os) = ⊥
AllSome (Some k ∷ os) = AllSome os

pub all-some : (n : ℕ) (os : List (Option ℕ)) → AllLead n os → AllSome os
all-some n [] h = tt
all-some n (None ∷ os) h = h
all-some n (Some k ∷ os) h = all-some n os h.1

abbrev mutual
  pub CanPrune : Vertex → Type 0
  CanPrune (vertex l us) = (operations (vertex l us) ≡ 0 → IsIdle (vertex l us) × AllSome (wiring (vertex l us))) × AllCanPrune us

  pub AllCanPrune : Vertices → Type 0
  AllCanPrune no_vertices = Unit {0}
  AllCanPrune (and_vertex u us) = CanPrune u × AllCanPrune us

none-prunable : (us : Vertices) → IsEmpty us → AllCanPrune us
none-prunable no_vertices h = tt
none-prunable (and_vertex u us) h = absurd h

module _ (lens : List ℕ) (l : Label) (us : Vertices) (level : (own : List ℕ) → AllTyped own (outs_of us) us → AllCanPrune us)
    (cases : (own : List ℕ) → AllTyped own [] us → AllCanPrune us) (body : (fed : List ℕ) → IsBodyTyped fed us → IsOne us → AllCanPrune us) where
  inside-prunable : (k : Kind) → IsKindWell k l.guards us → IsKindTyped k lens l.outs (outs_of us) (λ own outs. AllTyped own outs us) (λ fed. IsBodyTyped fed us) → AllCanPrune us
  inside-prunable (graph outs) w t = level lens t.0
  inside-prunable (switch values names) w t = cases lens t.0.1
  inside-prunable (repeat n feeds gives) w t = body (map (fed_length lens) feeds) t.0.1 w.1.0.1
  inside-prunable (sensor n) w t = none-prunable us w
  inside-prunable (actuator n) w t = none-prunable us w
  inside-prunable (constant v) w t = none-prunable us w
  inside-prunable (delay vs) w t = none-prunable us w
  inside-prunable (function es) w t = none-prunable us w
  inside-prunable explode w t = none-prunable us w
  inside-prunable implode w t = none-prunable us w
  inside-prunable (merge values) w t = none-prunable us w

mutual
  pub can_prune : (lens : List ℕ) (u : Vertex) → IsWell u → IsTyped lens u → CanPrune u
  can_prune lens (vertex l us) w t = (
    λ none. let i = idle lens (vertex l us) w t none in (i, all-some (length lens) (wiring (vertex l us)) (inputs-fit lens (vertex l us) i t)),
    inside-prunable lens l us (λ own deep. can_prune_all own (outs_of us) us w.1 deep) (λ own deep. can_prune_all own [] us w.1 deep)
        (λ fed deep one. can_prune_body fed us w.1 deep one) l.kind w.0 t.1,
  )

  can_prune_all : (own : List ℕ) (outs : List (List ℕ)) (us : Vertices) → AllWell us → AllTyped own outs us → AllCanPrune us
  can_prune_all own outs no_vertices w t = tt
  can_prune_all own outs (and_vertex u us) w t = (can_prune (map (source_length own outs) (label_of u).ins) u w.0 t.0.1, can_prune_all own outs us w.1 t.1)

  can_prune_body : (fed : List ℕ) (us : Vertices) → AllWell us → IsBodyTyped fed us → IsOne us → AllCanPrune us
  can_prune_body fed no_vertices w t one = tt
  can_prune_body fed (and_vertex u no_vertices) w t one = (can_prune fed u w.0 t, tt)
  can_prune_body fed (and_vertex u (and_vertex v us)) w t one = absurd one

-- what is pruned stands for as many operations
counted-either : (l : Label) (us : Vertices) → operations_in (prune_all us) ≡ operations_in us → (b : Bool) → (operations (vertex l us) == 0) ≡ b
    → operations (cond b (passing l (wiring (vertex l us))) (vertex l (prune_all us))) ≡ operations (vertex l us)
counted-either l us inner true e = sym (eqb-true (operations (vertex l us)) 0 e)
counted-either l us inner false e = ap (operations_by l.kind) inner

mutual
  pub counted-prune : (u : Vertex) → operations (prune u) ≡ operations u
  counted-prune (vertex l us) = counted-either l us (counted-prune_all us) (operations (vertex l us) == 0) refl

  pub counted-prune_all : (us : Vertices) → operations_in (prune_all us) ≡ operations_in us
  counted-prune_all no_vertices = refl
  counted-prune_all (and_vertex u us) = ap₂ (λ m n. m + n) (counted-prune u) (counted-prune_all us)

-- a unit without operations is passed on, and of any other only the inside is pruned
pub prune-idle : (u : Vertex) → operations u ≡ 0 → prune u ≡ passing (label_of u) (wiring u)
prune-idle (vertex l us) e = ap (λ n. cond (n == 0) (passing l (wiring (vertex l us))) (vertex l (prune_all us))) e

pub prune-live : (u : Vertex) → (operations u == 0) ≡ false → prune u ≡ vertex (label_of u) (prune_all (vertices_in u))
prune-live (vertex l us) e = ap (λ b. cond b (passing l (wiring (vertex l us))) (vertex l (prune_all us))) e

-- so does a main graph of which the units inside are pruned
pub counted-pruned : (main : Vertex) → operations (pruned main) ≡ operations main
counted-pruned (vertex l us) = ap (operations_by l.kind) (counted-prune_all us)
