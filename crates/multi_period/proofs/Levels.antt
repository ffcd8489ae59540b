-- The main graph as it is in a reaction, and as it is made: the same nodes at the same places.
use Rattle.std.proofs.Common.{◌≡◌, ℕ, zero, suc, ◌<◌, List, [], ◌∷◌, length, Bool, false, Option, Some, None, slice_get, refl, sym, ap, ◌∙◌, subst}
use mathlib.Core.Path.{fun_ext}
use Rattle.algo_tree.specs.declared.Part.{Part}
use Rattle.algo_tree.specs.Level.{Node, same_part, with_node}
use Rattle.algo_tree.specs.Order.{is_ready, settled, IsAcyclic}
use Rattle.algo_tree.specs.Parts.{IsApart, HasDistinctParts}
use Rattle.algo_tree.specs.Tree.{Vertex, vertex, Vertices, no_vertices, and_vertex}
use Rattle.algo_tree.specs.Meaning.{node, nodes}
use Rattle.multi_period.specs.declared.mark.Mark.{Mark}
use Rattle.multi_period.specs.Meaning.{held_by, holding}
use Rattle.multi_period.specs.Periods.{period_by, all_periods}
use Rattle.syn_base.specs.Vectors.{Values}

abbrev pub vertex_at : Vertices → ℕ → Option Vertex
vertex_at no_vertices r = None
vertex_at (and_vertex u us) zero = Some u
vertex_at (and_vertex u us) (suc r) = vertex_at us r

pub node-at : (us : Vertices) (r : ℕ) (u : Vertex) → vertex_at us r ≡ Some u → slice_get (nodes us) r ≡ Some (node u)
node-at no_vertices r u e = cc
node-at (and_vertex v us) zero u e = let same : v ≡ u = cc in ap (λ x. Some (node x)) same
node-at (and_vertex v us) (suc r) u e = node-at us r u e

pub made-at : (mark : ℕ → Option Mark) (us : Vertices) (r : ℕ) (u : Vertex) → vertex_at us r ≡ Some u → slice_get (nodes (all_periods mark us)) r ≡ Some (node (period_by (mark r) u))
made-at mark no_vertices r u e = cc
made-at mark (and_vertex v us) zero u e = let same : v ≡ u = cc in ap (λ x. Some (node (period_by (mark 0) x))) same
made-at mark (and_vertex v us) (suc r) u e = made-at (λ r. mark (suc r)) us r u e

pub held-at : (hold : ℕ → Option Values) (cs : List Node) (r : ℕ) (c : Node) → slice_get cs r ≡ Some c → slice_get (holding hold cs) r ≡ Some (held_by (hold r) c)
held-at hold [] r c e = cc
held-at hold (d ∷ cs) zero c e = let same : d ≡ c = cc in ap (λ x. Some (held_by (hold 0) x)) same
held-at hold (d ∷ cs) (suc r) c e = held-at (λ r. hold (suc r)) cs r c e

-- what is the same of the nodes at each place is the same place by place
pub pairs : {A : Type 0} (mark : ℕ → Option Mark) (hold : ℕ → Option Values) (a : A) (F G : Node → A) (us : Vertices)
    → ((r : ℕ) (u : Vertex) → vertex_at us r ≡ Some u → F (node (period_by (mark r) u)) ≡ G (held_by (hold r) (node u)))
    → (r : ℕ) → with_node (slice_get (nodes (all_periods mark us)) r) a F ≡ with_node (slice_get (holding hold (nodes us)) r) a G
pairs mark hold a F G no_vertices same r = refl
pairs mark hold a F G (and_vertex u us) same zero = same 0 u refl
pairs mark hold a F G (and_vertex u us) same (suc r) = pairs (λ r. mark (suc r)) (λ r. hold (suc r)) a F G us (λ r u e. same (suc r) u e) r

pub long-made : (mark : ℕ → Option Mark) (us : Vertices) → length (nodes (all_periods mark us)) ≡ length (nodes us)
long-made mark no_vertices = refl
long-made mark (and_vertex u us) = ap suc (long-made (λ r. mark (suc r)) us)

pub long-held : (hold : ℕ → Option Values) (cs : List Node) → length (holding hold cs) ≡ length cs
long-held hold [] = refl
long-held hold (c ∷ cs) = ap suc (long-held (λ r. hold (suc r)) cs)

-- parts are the same
pub held-part : (o : Option Values) (c : Node) → (held_by o c).part ≡ c.part
held-part None c = refl
held-part (Some vs) c = refl

held-apart : (hold : ℕ → Option Values) (p : Part) (cs : List Node) → IsApart p cs → IsApart p (holding hold cs)
held-apart hold p [] h = tt
held-apart hold p (c ∷ cs) h = (ap (same_part p) (held-part (hold 0) c) ∙ h.0, held-apart (λ r. hold (suc r)) p cs h.1)

pub held-distinct : (hold : ℕ → Option Values) (cs : List Node) → HasDistinctParts cs → HasDistinctParts (holding hold cs)
held-distinct hold [] h = tt
held-distinct hold (c ∷ cs) h = (
  subst (λ p. IsApart p (holding (λ r. hold (suc r)) cs)) (sym (held-part (hold 0) c)) (held-apart (λ r. hold (suc r)) c.part cs h.0),
  held-distinct (λ r. hold (suc r)) cs h.1,
)

pub made-part : (o : Option Mark) (u : Vertex) → (node (period_by o u)).part ≡ (node u).part
made-part None u = refl
made-part (Some m) (vertex l us) = refl

made-apart : (mark : ℕ → Option Mark) (p : Part) (us : Vertices) → IsApart p (nodes us) → IsApart p (nodes (all_periods mark us))
made-apart mark p no_vertices h = tt
made-apart mark p (and_vertex u us) h = (ap (same_part p) (made-part (mark 0) u) ∙ h.0, made-apart (λ r. mark (suc r)) p us h.1)

pub made-distinct : (mark : ℕ → Option Mark) (us : Vertices) → HasDistinctParts (nodes us) → HasDistinctParts (nodes (all_periods mark us))
made-distinct mark no_vertices h = tt
made-distinct mark (and_vertex u us) h = (
  subst (λ p. IsApart p (nodes (all_periods (λ r. mark (suc r)) us))) (sym (made-part (mark 0) u)) (made-apart (λ r. mark (suc r)) (node u).part us h.0),
  made-distinct (λ r. mark (suc r)) us h.1,
)

-- no cycle
held-ready : (done : ℕ → Bool) (o : Option Values) (c : Node) → is_ready done (held_by o c) ≡ is_ready done c
held-ready done None c = refl
held-ready done (Some vs) c = refl

held-round : (done : ℕ → Bool) (hold : ℕ → Option Values) (cs : List Node) (r : ℕ) → with_node (slice_get (holding hold cs) r) false (is_ready done) ≡ with_node (slice_get cs r) false (is_ready done)
held-round done hold [] r = refl
held-round done hold (c ∷ cs) zero = held-ready done (hold 0) c
held-round done hold (c ∷ cs) (suc r) = held-round done (λ r. hold (suc r)) cs r

held-settled : (hold : ℕ → Option Values) (cs : List Node) (k : ℕ) → settled (holding hold cs) k ≡ settled cs k
held-settled hold cs zero = refl
held-settled hold cs (suc k) = fun_ext (λ r. held-round (settled (holding hold cs) k) hold cs r ∙ ap (λ done. with_node (slice_get cs r) false (is_ready done)) (held-settled hold cs k))

pub held-acyclic : (hold : ℕ → Option Values) (cs : List Node) → IsAcyclic cs → IsAcyclic (holding hold cs)
held-acyclic hold cs h r lt =
    ap (λ n. settled (holding hold cs) n r) (long-held hold cs) ∙ ap (λ f. f r) (held-settled hold cs (length cs)) ∙ h r (subst (λ n. r < n) (long-held hold cs) lt)
