-- Operations as the nodes of a level: where each stands, and that the level has no cycle.
use Rattle.std.proofs.Common.{◌≡◌, ℕ, zero, suc, ◌+◌, ◌<◌, Bool, true, false, ◌&&◌, List, [], ◌∷◌, map, length, refl, sym, ap, subst, arith, add-zero, zero-add, ◌∙◌}
use Rattle.std.specs.Prelude.{slice_get, slice_index_or, Option, None, Some}
use Rattle.std.specs.List.{list_all, range_with_len}
use Rattle.std.proofs.lemmas.Bool.{and_parts, and_from, false≢true}
use Rattle.std.proofs.lemmas.List.FromFn.{get_or-range_with_len, length-range_with_len}
use Rattle.std.proofs.lemmas.List.Sums.{AllPass-from_list_all}
use Rattle.level_meaning.specs.Level.{with_node}
use Rattle.level_meaning.specs.Order.{sources_ready, guards_ready, is_ready, settled, IsAcyclic}
use Rattle.flat_graph.specs.declared.vertex.Source.{Source}
use Rattle.flat_graph.specs.declared.vertex.Guard.{Guard}
use Rattle.flat_graph.specs.declared.vertex.Vertex.{Vertex}
use Rattle.flat_graph.specs.Graph.{Graph, with_vertex}
use Rattle.flat_graph.specs.Order.{depends_on, get_half, is_done, is_acyclic}
use Rattle.flat_graph.specs.Meaning.{level_source, level_guard, node_of, cell_of, nodes_from, level}
use Rattle.flat_graph.proofs.Rounds.{ready_by_parts}
use Rattle.syn_base.specs.Vectors.{Values}

module _ (g : Graph) (cells : Values) where
  pub length-nodes_from : (v : ℕ) (xs : List Vertex) → length (nodes_from g cells v xs) ≡ length xs
  length-nodes_from v [] = refl
  length-nodes_from v (x ∷ xs) = ap suc (length-nodes_from (suc v) xs)

  node_from : (v i : ℕ) (xs : List Vertex) (x : Vertex) → slice_get xs i ≡ Some x → slice_get (nodes_from g cells v xs) i ≡ Some (node_of g.bodies (cell_of g cells (v + i)) x)
  node_from v i [] x e = absurd (cc)
  node_from v zero (y ∷ xs) x e = let same : y ≡ x = cc in rw add-zero (ap (λ z. Some (node_of g.bodies (cell_of g cells v) z)) same)
  node_from v (suc i) (y ∷ xs) x e =
      subst (λ (n : ℕ). slice_get (nodes_from g cells (suc v) xs) i ≡ Some (node_of g.bodies (cell_of g cells n) x)) (let n : suc v + i ≡ v + suc i = omega arith in n) (node_from (suc v) i xs x e)

  -- operation v is the node of that number
  pub node_at : (v : ℕ) (x : Vertex) → slice_get g.vertices v ≡ Some x → slice_get (level g cells) v ≡ Some (node_of g.bodies (cell_of g cells v) x)
  node_at v x e = subst (λ (n : ℕ). slice_get (level g cells) v ≡ Some (node_of g.bodies (cell_of g cells n) x)) (zero-add v) (node_from 0 v g.vertices x e)

  pub none_at : (v : ℕ) (w : ℕ) (xs : List Vertex) → slice_get xs v ≡ None → slice_get (nodes_from g cells w xs) v ≡ None
  none_at v w [] e = refl
  none_at zero w (x ∷ xs) e = absurd (cc)
  none_at (suc v) w (x ∷ xs) e = none_at v (suc w) xs e

  sources_are_ready : (f h : ℕ → Bool) → ((u : ℕ) → f u ≡ true → h u ≡ true) → (ss : List Source) → list_all (λ s. f s.vertex) ss ≡ true → sources_ready h (map level_source ss) ≡ true
  sources_are_ready f h imply [] e = refl
  sources_are_ready f h imply (s ∷ ss) e =
      let a = and_parts (f s.vertex) (list_all (λ (t : Source). f t.vertex) ss) e in
      and_from (h s.vertex) (sources_ready h (map level_source ss)) (imply s.vertex a.0) (sources_are_ready f h imply ss a.1)

  guards_are_ready : (f h : ℕ → Bool) → ((u : ℕ) → f u ≡ true → h u ≡ true) → (gs : List Guard) → list_all (λ d. f d.source.vertex) gs ≡ true → guards_ready h (map level_guard gs) ≡ true
  guards_are_ready f h imply [] e = refl
  guards_are_ready f h imply (d ∷ gs) e =
      let a = and_parts (f d.source.vertex) (list_all (λ (c : Guard). f c.source.vertex) gs) e in
      and_from (h d.source.vertex) (guards_ready h (map level_guard gs)) (imply d.source.vertex a.0) (guards_are_ready f h imply gs a.1)

  -- an operation that is done is settled as a node
  done_settles : (rounds v : ℕ) → is_done g.vertices rounds v ≡ true → settled (level g cells) rounds v ≡ true
  done_settles zero v e = absurd (false≢true e)
  done_settles (suc rounds) v e = by (slice_get g.vertices v) refl (λ u. done_settles rounds u) e
    where
      by : (o : Option Vertex) → slice_get g.vertices v ≡ o
          → ((u : ℕ) → is_done g.vertices rounds u ≡ true → settled (level g cells) rounds u ≡ true)
          → with_vertex o false (λ x. list_all (is_done g.vertices rounds) (depends_on x)) ≡ true
          → with_node (slice_get (level g cells) v) false (is_ready (settled (level g cells) rounds)) ≡ true
      by None is before h = absurd (false≢true h)
      by (Some x) is before h =
          let parts = sym (ready_by_parts (is_done g.vertices rounds) x) ∙ h in
          let guards = list_all (λ (d : Guard). is_done g.vertices rounds d.source.vertex) x.guards in
          let sources = list_all (λ (s : Source). is_done g.vertices rounds s.vertex) x.ins in
          let read = (and_parts (guards && sources) (list_all (is_done g.vertices rounds) (get_half x.kind x.twin)) parts).0 in
          let both = and_parts guards sources read in
          rw (node_at v x is) (and_from (guards_ready (settled (level g cells) rounds) (map level_guard x.guards)) (sources_ready (settled (level g cells) rounds) (map level_source x.ins))
          (guards_are_ready (is_done g.vertices rounds) (settled (level g cells) rounds) before x.guards both.0)
          (sources_are_ready (is_done g.vertices rounds) (settled (level g cells) rounds) before x.ins both.1))

  pub has_no_cycle : is_acyclic g.vertices ≡ true → IsAcyclic (level g cells)
  has_no_cycle h r l =
      let long = length-nodes_from 0 g.vertices in
      let n = length g.vertices in
      let lt : r < n = omega (arith, long) in
      let in_range : r < length (range_with_len 0 n) = omega (arith, length-range_with_len 0 n) in
      let place : slice_index_or (range_with_len 0 n) r 0 ≡ r = get_or-range_with_len 0 n r 0 lt ∙ zero-add r in
      let done : is_done g.vertices n r ≡ true = subst (λ (k : ℕ). is_done g.vertices n k ≡ true) place (AllPass-from_list_all (is_done g.vertices n) (range_with_len 0 n) h r 0 in_range) in
      subst (λ (k : ℕ). settled (level g cells) k r ≡ true) (sym long) (done_settles n r done)
