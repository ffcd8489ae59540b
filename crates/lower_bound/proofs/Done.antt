-- What is done after some rounds.
use Rattle.std.proofs.Common.{◌≡◌, ℕ, zero, suc, ◌<◌, Bool, true, false, List, [], ◌∷◌, map, length, refl, arith}
use Rattle.std.specs.Prelude.{slice_get}
use Rattle.std.specs.List.{list_all}
use Rattle.std.proofs.lemmas.Bool.{false≢true, and_parts}
use Rattle.self_timed.specs.declared.Vertex.{Vertex}
use Rattle.self_timed.specs.Graph.{with_vertex}
use Rattle.self_timed.specs.FlatOrder.{depends_on, is_acyclic, is_done}
use Rattle.lower_bound.proofs.Below.{all_in_range}
use Rattle.syn_base.specs.Numbers.{greatest}

-- of dates that are the same the greatest is the same
pub same_where : (f g : ℕ → ℕ) (test : ℕ → Bool) → ((v : ℕ) → test v ≡ true → f v ≡ g v) → (vs : List ℕ) → list_all test vs ≡ true → greatest (map f vs) ≡ greatest (map g vs)
same_where f g test same [] h = refl
same_where f g test same (v ∷ vs) h =
    let both = and_parts (test v) (list_all test vs) h in
    let e = same v both.0 in
    let r = same_where f g test same vs both.1 in
    omega arith

module _ (vertices : List Vertex) where
  pub done_within : (rounds v : ℕ) → is_done vertices rounds v ≡ true → v < length vertices
  done_within zero v h = absurd (false≢true h)
  done_within (suc rounds) v h = within vertices v h
    where
      within : (xs : List Vertex) (u : ℕ) → with_vertex (slice_get xs u) false (λ x. list_all (is_done vertices rounds) (depends_on x)) ≡ true → u < length xs
      within [] u e = absurd (false≢true e)
      within (y ∷ xs) zero e = omega arith
      within (y ∷ xs) (suc u) e = let z = within xs u e in omega arith

  pub all_done : is_acyclic vertices ≡ true → (v : ℕ) → v < length vertices → is_done vertices (length vertices) v ≡ true
  all_done acyclic v l = all_in_range (is_done vertices (length vertices)) 0 (length vertices) v acyclic (omega arith) (omega arith)
