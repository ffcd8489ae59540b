-- A number that is summed over the vertices of a level, where that level is unrolled: each explode and each implode counts as one, and each copy as what is copied.
use Rattle.std.proofs.Common.{◌≡◌, ℕ, zero, suc, ◌+◌, ◌*◌, List, [], ◌∷◌, ◌++◌, length, map, sym, ap, ◌∙◌, subst, arith, zero-mul, suc-mul, replicate}
use Rattle.std.specs.Prelude.{slice_index_or}
use Rattle.std.proofs.lemmas.List.{map-append}
use Rattle.algo_tree.specs.declared.Source.{Source}
use Rattle.algo_tree.specs.declared.Feed.{Feed}
use Rattle.algo_tree.specs.declared.Feed.TheVariants.{Fork, Diffuse, Iterate}
use Rattle.algo_tree.specs.declared.Give.{Give}
use Rattle.algo_tree.specs.declared.Give.TheVariants.{Last, Join}
use Rattle.algo_tree.specs.declared.Source.TheVariants.{Own, Of}
use Rattle.algo_tree.specs.Tree.{Label, explode, implode, Vertex, vertex, Vertices, no_vertices, and_vertex}
use Rattle.algo_tree.specs.View.{vertices_of}
use Rattle.algo_tree.specs.Well.{fork_names, join_names, IsOne}
use Rattle.flat_laws.specs.Lines.{in_line_order}
use Rattle.flat_laws.proofs.Lines.{many-lines}
use Rattle.flat_laws.specs.Unrolled.{made, explode_of, explodes, copy, implode_of, implodes, begin, unrolled_inside}
use Rattle.syn_base.specs.Numbers.{numbers_below}

module _ (one : Vertex → ℕ) (all : Vertices → ℕ) (none : all no_vertices ≡ 0) (more : (u : Vertex) (us : Vertices) → all (and_vertex u us) ≡ one u + all us)
    (explode_is : (d name : List ℕ) (ins : List Source) (outs : List ℕ) → one (made d name ins outs explode) ≡ 1)
    (implode_is : (d name : List ℕ) (ins : List Source) (outs : List ℕ) → one (made d name ins outs implode) ≡ 1)
    (copy_is : (c : ℕ) (feeds : List Feed) (lb : Label) (vs : Vertices) (i : ℕ) → one (copy c feeds lb vs i) ≡ one (vertex lb vs)) where
  summed-append : (xs ys : List Vertex) → all (vertices_of (xs ++ ys)) ≡ all (vertices_of xs) + all (vertices_of ys)
  summed-append [] ys = omega (arith, none)
  summed-append (x ∷ xs) ys = let rest = summed-append xs ys in omega (arith, rest, more x (vertices_of (xs ++ ys)), more x (vertices_of xs))

  next : (u : Vertex) (us : Vertices) → one u ≡ 1 → all (and_vertex u us) ≡ suc (all us)
  next u us own = omega (arith, own, more u us)

  summed-explodes : (d : List ℕ) (n : ℕ) (fs : List Feed) → all (vertices_of (explodes d n fs)) ≡ length (fork_names fs)
  summed-explodes d n [] = none
  summed-explodes d n (Fork name k len ∷ fs) = next (explode_of d n name k len) (vertices_of (explodes d n fs)) (explode_is d name (Own k ∷ []) (replicate n len)) ∙ ap suc (summed-explodes d n fs)
  summed-explodes d n (Diffuse k ∷ fs) = summed-explodes d n fs
  summed-explodes d n (Iterate k y ∷ fs) = summed-explodes d n fs

  summed-implodes : (d : List ℕ) (c n : ℕ) (os : List ℕ) (j : ℕ) (gs : List Give) → all (vertices_of (implodes d c n os j gs)) ≡ length (join_names gs)
  summed-implodes d c n os j [] = none
  summed-implodes d c n os j (Join name y ∷ gs) =
      next (implode_of d c n name y (slice_index_or os j 0)) (vertices_of (implodes d c n os (suc j) gs)) (implode_is d name (map (λ i. Of (c + i) y) (numbers_below n)) (slice_index_or os j 0 ∷ []))
      ∙ ap suc (summed-implodes d c n os (suc j) gs)
  summed-implodes d c n os j (Last y ∷ gs) = summed-implodes d c n os (suc j) gs

  summed-copies : (c : ℕ) (feeds : List Feed) (lb : Label) (vs : Vertices) (n : ℕ) → all (vertices_of (map (copy c feeds lb vs) (numbers_below n))) ≡ n * one (vertex lb vs)
  summed-copies c feeds lb vs zero = none ∙ sym (zero-mul (one (vertex lb vs)))
  summed-copies c feeds lb vs (suc n) =
      let rest = summed-copies c feeds lb vs n in
      ap (λ xs. all (vertices_of xs)) (map-append (copy c feeds lb vs) (numbers_below n) (n ∷ []))
      ∙ summed-append (map (copy c feeds lb vs) (numbers_below n)) (copy c feeds lb vs n ∷ [])
      ∙ omega (arith, rest, none, more (copy c feeds lb vs n) no_vertices, copy_is c feeds lb vs n, suc-mul n (one (vertex lb vs)))

  -- what stands inside the graph that a repetition becomes
  pub summed-repeat : (l : Label) (n : ℕ) (feeds : List Feed) (gives : List Give) (us : Vertices) → IsOne us
      → all (vertices_of (unrolled_inside l.definition n feeds gives l.outs us)) ≡ length (fork_names feeds) + n * all us + length (join_names gives)
  summed-repeat l n feeds gives no_vertices only = absurd only
  summed-repeat l n feeds gives (and_vertex u (and_vertex v us)) only = absurd only
  summed-repeat l n feeds gives (and_vertex (vertex lb vs) no_vertices) only =
      let d = l.definition in
      let c = begin feeds in
      let S = in_line_order feeds in
      let before : all (vertices_of (explodes d n S)) ≡ length (fork_names feeds) = summed-explodes d n S ∙ many-lines feeds in
      let each = summed-copies c feeds lb vs n in
      let after = summed-implodes d c n l.outs 0 gives in
      let whole = more (vertex lb vs) no_vertices in
      let alone : one (vertex lb vs) ≡ all (and_vertex (vertex lb vs) no_vertices) = omega (arith, none, whole) in
      summed-append (explodes d n S) _
      ∙ ap (λ m. all (vertices_of (explodes d n S)) + m) (summed-append (map (copy c feeds lb vs) (numbers_below n)) (implodes d c n l.outs 0 gives))
      ∙ subst (λ m. all (vertices_of (explodes d n S)) +
      (all (vertices_of (map (copy c feeds lb vs) (numbers_below n))) + all (vertices_of (implodes d c n l.outs 0 gives)))
      ≡ length (fork_names feeds) + n * m + length (join_names gives)) alone
      (omega (arith, before, each, after))
