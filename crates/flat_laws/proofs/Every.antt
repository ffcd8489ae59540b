-- What holds of each vertex of a level, where that level is unrolled: it holds of all inside the graph, if it holds of explodes and implodes, and of a copy where it holds of what is copied.
use Rattle.std.proofs.Common.{ℕ, suc, ◌+◌, List, [], ◌∷◌, ◌++◌, map, replicate}
use Rattle.std.specs.Prelude.{slice_index_or}
use Rattle.algo_tree.specs.declared.Source.{Source}
use Rattle.algo_tree.specs.declared.Source.TheVariants.{Own, Of}
use Rattle.algo_tree.specs.declared.Feed.{Feed}
use Rattle.algo_tree.specs.declared.Feed.TheVariants.{Fork, Diffuse, Iterate}
use Rattle.algo_tree.specs.declared.Give.{Give}
use Rattle.algo_tree.specs.declared.Give.TheVariants.{Last, Join}
use Rattle.algo_tree.specs.Tree.{Label, explode, implode, Vertex, vertex, Vertices, no_vertices, and_vertex}
use Rattle.algo_tree.specs.View.{vertices_of}
use Rattle.flat_laws.specs.Lines.{in_line_order}
use Rattle.flat_laws.specs.Unrolled.{made, explode_of, explodes, copy, copies, implode_of, implodes, begin, unrolled_inside}
use Rattle.syn_base.specs.Numbers.{numbers_below}

module _ (One : Vertex → Type 0) (All : Vertices → Type 0) (none : All no_vertices)
    (more : (u : Vertex) (us : Vertices) → One u → All us → All (and_vertex u us))
    (parts : (u : Vertex) (us : Vertices) → All (and_vertex u us) → One u × All us)
    (explode_is : (d name : List ℕ) (ins : List Source) (outs : List ℕ) → One (made d name ins outs explode))
    (implode_is : (d name : List ℕ) (ins : List Source) (outs : List ℕ) → One (made d name ins outs implode))
    (copy_is : (c : ℕ) (feeds : List Feed) (lb : Label) (vs : Vertices) (i : ℕ) → One (vertex lb vs) → One (copy c feeds lb vs i)) where
  every-append : (xs ys : List Vertex) → All (vertices_of xs) → All (vertices_of ys) → All (vertices_of (xs ++ ys))
  every-append [] ys h k = k
  every-append (x ∷ xs) ys h k = let p = parts x (vertices_of xs) h in more x (vertices_of (xs ++ ys)) p.0 (every-append xs ys p.1 k)

  every-explodes : (d : List ℕ) (n : ℕ) (fs : List Feed) → All (vertices_of (explodes d n fs))
  every-explodes d n [] = none
  every-explodes d n (Fork name k len ∷ fs) = more (explode_of d n name k len) (vertices_of (explodes d n fs)) (explode_is d name (Own k ∷ []) (replicate n len)) (every-explodes d n fs)
  every-explodes d n (Diffuse k ∷ fs) = every-explodes d n fs
  every-explodes d n (Iterate k y ∷ fs) = every-explodes d n fs

  every-implodes : (d : List ℕ) (c n : ℕ) (os : List ℕ) (j : ℕ) (gs : List Give) → All (vertices_of (implodes d c n os j gs))
  every-implodes d c n os j [] = none
  every-implodes d c n os j (Join name y ∷ gs) =
      more (implode_of d c n name y (slice_index_or os j 0)) (vertices_of (implodes d c n os (suc j) gs)) (implode_is d name (map (λ i. Of (c + i) y) (numbers_below n)) (slice_index_or os j 0 ∷ []))
      (every-implodes d c n os (suc j) gs)
  every-implodes d c n os j (Last y ∷ gs) = every-implodes d c n os (suc j) gs

  every-copy : (c : ℕ) (feeds : List Feed) (lb : Label) (vs : Vertices) → One (vertex lb vs) → (is : List ℕ) → All (vertices_of (map (copy c feeds lb vs) is))
  every-copy c feeds lb vs h [] = none
  every-copy c feeds lb vs h (i ∷ is) = more (copy c feeds lb vs i) (vertices_of (map (copy c feeds lb vs) is)) (copy_is c feeds lb vs i h) (every-copy c feeds lb vs h is)

  every-copies : (c : ℕ) (feeds : List Feed) (n : ℕ) (us : Vertices) → All us → All (vertices_of (copies c feeds n us))
  every-copies c feeds n no_vertices h = none
  every-copies c feeds n (and_vertex (vertex lb vs) us) h = every-copy c feeds lb vs (parts (vertex lb vs) us h).0 (numbers_below n)

  pub every-repeat : (l : Label) (n : ℕ) (feeds : List Feed) (gives : List Give) (us : Vertices) → All us → All (vertices_of (unrolled_inside l.definition n feeds gives l.outs us))
  every-repeat l n feeds gives us h =
      let d = l.definition in
      let c = begin feeds in
      every-append (explodes d n (in_line_order feeds)) _ (every-explodes d n (in_line_order feeds))
      (every-append (copies c feeds n us) _ (every-copies c feeds n us h) (every-implodes d c n l.outs 0 gives))
