-- An unrolled tree is well again.
use Rattle.std.proofs.Common.{◌≡◌, ℕ, zero, suc, ◌<◌, ◌≤◌, ◌==◌, inl, inr, List, [], ◌∷◌, ◌++◌, length, map, false, refl, sym, ap, ◌∙◌, subst, arith}
use Rattle.std.proofs.lemmas.List.{map-append}
use Rattle.std.proofs.lemmas.Bool.Decides.{eqb_tells}
use Rattle.algo_tree.specs.declared.Guard.{Guard}
use Rattle.algo_tree.specs.declared.Part.TheVariants.{Numbered, Port}
use Rattle.algo_tree.specs.declared.Feed.{Feed}
use Rattle.algo_tree.specs.declared.Feed.TheVariants.{Fork, Diffuse, Iterate}
use Rattle.algo_tree.specs.declared.Give.{Give}
use Rattle.algo_tree.specs.declared.Give.TheVariants.{Last, Join}
use Rattle.algo_tree.specs.Level.{Node}
use Rattle.algo_tree.specs.Order.{IsAcyclic}
use Rattle.algo_tree.specs.Parts.{IsApart, HasDistinctParts}
use Rattle.algo_tree.specs.Tree.{Label, Kind, sensor, actuator, constant, delay, function, explode, implode, merge, graph, switch, repeat, Vertex, vertex, Vertices, no_vertices, and_vertex}
use Rattle.algo_tree.specs.Meaning.{node, nodes}
use Rattle.algo_tree.specs.View.{vertices_of}
use Rattle.algo_tree.specs.Well.{IsNewName, AreDistinctNames, fork_names, join_names, AreNumbered, IsEmpty, IsOne, AreOwn, OwnGuards, AreCases, IsKindWell, IsWell, AllWell}
use Rattle.algo_tree.proofs.Appends.{well-append}
use Rattle.flat_laws.specs.Lines.{in_line_order}
use Rattle.flat_laws.proofs.Lines.{new-left, new-right, names-right, distinct-lines}
use Rattle.flat_laws.specs.Unrolled.{explodes, copy, implodes, begin, unrolled_at, unroll, unroll_all}
use Rattle.flat_laws.proofs.Unrolled.{level, level_acyclic, kid}
use Rattle.flat_laws.proofs.Unroll.{nodes-unroll, nodes-unrolled, one-unrolled}
use Rattle.algo_tree.proofs.Parts.{AllApart, apart-append, distinct-append}
use Rattle.syn_base.specs.Numbers.{numbers_below}

names-left : (xs ys : List (List ℕ)) → AreDistinctNames (xs ++ ys) → AreDistinctNames xs
names-left [] ys h = tt
names-left (x ∷ xs) ys h = (new-left x xs ys h.0, names-left xs ys h.1)

module _ (d : List ℕ) (n : ℕ) (feeds : List Feed) (gives : List Give) (outs : List ℕ) (lb : Label) (vs : Vertices) where
  abbrev c : ℕ
  c = begin feeds

  abbrev kids : List ℕ → List Node
  kids is = map (kid d n feeds gives outs lb vs) is

  Port-explodes : (x : List ℕ) (fs : List Feed) → IsNewName x (fork_names fs) → IsApart (Port x) (map node (explodes d n fs))
  Port-explodes x [] h = tt
  Port-explodes x (Fork name k len ∷ fs) h = (h.0, Port-explodes x fs h.1)
  Port-explodes x (Diffuse k ∷ fs) h = Port-explodes x fs h
  Port-explodes x (Iterate k y ∷ fs) h = Port-explodes x fs h

  distinct-explodes : (fs : List Feed) → AreDistinctNames (fork_names fs) → HasDistinctParts (map node (explodes d n fs))
  distinct-explodes [] h = tt
  distinct-explodes (Fork name k len ∷ fs) h = (Port-explodes name fs h.0, distinct-explodes fs h.1)
  distinct-explodes (Diffuse k ∷ fs) h = distinct-explodes fs h
  distinct-explodes (Iterate k y ∷ fs) h = distinct-explodes fs h

  Port-implodes : (x : List ℕ) (gs : List Give) (j : ℕ) → IsNewName x (join_names gs) → IsApart (Port x) (map node (implodes d c n outs j gs))
  Port-implodes x [] j h = tt
  Port-implodes x (Join name y ∷ gs) j h = (h.0, Port-implodes x gs (suc j) h.1)
  Port-implodes x (Last y ∷ gs) j h = Port-implodes x gs (suc j) h

  distinct-implodes : (gs : List Give) (j : ℕ) → AreDistinctNames (join_names gs) → HasDistinctParts (map node (implodes d c n outs j gs))
  distinct-implodes [] j h = tt
  distinct-implodes (Join name y ∷ gs) j h = (Port-implodes name gs (suc j) h.0, distinct-implodes gs (suc j) h.1)
  distinct-implodes (Last y ∷ gs) j h = distinct-implodes gs (suc j) h

  number-implodes : (i : ℕ) (gs : List Give) (j : ℕ) → IsApart (Numbered i) (map node (implodes d c n outs j gs))
  number-implodes i [] j = tt
  number-implodes i (Join name y ∷ gs) j = (refl, number-implodes i gs (suc j))
  number-implodes i (Last y ∷ gs) j = number-implodes i gs (suc j)

  Port-kids : (x : List ℕ) (is : List ℕ) → IsApart (Port x) (kids is)
  Port-kids x [] = tt
  Port-kids x (i ∷ is) = (refl, Port-kids x is)

  kids-implodes : (is : List ℕ) (gs : List Give) (j : ℕ) → AllApart (kids is) (map node (implodes d c n outs j gs))
  kids-implodes [] gs j = tt
  kids-implodes (i ∷ is) gs j = (number-implodes i gs j, kids-implodes is gs j)

  explodes-rest : (fs : List Feed) (is : List ℕ) (gs : List Give) (j : ℕ) → AreDistinctNames (fork_names fs ++ join_names gs)
      → AllApart (map node (explodes d n fs)) (kids is ++ map node (implodes d c n outs j gs))
  explodes-rest [] is gs j h = tt
  explodes-rest (Fork name k len ∷ fs) is gs j h =
      (apart-append (Port name) (kids is) _ (Port-kids name is) (Port-implodes name gs j (new-right name (fork_names fs) (join_names gs) h.0)), explodes-rest fs is gs j h.1)
  explodes-rest (Diffuse k ∷ fs) is gs j h = explodes-rest fs is gs j h
  explodes-rest (Iterate k y ∷ fs) is gs j h = explodes-rest fs is gs j h

  unequal : (m k : ℕ) → m < k → (m == k) ≡ false
  unequal m k lt = elim (eqb_tells m k) [ inl same ↦ absurd (let e = same.1 in omega (arith, e, lt)) | inr other ↦ other.0 ]

  below-Last : (m k : ℕ) → k ≤ m → AllApart (kids (numbers_below k)) (kids (m ∷ []))
  below-Last m zero le = tt
  below-Last m (suc k) le = subst (λ xs. AllApart xs (kids (m ∷ [])))
      (sym (map-append (kid d n feeds gives outs lb vs) (numbers_below k) (k ∷ []))) (all-append (kids (numbers_below k)) (below-Last m k (omega arith)))
    where
      all-append : (xs : List Node) → AllApart xs (kids (m ∷ [])) → AllApart (xs ++ kids (k ∷ [])) (kids (m ∷ []))
      all-append [] h = ((unequal k m (omega arith), tt), tt)
      all-append (x ∷ xs) h = (h.0, all-append xs h.1)

  distinct-kids : (k : ℕ) → HasDistinctParts (kids (numbers_below k))
  distinct-kids zero = tt
  distinct-kids (suc k) = subst HasDistinctParts (sym (map-append (kid d n feeds gives outs lb vs) (numbers_below k) (k ∷ [])))
      (distinct-append (kids (numbers_below k)) (kids (k ∷ [])) (distinct-kids k) (tt, tt) (below-Last k k (omega arith)))

  pub distinct-level : AreDistinctNames (fork_names feeds ++ join_names gives) → HasDistinctParts (level d n feeds gives outs lb vs)
  distinct-level given =
      let S = in_line_order feeds in
      let h = distinct-lines feeds (join_names gives) given in
      distinct-append (map node (explodes d n S)) _ (distinct-explodes S (names-left (fork_names S) (join_names gives) h))
      (distinct-append (kids (numbers_below n)) _ (distinct-kids n) (distinct-implodes gives 0 (names-right (fork_names S) (join_names gives) h)) (kids-implodes (numbers_below n) gives 0))
      (explodes-rest S (numbers_below n) gives 0 h)

well-explodes : (d : List ℕ) (n : ℕ) (fs : List Feed) → AllWell (vertices_of (explodes d n fs))
well-explodes d n [] = tt
well-explodes d n (Fork name k len ∷ fs) = ((tt, tt), well-explodes d n fs)
well-explodes d n (Diffuse k ∷ fs) = well-explodes d n fs
well-explodes d n (Iterate k y ∷ fs) = well-explodes d n fs

well-implodes : (d : List ℕ) (c n : ℕ) (os : List ℕ) (j : ℕ) (gs : List Give) → AllWell (vertices_of (implodes d c n os j gs))
well-implodes d c n os j [] = tt
well-implodes d c n os j (Join name y ∷ gs) = ((tt, tt), well-implodes d c n os (suc j) gs)
well-implodes d c n os j (Last y ∷ gs) = well-implodes d c n os (suc j) gs

no_guards : (k : Kind) (gs : List Guard) (us : Vertices) → IsKindWell k gs us → IsKindWell k [] us
no_guards (repeat n feeds gives) gs us h = (refl, h.1)
no_guards (sensor m) gs us h = h
no_guards (actuator m) gs us h = h
no_guards (constant v) gs us h = h
no_guards (delay v) gs us h = h
no_guards (function es) gs us h = h
no_guards explode gs us h = h
no_guards implode gs us h = h
no_guards (merge values) gs us h = h
no_guards (graph sources) gs us h = (refl, h.1)
no_guards (switch values names) gs us h = ((refl, h.0.1), h.1)

well-copies : (c : ℕ) (feeds : List Feed) (lb : Label) (vs : Vertices) → IsWell (vertex lb vs) → (is : List ℕ) → AllWell (vertices_of (map (copy c feeds lb vs) is))
well-copies c feeds lb vs h [] = tt
well-copies c feeds lb vs h (i ∷ is) = ((no_guards lb.kind lb.guards vs h.0, h.1), well-copies c feeds lb vs h is)

well-repeat : (l : Label) (n : ℕ) (feeds : List Feed) (gives : List Give) (us : Vertices) → IsKindWell (repeat n feeds gives) l.guards us
    → AllWell us → IsWell (unrolled_at l (repeat n feeds gives) us)
well-repeat l n feeds gives no_vertices h all = absurd h.1.0.1
well-repeat l n feeds gives (and_vertex u (and_vertex v us)) h all = absurd h.1.0.1
well-repeat l n feeds gives (and_vertex (vertex lb vs) no_vertices) h all =
    let d = l.definition in
    let c = begin feeds in
    let e = sym (nodes-unrolled d n feeds gives l.outs lb vs) in (
      (h.0, (subst IsAcyclic e (level_acyclic d n feeds gives l.outs lb vs), subst HasDistinctParts e (distinct-level d n feeds gives l.outs lb vs h.1.1))),
      well-append (explodes d n (in_line_order feeds)) _ (well-explodes d n (in_line_order feeds))
          (well-append (map (copy c feeds lb vs) (numbers_below n)) _ (well-copies c feeds lb vs all.0 (numbers_below n)) (well-implodes d c n l.outs 0 gives)),
    )

abbrev IsCase : Vertex → Type 0
IsCase (vertex l us) = AreOwn l.ins × OwnGuards l.guards

case-at : (l : Label) (k : Kind) (us : Vertices) → IsCase (vertex l us) → IsCase (unrolled_at l k us)
case-at l (repeat n feeds gives) us h = h
case-at l (sensor m) us h = h
case-at l (actuator m) us h = h
case-at l (constant v) us h = h
case-at l (delay v) us h = h
case-at l (function es) us h = h
case-at l explode us h = h
case-at l implode us h = h
case-at l (merge values) us h = h
case-at l (graph sources) us h = h
case-at l (switch values names) us h = h

case-first : (u : Vertex) (us : Vertices) → IsCase u → AreCases us → AreCases (and_vertex u us)
case-first (vertex l vs) us h k = (h, k)

cases-unrolled : (us : Vertices) → AreCases us → AreCases (unroll_all us)
cases-unrolled no_vertices h = tt
cases-unrolled (and_vertex (vertex l vs) us) h = case-first (unrolled_at l l.kind (unroll_all vs)) (unroll_all us) (case-at l l.kind (unroll_all vs) h.0) (cases-unrolled us h.1)

empty-unrolled : (us : Vertices) → IsEmpty us → IsEmpty (unroll_all us)
empty-unrolled no_vertices h = tt
empty-unrolled (and_vertex u us) h = absurd h

well-at : (l : Label) (k : Kind) (us vs : Vertices) → nodes vs ≡ nodes us → (AreCases us → AreCases vs) → (IsOne us → IsOne vs)
    → (IsEmpty us → IsEmpty vs) → IsKindWell k l.guards us → AllWell vs → IsWell (unrolled_at l k vs)
well-at l (repeat n feeds gives) us vs e cases one empty h all = well-repeat l n feeds gives vs (h.0, ((h.1.0.0, one h.1.0.1), h.1.1)) all
well-at l (graph sources) us vs e cases one empty h all = ((h.0, subst (λ cs. IsAcyclic cs × HasDistinctParts cs) (sym e) h.1), all)
well-at l (switch values names) us vs e cases one empty h all =
    (((h.0.0, (ap length e ∙ h.0.1.0, (subst HasDistinctParts (sym e) h.0.1.1.0, cases h.0.1.1.1))), (subst AreNumbered (sym e) h.1.0, h.1.1)), all)
well-at l (sensor m) us vs e cases one empty h all = (empty h, all)
well-at l (actuator m) us vs e cases one empty h all = (empty h, all)
well-at l (constant v) us vs e cases one empty h all = (empty h, all)
well-at l (delay v) us vs e cases one empty h all = (empty h, all)
well-at l (function es) us vs e cases one empty h all = (empty h, all)
well-at l explode us vs e cases one empty h all = (empty h, all)
well-at l implode us vs e cases one empty h all = (empty h, all)
well-at l (merge values) us vs e cases one empty h all = (empty h, all)

mutual
  pub well-unroll : (u : Vertex) → IsWell u → IsWell (unroll u)
  well-unroll (vertex l us) h = well-at l l.kind us (unroll_all us) (nodes-unroll us h.1) (cases-unrolled us) (one-unrolled us) (empty-unrolled us) h.0 (well-unroll_all us h.1)

  well-unroll_all : (us : Vertices) → AllWell us → AllWell (unroll_all us)
  well-unroll_all no_vertices h = tt
  well-unroll_all (and_vertex u us) h = (well-unroll u h.0, well-unroll_all us h.1)
