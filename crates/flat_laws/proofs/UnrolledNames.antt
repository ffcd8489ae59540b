-- Unrolling makes vertices of names alone: where names stood, names stand.
use Rattle.std.proofs.Common.{◌≡◌, ℕ, suc, List, [], ◌∷◌, ◌++◌, map, sym, subst}
use Rattle.std.specs.Prelude.{IsTrue}
use Rattle.syn_base.specs.Name.{is_name}
use Rattle.algo_tree.specs.declared.Source.{Source}
use Rattle.algo_tree.specs.declared.Feed.{Feed}
use Rattle.algo_tree.specs.declared.Feed.TheVariants.{Fork, Diffuse, Iterate}
use Rattle.algo_tree.specs.declared.Give.{Give}
use Rattle.algo_tree.specs.declared.Give.TheVariants.{Last, Join}
use Rattle.algo_tree.specs.Tree.{Label, Kind, sensor, actuator, constant, delay, function, explode, implode, merge, graph, switch, repeat, Vertex, vertex, Vertices, no_vertices, and_vertex}
use Rattle.algo_tree.specs.Valid.{IsTree}
use Rattle.algo_tree.specs.View.{vertices_of}
use Rattle.algo_tree.specs.Well.{fork_names, join_names}
use Rattle.algo_tree.specs.Named.{is_word, AreNames, IsKindNamed, IsLabelNamed, IsNamed, AllNamed, HasNames}
use Rattle.flat_laws.specs.Lines.{in_line_order}
use Rattle.flat_laws.proofs.Lines.{names-lines}
use Rattle.algo_tree.specs.Relabelled.{with_kind}
use Rattle.flat_laws.specs.Unrolled.{made, explodes, copy, copies, implodes, begin, unrolled_at, unroll, unroll_all}
use Rattle.syn_base.specs.Numbers.{numbers_below}

named-append : (xs ys : List Vertex) → AllNamed (vertices_of xs) → AllNamed (vertices_of ys) → AllNamed (vertices_of (xs ++ ys))
named-append [] ys h g = g
named-append (x ∷ xs) ys h g = (h.0, named-append xs ys h.1 g)

named-made : (d x : List ℕ) (ins : List Source) (outs : List ℕ) (k : Kind) → IsKindNamed k → IsTrue (is_name d) → IsTrue (is_word x) → IsNamed (made d x ins outs k)
named-made d x ins outs k kind definition name = (record { part = name; definition = definition; kind = kind }, tt)

named-explodes : (d : List ℕ) (n : ℕ) (fs : List Feed) → IsTrue (is_name d) → AreNames (fork_names fs) → AllNamed (vertices_of (explodes d n fs))
named-explodes d n [] h names = tt
named-explodes d n (Fork name k len ∷ fs) h names = (named-made d name _ _ explode tt h names.0, named-explodes d n fs h names.1)
named-explodes d n (Diffuse k ∷ fs) h names = named-explodes d n fs h names
named-explodes d n (Iterate k y ∷ fs) h names = named-explodes d n fs h names

named-implodes : (d : List ℕ) (c n : ℕ) (os : List ℕ) (j : ℕ) (gs : List Give) → IsTrue (is_name d) → AreNames (join_names gs) → AllNamed (vertices_of (implodes d c n os j gs))
named-implodes d c n os j [] h names = tt
named-implodes d c n os j (Join name y ∷ gs) h names = (named-made d name _ _ implode tt h names.0, named-implodes d c n os (suc j) gs h names.1)
named-implodes d c n os j (Last y ∷ gs) h names = named-implodes d c n os (suc j) gs h names

named-copy : (c : ℕ) (feeds : List Feed) (lb : Label) (vs : Vertices) → IsNamed (vertex lb vs) → (is : List ℕ) → AllNamed (vertices_of (map (copy c feeds lb vs) is))
named-copy c feeds lb vs h [] = tt
named-copy c feeds lb vs h (i ∷ is) = ((record { part = tt; definition = h.0.definition; kind = h.0.kind }, h.1), named-copy c feeds lb vs h is)

named-copies : (c : ℕ) (feeds : List Feed) (n : ℕ) (us : Vertices) → AllNamed us → AllNamed (vertices_of (copies c feeds n us))
named-copies c feeds n no_vertices h = tt
named-copies c feeds n (and_vertex (vertex lb vs) us) h = named-copy c feeds lb vs h.0 (numbers_below n)

named-at : (l : Label) (k : Kind) (us : Vertices) → IsLabelNamed (with_kind l k) → AllNamed us → IsNamed (unrolled_at l k us)
named-at l (repeat n feeds gives) us h g =
    let d = l.definition in let c = begin feeds in (
      record { part = h.part; definition = h.definition; kind = tt },
      named-append (explodes d n (in_line_order feeds)) _ (named-explodes d n (in_line_order feeds) h.definition (names-lines feeds h.kind.0))
          (named-append (copies c feeds n us) _ (named-copies c feeds n us g) (named-implodes d c n l.outs 0 gives h.definition h.kind.1)),
    )
named-at l (sensor m) us h g = (h, g)
named-at l (actuator m) us h g = (h, g)
named-at l (constant v) us h g = (h, g)
named-at l (delay v) us h g = (h, g)
named-at l (function es) us h g = (h, g)
named-at l explode us h g = (h, g)
named-at l implode us h g = (h, g)
named-at l (merge values) us h g = (h, g)
named-at l (graph sources) us h g = (h, g)
named-at l (switch values names) us h g = (h, g)

mutual
  named-unroll : (u : Vertex) → IsNamed u → IsNamed (unroll u)
  named-unroll (vertex l us) h = named-at l l.kind (unroll_all us) h.0 (named-unroll_all us h.1)

  named-unroll_all : (us : Vertices) → AllNamed us → AllNamed (unroll_all us)
  named-unroll_all no_vertices h = tt
  named-unroll_all (and_vertex u us) h = (named-unroll u h.0, named-unroll_all us h.1)

-- a graph has the unrolled vertices inside
named-graph : (l : Label) (k : Kind) (us : Vertices) → k ≡ graph [] → AllNamed us → HasNames (unrolled_at l k us)
named-graph l k us e h = subst (λ x. HasNames (unrolled_at l x us)) (sym e) h

pub names-unroll : (main : Vertex) → IsTree main → HasNames main → HasNames (unroll main)
names-unroll (vertex l us) h names = named-graph l l.kind (unroll_all us) h.portless.kind (named-unroll_all us names)
