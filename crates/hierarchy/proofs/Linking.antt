-- That the sources of several operations lead to operations, of some of these, and wherever they stand.
use Rattle.std.proofs.Common.{ℕ, zero, suc, ◌+◌, ◌<◌, List, [], ◌∷◌, ◌++◌, map, length, get_or, arith}
use Rattle.algo_tree.specs.declared.Source.{Source}
use Rattle.algo_tree.specs.declared.Guard.{Guard}
use Rattle.algo_tree.specs.Level.{Path}
use Rattle.algo_tree.specs.Tree.{Label, Kind, graph, delay, Vertex, vertex, Vertices, no_vertices, and_vertex}
use Rattle.algo_tree.specs.Counted.{operations as count}
use Rattle.flat_laws.specs.Flat.{Operation}
use Rattle.flat_laws.specs.Inlined.{wire, wirings, wire_guard, stages, inlined_by, inlined, inlined_all}
use Rattle.flat_laws.specs.Linked.{IsFound, AreFound, GuardsFound, AllLinked}
use Rattle.syn_base.specs.Vectors.{Vector}

-- the operations of several vertices
pub linked_left : (xs ys : List Operation) → AllLinked (xs ++ ys) → AllLinked xs
linked_left [] ys h = tt
linked_left (x ∷ xs) ys h = (h.0, linked_left xs ys h.1)

pub linked_right : (xs ys : List Operation) → AllLinked (xs ++ ys) → AllLinked ys
linked_right [] ys h = h
linked_right (x ∷ xs) ys h = linked_right xs ys h.1

linked_append : (xs ys : List Operation) → AllLinked xs → AllLinked ys → AllLinked (xs ++ ys)
linked_append [] ys h k = k
linked_append (x ∷ xs) ys h k = (h.0, linked_append xs ys h.1 k)

-- paths do not matter
anywhere_stages : (w : Source → Source) (b : ℕ) (path other : Path) (l : Label) (i : ℕ) (vs : List Vector) → AllLinked (stages w b path l i vs) → AllLinked (stages w b other l i vs)
anywhere_stages w b path other l i [] h = tt
anywhere_stages w b path other l i (v ∷ vs) h = (h.0, (h.1.0, anywhere_stages w (b + 2) path other l (suc i) vs h.1.1))

anywhere_by : (w : Source → Source) (b : ℕ) (at below : Path → Path) (l : Label) (k : Kind) (inner : List Source → ℕ → (Path → Path) → List Operation)
    → ((own : List Source) (c : ℕ) (x y : Path → Path) → AllLinked (inner own c x) → AllLinked (inner own c y)) → AllLinked (inlined_by w b at l k inner) → AllLinked (inlined_by w b below l k inner)
anywhere_by w b at below l (graph outs) inner deep h = deep (map w l.ins) b (λ q. at (l.part ∷ q)) (λ q. below (l.part ∷ q)) h
anywhere_by w b at below l (delay vs) inner deep h = anywhere_stages w b (at (l.part ∷ [])) (below (l.part ∷ [])) l 0 vs h
anywhere_by w b at below l _ inner deep h = h

mutual
  anywhere : (w : Source → Source) (b : ℕ) (at below : Path → Path) (u : Vertex) → AllLinked (inlined w b at u) → AllLinked (inlined w b below u)
  anywhere w b at below (vertex l us) h = anywhere_by w b at below l l.kind _ (λ own c x y. all_anywhere (wire (wirings c us) own) c x y us) h

  all_anywhere : (w : Source → Source) (b : ℕ) (at below : Path → Path) (us : Vertices) → AllLinked (inlined_all w b at us) → AllLinked (inlined_all w b below us)
  all_anywhere w b at below no_vertices h = tt
  all_anywhere w b at below (and_vertex u us) h =
      linked_append (inlined w b below u) (inlined_all w (b + count u) below us) (anywhere w b at below u (linked_left (inlined w b at u) (inlined_all w (b + count u) at us) h))
      (all_anywhere w (b + count u) at below us (linked_right (inlined w b at u) (inlined_all w (b + count u) at us) h))

pub linked_anywhere : (w : Source → Source) (b : ℕ) (us : Vertices) → AllLinked (inlined_all w b (λ q. q) us) → (at : Path → Path) → AllLinked (inlined_all w b at us)
linked_anywhere w b us h at = all_anywhere w b (λ q. q) at us h

-- one of several
pub found_at : (w : Source → Source) (ss : List Source) (i : ℕ) (s : Source) → AreFound (map w ss) → i < length ss → IsFound (w (get_or ss i s))
found_at w [] i s h lt = absurd (omega arith)
found_at w (x ∷ ss) zero s h lt = h.0
found_at w (x ∷ ss) (suc i) s h lt = found_at w ss i s h.1 (omega arith)

pub guard_found_at : (w : Source → Source) (gs : List Guard) (i : ℕ) (g : Guard) → GuardsFound (map (wire_guard w) gs) → i < length gs → IsFound (w (get_or gs i g).source)
guard_found_at w [] i g h lt = absurd (omega arith)
guard_found_at w (x ∷ gs) zero g h lt = h.0
guard_found_at w (x ∷ gs) (suc i) g h lt = guard_found_at w gs i g h.1 (omega arith)
