-- Each delay of a tree keeps as many values as it looks back.
use Rattle.std.proofs.Common.{◌≡◌, ◌+◌, ◌≤◌, List, [], ◌∷◌, ◌++◌, length, map, drop, Bool, true, false, cond, Some, refl, sym, ap, ◌∙◌, subst, arith, length-append}
use mathlib.Core.Path.{fun_ext}
use Rattle.algo_tree.specs.declared.Source.{Source}
use Rattle.algo_tree.specs.Level.{State, Node, below, with_node, find_node, all_hold, node_next, level_value, graph_next, graph_initial, delay_next}
use Rattle.algo_tree.specs.Parts.{IsApart, HasDistinctParts}
use Rattle.algo_tree.specs.Tree.{Label, Kind, sensor, actuator, constant, delay, function, explode, implode, merge, graph, switch, repeat, Vertex, vertex, Vertices, no_vertices, and_vertex}
use Rattle.algo_tree.specs.Meaning.{node, nodes, kind_next, kind_initial}
use Rattle.algo_tree.proofs.SameParts.{same_itself}
use Rattle.flat_laws.proofs.Inlinable.{IsKindInlinable, CanInline, AllCanInline}
use Rattle.syn_base.specs.Vectors.{Vector, Values}

-- what is kept below a vertex
abbrev pub IsKindLong : Kind → State → Type 0 → Type 0
IsKindLong (delay vs) st deep = length (st []) ≡ length vs
IsKindLong (graph outs) st deep = deep
IsKindLong _ st deep = Unit {0}

abbrev mutual
  pub IsLong : Vertex → State → Type 0
  IsLong (vertex l us) st = IsKindLong l.kind st (AllLong us st)

  pub AllLong : Vertices → State → Type 0
  AllLong no_vertices st = Unit {0}
  AllLong (and_vertex u us) st = IsLong u (below (node u).part st) × AllLong us st

-- these vertices are found in the level by their parts
abbrev pub AreFound : List Node → Vertices → Type 0
AreFound cs no_vertices = Unit {0}
AreFound cs (and_vertex u us) = (find_node (node u).part cs ≡ Some (node u)) × AreFound cs us

found-behind : (c : Node) (cs : List Node) (us : Vertices) → IsApart c.part (nodes us) → AreFound cs us → AreFound (c ∷ cs) us
found-behind c cs no_vertices apart h = tt
found-behind c cs (and_vertex u us) apart h = (ap (λ b. cond b (Some c) (find_node (node u).part cs)) apart.0 ∙ h.0, found-behind c cs us apart.1 h.1)

pub all_found : (us : Vertices) → HasDistinctParts (nodes us) → AreFound (nodes us) us
all_found no_vertices h = tt
all_found (and_vertex u us) h =
    (ap (λ b. cond b (Some (node u)) (find_node (node u).part (nodes us))) (same_itself (node u).part), found-behind (node u) (nodes us) us h.0 (all_found us h.1))

-- a list from which the first goes, and to which one comes
same_long : (ks : List Vector) (x : Vector) → 1 ≤ length ks → length (drop 1 ks ++ x ∷ []) ≡ length ks
same_long [] x h = absurd (omega arith)
same_long (k ∷ ks) x h = omega (arith, length-append ks (x ∷ []))

cond_long : (b : Bool) (P : State → Type 0) (f g : State) → P f → P g → P (cond b f g)
cond_long true P f g h k = h
cond_long false P f g h k = k

module _ (row : Values) where
  module _ (l : Label) (us : Vertices) (look : Source → Vector) (st : State) where
    next-by : (k : Kind) → IsKindInlinable k l.guards (nodes us) → (HasDistinctParts (nodes us) → AllLong us st → AllLong us (graph_next (nodes us) row st (map look l.ins)))
        → IsKindLong k st (AllLong us st)
        → IsKindLong k (cond (all_hold look l.guards) (kind_next k (nodes us) row st (map look l.ins)) st)
        (AllLong us (cond (all_hold look l.guards) (kind_next k (nodes us) row st (map look l.ins)) st))
    next-by (graph outs) h deep long = cond_long (all_hold look l.guards) (AllLong us) _ st (deep h.1.1 long) long
    next-by (delay vs) h deep long =
        cond_long (all_hold look l.guards) (λ (s : State). length (s []) ≡ length vs) (delay_next st (map look l.ins)) st (same_long (st []) _ (omega (arith, long, h)) ∙ long) long
    next-by (switch values names) h deep long = tt
    next-by (repeat n feeds gives) h deep long = tt
    next-by (sensor n) h deep long = tt
    next-by (actuator n) h deep long = tt
    next-by (constant v) h deep long = tt
    next-by (function es) h deep long = tt
    next-by explode h deep long = tt
    next-by implode h deep long = tt
    next-by (merge values) h deep long = tt

  mutual
    next-vertex : (u : Vertex) (look : Source → Vector) (st : State) → CanInline u → IsLong u st → IsLong u (node_next row st look (node u))
    next-vertex (vertex l us) look st h long = next-by l us look st l.kind h.0 (λ d deep. next-all (nodes us) us st (map look l.ins) h.1 (all_found us d) deep) long

    next-all : (cs : List Node) (us : Vertices) (st : State) (ins : Values) → AllCanInline us → AreFound cs us → AllLong us st → AllLong us (graph_next cs row st ins)
    next-all cs no_vertices st ins h found long = tt
    next-all cs (and_vertex u us) st ins h found long = (
      subst (IsLong u) (fun_ext (λ q. sym (ap (λ o. with_node o (st ((node u).part ∷ q)) (λ c. node_next row (below c.part st) (level_value cs row st ins) c q)) found.0)))
          (next-vertex u (level_value cs row st ins) (below (node u).part st) h.0 long.0),
      next-all cs us st ins h.1 found.1 long.1,
    )

  pub next-level : (us : Vertices) (st : State) (ins : Values) → AllCanInline us → HasDistinctParts (nodes us) → AllLong us st → AllLong us (graph_next (nodes us) row st ins)
  next-level us st ins h d long = next-all (nodes us) us st ins h (all_found us d) long

first-by : (l : Label) (us : Vertices) (k : Kind) → IsKindInlinable k l.guards (nodes us) → (HasDistinctParts (nodes us) → AllLong us (graph_initial (nodes us)))
    → IsKindLong k (kind_initial k (nodes us)) (AllLong us (kind_initial k (nodes us)))
first-by l us (graph outs) h deep = deep h.1.1
first-by l us (delay vs) h deep = refl
first-by l us (switch values names) h deep = tt
first-by l us (repeat n feeds gives) h deep = tt
first-by l us (sensor n) h deep = tt
first-by l us (actuator n) h deep = tt
first-by l us (constant v) h deep = tt
first-by l us (function es) h deep = tt
first-by l us explode h deep = tt
first-by l us implode h deep = tt
first-by l us (merge values) h deep = tt

mutual
  first-vertex : (u : Vertex) → CanInline u → IsLong u (node u).does.initial
  first-vertex (vertex l us) h = first-by l us l.kind h.0 (λ d. first-all (nodes us) us h.1 (all_found us d))

  first-all : (cs : List Node) (us : Vertices) → AllCanInline us → AreFound cs us → AllLong us (graph_initial cs)
  first-all cs no_vertices h found = tt
  first-all cs (and_vertex u us) h found = (
    subst (IsLong u) (fun_ext (λ q. sym (ap (λ o. with_node o [] (λ c. c.does.initial q)) found.0))) (first-vertex u h.0),
    first-all cs us h.1 found.1,
  )

pub first-level : (us : Vertices) → AllCanInline us → HasDistinctParts (nodes us) → AllLong us (graph_initial (nodes us))
first-level us h d = first-all (nodes us) us h (all_found us d)
