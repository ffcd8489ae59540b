-- Why a tree keeps bounds: what would be a tree of one function of n outputs has a graph that stands for it, and this graph
-- is not valid if n is 0 or 65, even if the body is there.
use Rattle.std.proofs.Common.{◌≡◌, ◌≤◌, ℕ, zero, suc, pos, true, false, List, [], ◌∷◌, replicate, None, refl, sym, subst, ◌∙◌, codes, arith}
use Rattle.std.proofs.lemmas.List.{length-replicate}
use Rattle.algo_tree.specs.declared.Part.TheVariants.{Named}
use Rattle.algo_tree.specs.Order.{IsAcyclic}
use Rattle.algo_tree.specs.Meaning.{nodes}
use Rattle.algo_tree.specs.Tree as tree
use Rattle.algo_tree.specs.Typed.{AreLengths, AllPortsBelow}
use Rattle.algo_tree.specs.Valid.{IsTree}
use Rattle.flat_graph.specs.Expr.{Expr, literal}
use Rattle.flat_graph.specs.declared.vertex.Kind.TheVariants.{Function}
use Rattle.flat_graph.specs.Graph.{Graph}
use Rattle.flat_graph.specs.Valid.{is_flat}
use Rattle.flat_laws.specs.Inlined.{operations}
use Rattle.flat_laws.specs.Plain.{IsPlain}
use Rattle.flat_laws.specs.Stands.{Stands}
use Rattle.flat_laws.proofs.Valid.{stands-flat}

module _ (n : ℕ) where
  abbrev body : List Expr
  body = replicate n (literal (pos 0))

  abbrev inside : tree.Vertices
  inside =
      tree.and_vertex (tree.vertex (record { part = Named (codes "f"); definition = codes "F"; ins = []; guards = []; outs = replicate n 1; names = []; kind = tree.function body }) tree.no_vertices)
      tree.no_vertices

  abbrev main : tree.Vertex
  main = tree.vertex (record { part = Named (codes "main"); definition = codes "main"; ins = []; guards = []; outs = []; names = []; kind = tree.graph [] }) inside

  abbrev graph : List (List Expr) → Graph
  graph bodies = record { vertices = record { name = codes "f"; def = codes "F"; kind = Function 0; guards = []; ins = []; outs = replicate n 1; twin = None } ∷ []; bodies = bodies }

  acyclic : IsAcyclic (nodes inside)
  acyclic zero lt = refl
  acyclic (suc r) lt = absurd (omega (arith, lt))

  lengths : (m : ℕ) → AreLengths (replicate m 1)
  lengths zero = tt
  lengths (suc m) = ((omega arith, omega arith), lengths m)

  ports : (m : ℕ) → AllPortsBelow 0 (replicate m (literal (pos 0)))
  ports zero = tt
  ports (suc m) = (tt, ports m)

  valid : 1 ≤ n → n ≤ 64 → IsTree main
  valid some few = record {
    portless = record { kind = refl; ins = refl };
    well = ((refl, (acyclic, (tt, tt))), ((tt, tt), tt));
    typed = ((tt, tt), (((tt, ((tt, lengths n), (length-replicate n (literal (pos 0)) ∙ sym (length-replicate n 1), ports n))), tt), refl));
    inside = (tt, tt);
    numbered = record { sensors = refl; actuators = refl };
    few = omega arith;
    named = ((record { part = refl; definition = refl; kind = tt }, tt), tt);
    bounded = ((record { part = tt; kind = (subst (λ m. 1 ≤ m) (sym (length-replicate n 1)) some, subst (λ m. m ≤ 64) (sym (length-replicate n 1)) few) }, tt), tt);
  }

  plain : IsPlain main
  plain = (tt, ((tt, tt), tt))

stands_none : Stands (graph 0 ([] ∷ [])) (operations (main 0))
stands_none = (record { same = refl; name = refl; twin = refl }, tt)

not_flat_none : is_flat (graph 0 ([] ∷ [])) ≡ false
not_flat_none = refl

stands_many : Stands (graph 65 (body 65 ∷ [])) (operations (main 65))
stands_many = (record { same = refl; name = refl; twin = refl }, tt)

not_flat_many : is_flat (graph 65 (body 65 ∷ [])) ≡ false
not_flat_many = refl

-- one output is well
flat_one : is_flat (graph 1 (body 1 ∷ [])) ≡ true
flat_one = stands-flat (main 1) (graph 1 (body 1 ∷ [])) (valid 1 (omega arith) (omega arith)) (plain 1) (record { same = refl; name = refl; twin = refl }, tt)
