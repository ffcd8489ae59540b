-- All sources of the operations of a tree lead to operations.
use Rattle.std.proofs.Common.{◌≡◌, ℕ, suc, ◌+◌, ◌≤◌, List, [], ◌∷◌, map, Option, Some, slice_get, slice_index_or, refl, sym, ap, subst, arith, add-zero, zero-add}
use Rattle.algo_tree.specs.declared.Source.{Source}
use Rattle.algo_tree.specs.declared.Source.TheVariants.{Own, Of}
use Rattle.algo_tree.specs.declared.Guard.{Guard}
use Rattle.algo_tree.specs.Tree.{Vertex}
use Rattle.algo_tree.specs.Typed.{AreLengths, AreGuardsTyped}
use Rattle.algo_tree.specs.Valid.{IsTree}
use Rattle.flat_laws.specs.Flat.{Operation}
use Rattle.flat_laws.specs.Inlined.{operations}
use Rattle.flat_laws.specs.Numbered.{with_operation}
use Rattle.flat_laws.specs.Plain.{IsPlain}
use Rattle.flat_laws.proofs.Lengths.{Outs}
use Rattle.flat_laws.proofs.Fits.{AllFit, fit-main}
use Rattle.flat_laws.specs.Linked.{IsFound, AreFound, GuardsFound, AllLinked}

-- the length of an output of one of these operations
abbrev long : List Operation → Source → ℕ
long ops (Own k) = 0
long ops (Of v p) = with_operation (slice_get ops v) 0 (λ op. slice_index_or op.outs p 0)

outs_from : (all : List Operation) (b : ℕ) (ops : List Operation) → ((i : ℕ) (op : Operation) → slice_get ops i ≡ Some op → slice_get all (b + i) ≡ Some op) → Outs (long all) (λ k. refl) b ops
outs_from all b [] h = tt
outs_from all b (op ∷ ops) h = (
  (λ p. ap (λ o. with_operation o 0 (λ x. slice_index_or x.outs p 0)) (subst (λ m. slice_get all m ≡ Some op) (add-zero b) (h 0 op refl))),
  outs_from all (suc b) ops (λ i o is. let e : b + suc i ≡ suc b + i = omega arith in subst (λ m. slice_get all m ≡ Some o) e (h (suc i) o is)),
)

-- what has a length is there
found : (ops : List Operation) (s : Source) → 1 ≤ long ops s → IsFound s
found ops (Own k) h = absurd (omega (arith, h))
found ops (Of v p) h = tt

ins_found : (ops : List Operation) (ss : List Source) → AreLengths (map (long ops) ss) → AreFound ss
ins_found ops [] h = tt
ins_found ops (s ∷ ss) h = (found ops s h.0.0, ins_found ops ss h.1)

guards_found : (ops : List Operation) (gs : List Guard) → AreGuardsTyped (long ops) gs → GuardsFound gs
guards_found ops [] h = tt
guards_found ops (g ∷ gs) h = let one = h.0.0 in (found ops g.source (omega (arith, one)), guards_found ops gs h.1)

all_linked : (all : List Operation) (before : Option Operation) (ops : List Operation) → AllFit (long all) before ops → AllLinked ops
all_linked all before [] h = tt
all_linked all before (op ∷ ops) h = ((ins_found all op.ins h.0.ins, guards_found all op.guards h.0.guards), all_linked all (Some op) ops h.1)

pub linked_main : (main : Vertex) → IsTree main → IsPlain main → AllLinked (operations main)
linked_main main tree plain =
    let ops = operations main in
    all_linked ops _ ops (fit-main (long ops) (λ k. refl) main tree plain (outs_from ops 0 ops (λ i op is. subst (λ m. slice_get ops m ≡ Some op) (sym (zero-add i)) is)))
