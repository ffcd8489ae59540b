-- An operation that is placed: what it reads has places, and so have its outputs.
use Rattle.std.proofs.Common.{◌≡◌, ℕ, zero, suc, ◌+◌, ◌<◌, ◌≤◌, List, [], ◌∷◌, ◌++◌, length, map, drop, drop-cons, get_or, Option, Some, refl, sym, ap, subst, arith, ◌∙◌}
use Rattle.std.specs.Prelude.{slice_get, slice_index_or, All}
use Rattle.std.proofs.lemmas.List.Elements.{All-weaker}
use Rattle.std.proofs.lemmas.Option.{same_Some}
use Rattle.sequence_build_laws.specs.declared.Guard.{Guard}
use Rattle.sequence_build_laws.specs.declared.Source.{Source}
use Rattle.sequence_build_laws.specs.declared.Vertex.{Vertex}
use Rattle.sequence_build_laws.specs.declared.Decision.{Decision}
use Rattle.sequence_build_laws.specs.Acts.{copy, outputs_from, outputs_of, run, sources_of}
use Rattle.self_timed.specs.declared.line.Line.TheVariants.{Operator}
use Rattle.self_timed.specs.Laid.{Laid, after, maker_in, HasPlace, HasRow, HasShape, IsHeld, IsPlaced, with_maker, with_makers}
use Rattle.self_timed.proofs.Places.{held_place}

-- the vertex that is read is the one that is there
pub same_vertex : (vs : List Vertex) (v : ℕ) (x y : Vertex) → x ≡ slice_index_or vs v x → slice_get vs v ≡ Some y → y ≡ x
same_vertex [] v x y is e = absurd cc
same_vertex (z ∷ vs) zero x y is e = sym (same_Some z y e) ∙ sym is
same_vertex (z ∷ vs) (suc v) x y is e = same_vertex vs v x y is e

module _ (vertices : List Vertex) (makers : List (List ℕ)) (d : Decision) (x : Vertex) (shape : HasShape vertices makers) (placed : IsPlaced vertices d) (is : x ≡ slice_index_or vertices d.op x) where
  it_is : placed.it ≡ x
  it_is = same_vertex vertices d.op x placed.it is placed.there

  pub guards_placed : All (λ (g : Guard). HasPlace makers (copy d.operator g.source)) x.guards
  guards_placed = subst (λ (v : Vertex). All (λ (g : Guard). HasPlace makers (copy d.operator g.source)) v.guards) it_is
      (All-weaker (λ (g : Guard). IsHeld vertices (copy d.operator g.source)) (λ (g : Guard). HasPlace makers (copy d.operator g.source))
      (λ g h. held_place vertices makers (copy d.operator g.source) shape h) placed.it.guards placed.guards)

  pub inputs_placed : All (λ (s : Source). HasPlace makers (copy d.operator s)) x.ins
  inputs_placed = subst (λ (v : Vertex). All (λ (s : Source). HasPlace makers (copy d.operator s)) v.ins) it_is
      (All-weaker (λ (s : Source). IsHeld vertices (copy d.operator s)) (λ (s : Source). HasPlace makers (copy d.operator s))
      (λ s h. held_place vertices makers (copy d.operator s) shape h) placed.it.ins placed.inputs)

  pub row_placed : HasRow makers d.op (length x.outs)
  row_placed = subst (λ (v : Vertex). HasRow makers d.op (length v.outs)) it_is (shape.rows d.op placed.it placed.there)

  pub few_placed : length x.outs ≤ 64
  few_placed = subst (λ (v : Vertex). length v.outs ≤ 64) it_is placed.outs

  pub there_placed : slice_get vertices d.op ≡ Some x
  there_placed = placed.there ∙ ap (λ (v : Vertex). Some v) it_is

-- the steps and the makers after it
pub run_after : (l m n : Laid) (d : Decision) (x : Vertex) (sources outs : List ℕ) → slice_get l.vertices d.op ≡ Some x
    → sources ≡ map (λ (g : Guard). maker_in l.makers (copy d.operator g.source)) x.guards ++ map (λ (s : Source). maker_in l.makers (copy d.operator s)) x.ins → outs ≡ x.outs
    → m ≡ record l { steps = l.steps ++ record { entry = d.op; line = Operator d.operator; sources = sources } ∷ [] }
    → n ≡ record m { makers = with_makers m.makers (map (copy d.operator) (outputs_from d.op 0 outs)) d.op }
    → n ≡ after l (run d)
run_after l m n d x sources outs there reads made first second =
    second
    ∙ (λ i. record (first i) { makers = with_makers (first i).makers (map (copy d.operator) (outputs_from d.op 0 (made i))) d.op })
    ∙ (λ i. record {
      vertices = l.vertices;
      next = l.next;
      makers = with_makers l.makers (map (copy d.operator) (outputs_of d.op (sym there i))) d.op;
      steps = l.steps ++ record { entry = d.op; line = Operator d.operator; sources = read i } ∷ [];
    })
  where
    read : sources ≡ map (maker_in l.makers) (map (copy d.operator) (sources_of (slice_get l.vertices d.op)))
    read = reads ∙ joined ∙ ap (λ (o : Option Vertex). map (maker_in l.makers) (map (copy d.operator) (sources_of o))) (sym there)
      where
        each : (xs : List Source) → map (λ (s : Source). maker_in l.makers (copy d.operator s)) xs ≡ map (maker_in l.makers) (map (copy d.operator) xs)
        each [] = refl
        each (s ∷ xs) = ap (λ (t : List ℕ). maker_in l.makers (copy d.operator s) ∷ t) (each xs)

        all : (gs : List Guard) (xs : List Source) → map (λ (g : Guard). maker_in l.makers (copy d.operator g.source)) gs ++ map (λ (s : Source). maker_in l.makers (copy d.operator s)) xs
            ≡ map (maker_in l.makers) (map (copy d.operator) (map (λ (g : Guard). g.source) gs ++ xs))
        all [] xs = each xs
        all (g ∷ gs) xs = ap (λ (t : List ℕ). maker_in l.makers (copy d.operator g.source) ∷ t) (all gs xs)

        joined : map (λ (g : Guard). maker_in l.makers (copy d.operator g.source)) x.guards ++ map (λ (s : Source). maker_in l.makers (copy d.operator s)) x.ins
            ≡ map (maker_in l.makers) (map (copy d.operator) (sources_of (Some x)))
        joined = all x.guards x.ins

-- one more output
pub output_noted : (makers : List (List ℕ)) (o v e port i : ℕ) (outs : List ℕ) → i < length outs
    → with_makers (with_maker makers (copy o (record { vertex = v; port = port })) e)
    (map (copy o) (outputs_from v (port + 1) (drop (i + 1) outs))) e ≡ with_makers makers (map (copy o) (outputs_from v port (drop i outs))) e
output_noted makers o v e port i outs h =
    let one : suc i ≡ i + 1 = omega arith in
    let d : drop i outs ≡ get_or outs i 0 ∷ drop (i + 1) outs = drop-cons outs i 0 h ∙ (λ j. get_or outs i 0 ∷ drop (one j) outs) in
    λ j. with_makers makers (map (copy o) (outputs_from v port (sym d j))) e
