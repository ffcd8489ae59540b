-- What an operation reads and makes, part by part.
use Rattle.std.proofs.Common.{
  ◌≡◌,
  ℕ,
  ◌+◌,
  ◌<◌,
  true,
  false,
  cond,
  nat_eq,
  List,
  [],
  ◌∷◌,
  ◌++◌,
  length,
  map,
  drop,
  Option,
  Some,
  None,
  refl,
  sym,
  ap,
  ◌∙◌,
  append_assoc,
  add-one,
  Vec,
  Global,
  inl,
  inr,
  ◌⊎◌,
  eq-eqb,
}
use Rattle.std.specs.Prelude.{slice_get, slice_set, slice_index_or}
use Rattle.std.proofs.Math.Seq.{drop-cons}
use Rattle.std.proofs.lemmas.Bool.{false≢true, eqb-true, cases_Bool}
use Rattle.std.proofs.lemmas.List.{append-nil, map-append}
use Rattle.sequence_build_laws.specs.declared.Guard.{Guard}
use Rattle.sequence_build_laws.specs.declared.Source.{Source}
use Rattle.sequence_build_laws.specs.declared.Vertex.{Vertex}
use Rattle.sequence_build_laws.specs.declared.Decision.{Decision}
use Rattle.sequence_build_laws.specs.Acts.{run, Copy, copy, read_by, made_by, outputs_from, outputs_of, sources_of}
use Rattle.sequence_build_laws.specs.declared.Instr.{Instr}
use Rattle.sequence_build_laws.proofs.Guards.{map-map}
use Rattle.sequence_build.specs.Plain.{loop_at, elements, outs_in, guards_in, ins_in}
use Rattle.sequence_build.proofs.Deepening.{set_here, set_there}

pub outputs_next : (v i : ℕ) (outs : List ℕ) → i < length outs → outputs_from v i (drop i outs) ≡ record { vertex = v; port = i } ∷ outputs_from v (i + 1) (drop (i + 1) outs)
outputs_next v i outs h =
    let next : drop i outs ≡ slice_index_or outs i 0 ∷ drop (i + 1) outs = rw (add-one, drop-cons outs i 0) refl in
    ap (outputs_from v i) next

-- one more, before those that are left
pub one_more : {A : Type 0} (out new rest whole : List A) (x : A) → new ≡ out ++ x ∷ [] → out ++ (x ∷ rest) ≡ whole → new ++ rest ≡ whole
one_more out new rest whole x e h = ap (λ (l : List _). l ++ rest) e ∙ append_assoc out (x ∷ []) rest ∙ h

pub made_at : (vertices : List Vertex) (d : Decision) → made_by vertices (run d) ≡ map (copy d.operator) (outputs_from d.op 0 (outs_in (slice_get vertices d.op)))
made_at vertices d = by (slice_get vertices d.op)
  where
    by : (o : Option Vertex) → map (copy d.operator) (outputs_of d.op o) ≡ map (copy d.operator) (outputs_from d.op 0 (outs_in o))
    by None = refl
    by (Some x) = refl

pub read_at : (number : Copy → ℕ) (vertices : List Vertex) (d : Decision)
    → map number (read_by vertices (run d)) ≡ map (λ (y : Guard). number (copy d.operator y.source)) (guards_in (slice_get vertices d.op))
    ++ map (λ x. number (copy d.operator x)) (ins_in (slice_get vertices d.op))
read_at number vertices d = by (slice_get vertices d.op)
  where
    by : (o : Option Vertex) → map number (map (copy d.operator) (sources_of o))
        ≡ map (λ (y : Guard). number (copy d.operator y.source)) (guards_in o) ++ map (λ x. number (copy d.operator x)) (ins_in o)
    by None = refl
    by (Some x) =
        map-map number (copy d.operator) (map (λ (y : Guard). y.source) x.guards ++ x.ins)
        ∙ map-append (λ y. number (copy d.operator y)) (map (λ (y : Guard). y.source) x.guards) x.ins
        ∙ ap (λ (l : List ℕ). l ++ map (λ y. number (copy d.operator y)) x.ins) (map-map (λ y. number (copy d.operator y)) (λ (y : Guard). y.source) x.guards)

-- the buffers that an operation reads, from those of its guards and of its inputs
pub read_numbers : (number : Copy → ℕ) (vertices : List Vertex) (d : Decision) (guards : List Guard) (sources : List Source) (first all : List ℕ)
    → guards ≡ guards_in (slice_get vertices d.op) → sources ≡ ins_in (slice_get vertices d.op)
    → first ≡ [] ++ map (λ (y : Guard). number (copy d.operator y.source)) guards → all ≡ first ++ map (λ x. number (copy d.operator x)) sources
    → all ≡ map number (read_by vertices (run d))
read_numbers number vertices d guards sources first all g s e f =
    f ∙ (λ i. (e ∙ ap (map (λ (y : Guard). number (copy d.operator y.source))) g) i ++ map (λ x. number (copy d.operator x)) (s i)) ∙ sym (read_at number vertices d)

pub made_numbers : (number : Copy → ℕ) (vertices : List Vertex) (d : Decision) (outs all : List ℕ)
    → outs ≡ outs_in (slice_get vertices d.op) → all ≡ [] ++ map number (map (copy d.operator) (outputs_from d.op 0 outs)) → all ≡ map number (made_by vertices (run d))
made_numbers number vertices d outs all o e = e ∙ ap (λ (l : List ℕ). map number (map (copy d.operator) (outputs_from d.op 0 l))) o ∙ ap (map number) (sym (made_at vertices d))

-- a loop that has one instruction more
pub pushed : (loops : List (Vec Instr Global)) (at : ℕ) (old new : Vec Instr Global) (x : Instr) → slice_get loops at ≡ Some old → new.items ≡ old.items ++ x ∷ []
    → (s : ℕ) → loop_at (slice_set loops at new) s ≡ loop_at loops s ++ cond (nat_eq at s) (x ∷ []) []
pushed loops at old new x e h s = by (cases_Bool (nat_eq at s))
  where
    by : (nat_eq at s ≡ true) ⊎ (nat_eq at s ≡ false) → loop_at (slice_set loops at new) s ≡ loop_at loops s ++ cond (nat_eq at s) (x ∷ []) []
    by (inl t) = let same = eqb-true at s t in
        ap (λ (k : ℕ). loop_at (slice_set loops at new) k) (sym same) ∙ ap elements (set_here loops at old new e) ∙ h
        ∙ (λ i. elements (sym e i) ++ x ∷ []) ∙ (λ i. loop_at loops (same i) ++ cond (sym t i) (x ∷ []) [])
    by (inr t) =
        ap elements (set_there loops at s new (λ z. false≢true (sym t ∙ eq-eqb at s z)))
        ∙ sym (append-nil (loop_at loops s)) ∙ (λ i. loop_at loops s ++ cond (sym t i) (x ∷ []) [])
