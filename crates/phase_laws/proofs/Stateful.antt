-- Set halves and actuators read something, so that their computation stands with their last load.
use Rattle.std.proofs.Common.{◌≡◌, ℕ, ◌+◌, ◌-◌, ◌<◌, ◌⊎◌, true, ◌==◌, List, [], ◌∷◌, ◌++◌, length, map, Some, sym, ap, inl, inr, arith, ◌∙◌, length-append}
use Rattle.std.specs.Prelude.{slice_get, slice_index_or, nat_le, replicate}
use Rattle.std.specs.List.{list_all}
use Rattle.std.proofs.lemmas.Option.{slice_get_within}
use Rattle.std.proofs.lemmas.Bool.{and_parts, leb-true}
use Rattle.std.proofs.lemmas.List.{length-map, length-replicate, get_or_at}
use Rattle.executive_program.specs.System.{Micro}
use Rattle.executive_program.proofs.InterleavingSums.{member_below}
use Rattle.executive_program.specs.declared.Kind.{Kind}
use Rattle.executive_program.specs.declared.Kind.TheVariants.{Actuator, Set}
use Rattle.executive_program.specs.declared.Vertex.{Vertex}
use Rattle.executive_program.specs.Graph.{Graph, lens_of}
use Rattle.executive_program.specs.FlatValid.{is_flat, fits, has_twin}
use Rattle.executive_program.proofs.Facts.{vertex_valid, fits_of}
use Rattle.executive_program.proofs.KindLens.{one_is}
use Rattle.executive_program.specs.declared.program.Instr.TheVariants.{Call}
use Rattle.executive_program.specs.Blocks.{blocks}
use Rattle.executive_program.specs.Instructions.{turn, len_of}
use Rattle.executive_program.specs.MicroSteps.{code, size, block, loads_at, stores_at}
use Rattle.executive_program.specs.Places.{calling}
use Rattle.executive_program.specs.Steps.{len_at, elements_in}
use Rattle.semaphore_core.specs.Job.{JobData}
use Rattle.semaphore_core.specs.Told.{last_load}
use Rattle.executive_program.specs.WellFormed.{Stands}
use Rattle.phase_laws.specs.Values.{IsSupplied}
use Rattle.phase_laws.proofs.Blocks.{sum_inside, blocks_length}
use Rattle.phase_laws.proofs.Places.{block_is}
use Rattle.phase_laws.proofs.StepsAt.{loads_count, stores_count}
use Rattle.phase_laws.proofs.Joined.{len_at_is}
use Rattle.phase_laws.proofs.Lengths.{called_lens}

-- a valid operation with one input reads at least one element
one_input : (g : Graph) → is_flat g ≡ true → (v : ℕ) (x : Vertex) → slice_get g.vertices v ≡ Some x
    → (length (lens_of g.vertices x.ins) == 1) ≡ true → (n : ℕ) × (0 < n) × (lens_of g.vertices x.ins ≡ n ∷ [])
one_input g valid v x e one = (slice_index_or (lens_of g.vertices x.ins) 0 0, first (lens_of g.vertices x.ins) (one_is (lens_of g.vertices x.ins) one) long, one_is (lens_of g.vertices x.ins) one)
  where
    long : list_all (nat_le 1) (lens_of g.vertices x.ins) ≡ true
    long = let a = and_parts _ (has_twin g.vertices v x.kind x.twin) (vertex_valid g valid v x e) in let b = and_parts _ (fits g.bodies x.kind (lens_of g.vertices x.ins) x.outs) a.0 in
        (and_parts _ (list_all (nat_le 1) (lens_of g.vertices x.ins)) b.0).1

    first : (ns : List ℕ) → ns ≡ slice_index_or ns 0 0 ∷ [] → list_all (nat_le 1) ns ≡ true → 0 < slice_index_or ns 0 0
    first [] q l = absurd (let z = ap (λ (m : List ℕ). length m) q in omega arith)
    first (n ∷ ns) q l = leb-true 1 n (and_parts (nat_le 1 n) (list_all (nat_le 1) ns) l).0

module _ (j : JobData) (h : IsSupplied j) where
  -- an operation whose computation changes a cell or a row
  abbrev pub Changes : Vertex → Type 0
  Changes y = (y.kind ≡ Set) ⊎ ((a : ℕ) × (y.kind ≡ Actuator a))

  abbrev pub Stateful : ℕ → Type 0
  Stateful t = (y : Vertex) × (slice_get j.graph.vertices t ≡ Some y) × Changes y

  reads_one : (t : ℕ) (y : Vertex) → slice_get j.graph.vertices t ≡ Some y → Changes y → (n : ℕ) × (0 < n) × (lens_of j.graph.vertices y.ins ≡ n ∷ [])
  reads_one t y e c = one_input j.graph h.valid t y e (by c)
    where
      fit : fits j.graph.bodies y.kind (lens_of j.graph.vertices y.ins) y.outs ≡ true
      fit = fits_of j.graph t y (vertex_valid j.graph h.valid t y e)

      by : Changes y → (length (lens_of j.graph.vertices y.ins) == 1) ≡ true
      by (inl k) = (and_parts (length (lens_of j.graph.vertices y.ins) == 1) (length y.outs == 0) (ap (λ (q : Kind). fits j.graph.bodies q (lens_of j.graph.vertices y.ins) y.outs) (sym k) ∙ fit)).0
      by (inr k) = (and_parts (length (lens_of j.graph.vertices y.ins) == 1) (length y.outs == 0) (ap (λ (q : Kind). fits j.graph.bodies q (lens_of j.graph.vertices y.ins) y.outs) (sym k.1) ∙ fit)).0

  pub fed : (t : ℕ) → Stateful t → 0 < elements_in j.program (calling j.program t).ins
  fed t s = let n = reads_one t s.0 s.1 s.2 in
      let lens : map (len_of j.program) (calling j.program t).ins ≡ replicate (length s.0.guards) 1 ++ n.0 ∷ []
      = called_lens j h t s.0 (calling j.program t).ins s.1 (h.formed.called t s.0 s.1).takes ∙ ap (λ (l : List ℕ). replicate (length s.0.guards) 1 ++ l) n.2 in
      let at : len_at j.program (calling j.program t).ins (length s.0.guards) ≡ n.0
      = len_at_is j.program (calling j.program t).ins (length s.0.guards)
      ∙ ap (λ (l : List ℕ). slice_index_or l (length s.0.guards) 0) lens
      ∙ get_or_at (replicate (length s.0.guards) 1) n.0 [] 0 (length s.0.guards) (length-replicate (length s.0.guards) 1) in
      let many : length (calling j.program t).ins ≡ length s.0.guards + 1
      = sym (length-map (calling j.program t).ins (len_of j.program)) ∙ ap (λ (l : List ℕ). length l) lens
      ∙ length-append (replicate (length s.0.guards) 1) (n.0 ∷ []) ∙ ap (λ (m : ℕ). m + 1) (length-replicate (length s.0.guards) 1) in
      let z = member_below (len_at j.program (calling j.program t).ins) (length (calling j.program t).ins) (length s.0.guards) (omega arith) in let p = n.1 in omega arith

  -- a call has a micro-step for each element
  pub call_size : (s a v : ℕ) (ins outs : List ℕ) → Stands j.program s a (Call v ins outs) → size j.program s a ≡ elements_in j.program ins + elements_in j.program outs
  call_size s a v ins outs e = ap (λ (l : List Micro). length l) (block_is j.program s a (Call v ins outs) e) ∙ (let z = loads_count j.program ins in let y = stores_count j.program outs in
      let x = length-append (blocks (loads_at j.program ins) (length ins)) (blocks (stores_at j.program outs) (length outs)) in omega arith)

  pub last_inner : (t : ℕ) → Stateful t → elements_in j.program (calling j.program t).ins - 1 < size j.program (calling j.program t).sequence (calling j.program t).at
  last_inner t q = let z = call_size (calling j.program t).sequence (calling j.program t).at t (calling j.program t).ins
      (calling j.program t).outs (h.formed.called t q.0 q.1).stands in let y = fed t q in omega arith

  pub last_low : (t : ℕ) → Stateful t → last_load j t < length (code j.program (calling j.program t).sequence).turn
  last_low t q = let z = sum_inside (size j.program (calling j.program t).sequence)
      (length (turn j.program (calling j.program t).sequence)) (calling j.program t).at (elements_in j.program (calling j.program t).ins - 1)
      (slice_get_within (turn j.program (calling j.program t).sequence) (calling j.program t).at
      (Call t (calling j.program t).ins (calling j.program t).outs) (h.formed.called t q.0 q.1).stands) (last_inner t q) in
      let y = blocks_length (block j.program (calling j.program t).sequence) (length (turn j.program (calling j.program t).sequence)) in omega arith
