-- What a well-formed program has: places of its buffers, and as many pairs as readers.
use Rattle.std.proofs.Common.{◌≡◌, ℕ, ◌<◌, ◌≤◌, ◌⊎◌, inl, inr, List, length, Option, Some, sym, ap, arith, ◌∙◌}
use Rattle.std.proofs.lemmas.Bool.{cases_lt}
use Rattle.std.proofs.lemmas.List.{length-map}
use Rattle.std.proofs.lemmas.Option.{slice_get_past}
use Rattle.archi_graph.specs.declared.medium.Seq.{Seq}
use Rattle.flat_graph.specs.Graph.{Graph}
use Rattle.executive_program.specs.declared.program.Program.{Program}
use Rattle.executive_program.specs.Instructions.{depth_in, depth_of, readers, Reader, HasPlaces}
use Rattle.executive_program.specs.WellFormed.{IsOrder, IsWellFormed, operator_of}

-- each buffer has a place, and so has one that is not there
pub formed_has_places : (p : Program) (g : Graph) (seqs : List Seq) (media : ℕ) → IsWellFormed p g seqs media → HasPlaces p
formed_has_places p g seqs media formed b = by (cases_lt b (length p.buffers))
  where
    by : (b < length p.buffers) ⊎ (length p.buffers ≤ b) → 1 ≤ depth_of p b
    by (inl l) = (formed.1.buffers b l).some_place
    by (inr l) = let e : depth_of p b ≡ 1 = ap depth_in (slice_get_past p.buffers b l) in omega arith

-- there are as many pairs as readers
pub pairs_are_readers : (p : Program) (g : Graph) (seqs : List Seq) (media : ℕ) (order : List ℕ) → IsOrder p g seqs media order → length p.pairs ≡ length (readers p)
pairs_are_readers p g seqs media order formed =
    sym (length-map p.pairs (λ (o : ℕ). Some o)) ∙ ap (λ (l : List (Option ℕ)). length l) formed.numbered ∙ length-map (readers p) (λ (r : Reader). operator_of p r.buffer)
