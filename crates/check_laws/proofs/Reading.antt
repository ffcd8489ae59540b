-- In an order of a well-formed program each read stands after the write.
use Rattle.std.proofs.Common.{◌≡◌, ℕ, ◌+◌, ◌<◌, Bool, true, false, not, List, length, Option, Some, refl, sym, ap, subst, inl, inr, arith, ◌∙◌}
use Rattle.std.specs.Prelude.{slice_get}
use Rattle.std.specs.List.{list_any}
use Rattle.std.specs.Cmp.Derive.{both_true}
use Rattle.std.proofs.lemmas.Bool.{cases_eq}
use Rattle.std.proofs.lemmas.List.{length-map}
use Rattle.std.proofs.lemmas.Option.{slice_get_within}
use Rattle.sequence_build_laws.specs.Graph.{Graph}
use Rattle.sequence_build_laws.specs.declared.Seq.{Seq}
use Rattle.sequence_build_laws.specs.declared.Instr.{Instr}
use Rattle.sequence_build_laws.specs.declared.SeqCode.{SeqCode}
use Rattle.sequence_build_laws.specs.declared.Program.{Program}
use Rattle.sequence_build_laws.specs.Instructions.{reads, writes, turn, turn_of, Reader, readers_from, readers}
use Rattle.sequence_build_laws.specs.Places.{pair, reader, reader_or, writing}
use Rattle.sequence_build_laws.specs.WellFormed.{Stands, ReadsAt, IsOrder, operator_of, place_in}
use Rattle.sequence_build_laws.proofs.Reading.{any_at, any_of, of_reads, writes_of, to_readers, in_all}
use Rattle.sequence_build_laws.proofs.Lists.{counts_tally}
use Rattle.sequence_build_laws.proofs.Loops.{code_there}
use Rattle.sequence_build_laws.proofs.Turns.{mine, place_rises}

module _ (p : Program) (g : Graph) (seqs : List Seq) (media : ℕ) (order : List ℕ) (h : IsOrder p g seqs media order) where
  pub many : length p.pairs ≡ length (readers p)
  many = sym (length-map p.pairs (λ o. Some o)) ∙ ap (λ (os : List (Option ℕ)). length os) h.numbered ∙ length-map (readers p) (λ (r : Reader). operator_of p r.buffer)

  -- a reading sequence that does not write the buffer has a pair
  has_pair : (b s a k : ℕ) (x : Instr) → b < length p.buffers → (s ≡ (writing p b).writer → ⊥) → Stands p s a x → ReadsAt x k b → (q : ℕ)
      × (q < length p.pairs) × ((reader p q).buffer ≡ b) × ((reader p q).sequence ≡ s)
  has_pair b s a k x l n st rd = by (code_there p s a x st).it (code_there p s a x st).stands
    where
      by : (y : SeqCode) → slice_get p.seqs s ≡ Some y → (q : ℕ) × (q < length p.pairs) × ((reader p q).buffer ≡ b) × ((reader p q).sequence ≡ s)
      by y e = (
        stands.0,
        let z = slice_get_within (readers p) stands.0 _ stands.1 in let m = many in omega arith,
        ap (λ (o : Option Reader). (reader_or o).buffer) stands.1,
        ap (λ (o : Option Reader). (reader_or o).sequence) stands.1 ∙ (let z : 0 + s ≡ s = omega arith in z),
      )
        where
          turn_here : turn p s ≡ y.turn
          turn_here = ap turn_of e

          reading : list_any (reads b) y.turn ≡ true
          reading = any_at (reads b) y.turn a x (ap (λ (l : List Instr). slice_get l a) (sym turn_here) ∙ st) (of_reads b k x rd)

          no_write : (t : Bool) → list_any (writes b) y.turn ≡ t → not (list_any (writes b) y.turn) ≡ true
          no_write true t = let q = any_of (writes b) y.turn t in let v = writes_of b q.1 q.3 in
              absurd (n (((h.buffers b l).only s q.0 v.0 q.1 (ap (λ (l : List Instr). slice_get l q.0) turn_here ∙ q.2) v.1).0))
          no_write false t = ap not t

          found : (i : ℕ) × (slice_get (readers_from 0 p.seqs b) i ≡ Some (record { buffer = b; sequence = 0 + s }))
          found = to_readers 0 p.seqs b s y e (both_true reading (no_write (list_any (writes b) y.turn) refl))

          stands : (i : ℕ) × (slice_get (readers p) i ≡ Some (record { buffer = b; sequence = 0 + s }))
          stands = in_all (readers_from 0 p.seqs) (length p.buffers) b found.0 (record { buffer = b; sequence = 0 + s }) l found.1

  rises : (s a b : ℕ) (x : Instr) → Stands p s b x → a < b → place_in order s a < place_in order s b
  rises s a b x e l =
      let c = code_there p s b x e in
      let low = slice_get_within p.seqs s c.it c.stands in
      let w = slice_get_within (turn p s) b x e in
      let n = sym (counts_tally (mine s) order) ∙ h.follows.lengths s low in
      place_rises order s a b l (omega arith)

  pub after_write : (b s a k : ℕ) (x : Instr) → b < length p.buffers → Stands p s a x → ReadsAt x k b → place_in order (writing p b).writer (writing p b).at < place_in order s a
  after_write b s a k x l e r = elim (cases_eq s (writing p b).writer) [
    | inl q ↦ own q
    | inr q ↦ other (has_pair b s a k x l q e r).0 (has_pair b s a k x l q e r).1 (has_pair b s a k x l q e r).2 (has_pair b s a k x l q e r).3
  ]
    where
      own : s ≡ (writing p b).writer → place_in order (writing p b).writer (writing p b).at < place_in order s a
      own q =
          let first = (h.buffers b l).own_reads a k x (subst (λ u. Stands p u a x) q e) r in
          subst (λ u. place_in order u (writing p b).at < place_in order s a) q (rises s (writing p b).at a x e first)

      other : (q : ℕ) → q < length p.pairs → (reader p q).buffer ≡ b → (reader p q).sequence ≡ s → place_in order (writing p b).writer (writing p b).at < place_in order s a
      other q m u v =
          let w = h.pairs q m in
          let one : place_in order (writing p b).writer (writing p b).at
          ≡ place_in order (writing p (reader p q).buffer).writer (writing p (reader p q).buffer).at =
          ap (λ (c : ℕ). place_in order (writing p c).writer (writing p c).at) (sym u) in
          let two = rises (writing p (reader p q).buffer).writer (writing p (reader p q).buffer).at (pair p q).signal_full _ w.signal_full.stands w.after_write in
          let three = w.full_first in
          let here = subst (λ (t : ℕ). Stands p t a x) (sym v) e in
          let there = subst (λ (c : ℕ). ReadsAt x k c) (sym u) r in
          let four = rises (reader p q).sequence (pair p q).take_full a x here (w.reads a k x here there).0 in
          let five : place_in order (reader p q).sequence a ≡ place_in order s a = ap (λ (t : ℕ). place_in order t a) v in
          omega arith
