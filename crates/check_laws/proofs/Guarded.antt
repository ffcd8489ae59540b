-- The test of pairs is true exactly where they are numbered and stand round the write and the reads.
use Rattle.std.proofs.Common.{◌≡◌, ℕ, ◌<◌, true, ◌&&◌, map, length}
use Rattle.std.specs.Prelude.{Some, nat_lt, slice_get}
use Rattle.std.specs.Cmp.Derive.{both_true}
use Rattle.std.proofs.lemmas.Bool.{and_parts}
use Rattle.sequence_build_laws.specs.declared.Program.{Program}
use Rattle.sequence_build_laws.specs.Instructions.{Reader, readers}
use Rattle.sequence_build_laws.specs.Places.{reader, writer_of, written_at}
use Rattle.sequence_build_laws.specs.WellFormed.{operator_of}
use Rattle.program_walks.specs.Pairs.{has_operator, is_read_between, is_written_between}
use Rattle.program_walks.proofs.Guarded.{written_of, of_written, read_of, of_read, all_numbered, pair_passes, all_of}
use Rattle.check_laws.specs.Items.{IsGuarded}
use Rattle.check_laws.specs.Tests.{guards, are_guarded}

module _ (p : Program) where
  abbrev Numbered : Type 0
  Numbered = map (λ o. Some o) p.pairs ≡ map (λ (r : Reader). operator_of p r.buffer) (readers p)

  -- the parts of the test
  parts_of : (q : ℕ) (x : Reader) → guards p q x ≡ true
      → ((nat_lt q (length p.pairs) && has_operator (slice_get p.pairs q) (operator_of p x.buffer)) ≡ true)
      × (is_written_between p q (writer_of p x.buffer) (written_at p x.buffer) ≡ true) × (is_read_between p q x.buffer x.sequence ≡ true)
  parts_of q x h =
      let read = and_parts _ (is_read_between p q x.buffer x.sequence) h in
      let written = and_parts (nat_lt q (length p.pairs) && has_operator (slice_get p.pairs q) (operator_of p x.buffer))
      (is_written_between p q (writer_of p x.buffer) (written_at p x.buffer)) read.0 in
      (written.0, written.1, read.1)

  pub numbered_of : are_guarded p ≡ true → Numbered
  numbered_of = all_numbered p (guards p) (λ q x h. (parts_of q x h).0)

  pub pairs_of : are_guarded p ≡ true → (q : ℕ) → q < length p.pairs → IsGuarded p q
  pairs_of h q l =
      let parts = parts_of q (reader p q) (pair_passes p (guards p) h q l) in
      let b = (reader p q).buffer in
      let write = written_of p q (writer_of p b) (written_at p b) parts.1 in
      let reads = read_of p q b (reader p q).sequence parts.2 in
      record {
        take_empty = write.0;
        signal_full = write.1;
        take_full = reads.0;
        signal_empty = reads.1;
        before_write = write.2;
        after_write = write.3;
        reads = reads.2;
      }

  pub of_pairs : Numbered → ((q : ℕ) → q < length p.pairs → IsGuarded p q) → are_guarded p ≡ true
  of_pairs n h = all_of p (guards p) n (λ q l there.
      let b = (reader p q).buffer in
      let r = h q l in
      both_true (both_true there
      (of_written p q (writer_of p b) (written_at p b) (r.take_empty, r.signal_full, r.before_write, r.after_write)))
      (of_read p q b (reader p q).sequence (r.take_full, r.signal_empty, r.reads)))
