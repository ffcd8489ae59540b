-- The whole test is true exactly where the program is well formed by the order.
use Rattle.std.proofs.Common.{◌≡◌, ℕ, true, ◌&&◌, List, length}
use Rattle.std.specs.Bool.{Decides}
use Rattle.std.specs.Cmp.Derive.{both_true}
use Rattle.std.proofs.lemmas.Bool.{and_parts}
use Rattle.executive_program.specs.declared.Seq.{Seq}
use Rattle.executive_program.specs.Graph.{Graph}
use Rattle.executive_program.specs.declared.program.Program.{Program}
use Rattle.executive_program.specs.Places.{carried, places}
use Rattle.executive_program.specs.WellFormed.{IsOrder}
use Rattle.order_check.specs.Checked.{communicators, counts, follows_loops, named, on_media}
use Rattle.program_walks.specs.Buffers.{are_buffers}
use Rattle.order_check.specs.Calls.{are_called}
use Rattle.order_check.specs.Carries.{are_kept}
use Rattle.program_walks.specs.Opened.{are_opened}
use Rattle.order_check.specs.Order.{are_guards_right, are_numbers_right, are_values_right, is_order}
use Rattle.program_walks.specs.Pairs.{are_pairs}
use Rattle.order_check.specs.Sequenced.{are_sequences}
use Rattle.order_check.specs.Transfers.{are_transfers}
use Rattle.order_check.proofs.Called.{calls_of, of_calls}
use Rattle.order_check.proofs.Exact.{communicators_of, counts_of, follows_of, named_of, of_communicators, of_counts, of_follows, of_named, of_on_media, on_media_of}
use Rattle.program_walks.proofs.Guarded.{numbered_of, of_pairs, pairs_of}
use Rattle.order_check.proofs.Kept.{kept_of, of_kept}
use Rattle.order_check.proofs.Listed.{sequences_of_test, test_of_sequences}
use Rattle.program_walks.proofs.Prologues.{of_opened, opened_of}
use Rattle.order_check.proofs.Transferred.{of_transfers, transfers_of}
use Rattle.program_walks.proofs.Written.{buffers_of, of_buffers}

module _ (p : Program) (g : Graph) (seqs : List Seq) (media : ℕ) (order : List ℕ) where
  order_of : is_order p g.vertices seqs media order ≡ true → IsOrder p g seqs media order
  order_of h =
      let values = and_parts _ (are_values_right p order g.vertices media) h in
      let guards = and_parts _ (are_guards_right p order) values.0 in
      let numbers = and_parts (are_sequences p.seqs seqs && follows_loops p order) (are_numbers_right p (length g.vertices) media) guards.0 in
      let first = and_parts (are_sequences p.seqs seqs) (follows_loops p order) numbers.0 in
      let counted = and_parts _ (counts p) numbers.1 in
      let on = and_parts (named p (length g.vertices) && communicators p) (on_media p media) counted.0 in
      let names = and_parts (named p (length g.vertices)) (communicators p) on.0 in
      let opened = and_parts (are_buffers p && are_pairs p order) (are_opened p) guards.1 in
      let guarded = and_parts (are_buffers p) (are_pairs p order) opened.0 in
      let kept = and_parts (are_called p g.vertices && are_transfers p order media) (are_kept p media) values.1 in
      let sent = and_parts (are_called p g.vertices) (are_transfers p order media) kept.0 in
      record {
        sequences = sequences_of_test p.seqs seqs first.0;
        follows = follows_of p order first.1;
        named = named_of p order (places p) (carried p) g names.0;
        called = calls_of p order g sent.0;
        buffers = buffers_of p order guarded.0;
        numbered = numbered_of p order guarded.1;
        pairs = pairs_of p order guarded.1;
        prologues = opened_of p opened.1;
        communicators = communicators_of p names.1;
        on_media = on_media_of p media on.1;
        counts = counts_of p counted.1;
        transferred = transfers_of p order media sent.1;
        carries = kept_of p media kept.1;
      }

  of_order : IsOrder p g seqs media order → is_order p g.vertices seqs media order ≡ true
  of_order r =
      both_true (both_true (both_true (both_true (test_of_sequences p.seqs seqs r.sequences) (of_follows p order r.follows))
      (both_true (both_true (both_true (of_named p order (places p) (carried p) g r.named) (of_communicators p r.communicators)) (of_on_media p media r.on_media)) (of_counts p r.counts)))
      (both_true (both_true (of_buffers p order r.buffers) (of_pairs p order r.numbered r.pairs)) (of_opened p r.numbered r.prologues)))
      (both_true (both_true (of_calls p order g r.called) (of_transfers p order media r.transferred)) (of_kept p media r.carries))

  pub decides_order : Decides (is_order p g.vertices seqs media order) (IsOrder p g seqs media order)
  decides_order = (order_of, of_order)
