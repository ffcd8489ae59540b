-- The tests of names and of buffers are true exactly where these are right.
use Rattle.std.proofs.Common.{◌≡◌, ℕ, inl, inr, Bool, true, ◌&&◌, List, [], length, refl, sym, subst, eq-eqb}
use Rattle.std.specs.Prelude.{slice_get, Option, Some, None, nat_lt, is_none}
use Rattle.std.specs.List.{list_all}
use Rattle.std.specs.Cmp.Derive.{both_true}
use Rattle.std.proofs.lemmas.Bool.{and_parts, eqb-true, ltb-true, lt-ltb}
use Rattle.sequence_build_laws.specs.declared.Vertex.{Vertex}
use Rattle.sequence_build_laws.specs.Graph.{Graph}
use Rattle.sequence_build_laws.specs.declared.Seq.{Seq}
use Rattle.sequence_build_laws.specs.declared.Instr.{Instr}
use Rattle.sequence_build_laws.specs.declared.Instr.TheVariants.{Suc0, Suc1, Pre0, Pre1, Call, Send, Recv, Sync}
use Rattle.sequence_build_laws.specs.declared.SeqCode.{SeqCode}
use Rattle.sequence_build_laws.specs.declared.Program.{Program}
use Rattle.sequence_build_laws.specs.Instructions.{turn, medium, prologue, prologue_of, len_of}
use Rattle.sequence_build_laws.specs.MicroSteps.{transfers}
use Rattle.sequence_build_laws.specs.Places.{calls, caller_of, ins_in, outs_in}
use Rattle.program_walks.specs.Walks.{all_at, all_below}
use Rattle.order_check.specs.Checked.{are_below}
use Rattle.program_walks.specs.Buffers.{are_buffers}
use Rattle.order_check.specs.Calls.{called_at, is_before_twin, takes, gives, are_called as all_called, is_called as all_called_at}
use Rattle.order_check.specs.Carries.{are_kept}
use Rattle.program_walks.specs.Acts.{is_only}
use Rattle.order_check.specs.Sequenced.{are_sequences}
use Rattle.order_check.specs.Transfers.{buffer_at, receiver_of, sender_of}
use Rattle.order_check.proofs.Called.{calls_of, of_calls}
use Rattle.order_check.proofs.Exact.{below_each, each_below}
use Rattle.order_check.proofs.Kept.{kept_of, of_kept}
use Rattle.program_walks.proofs.ListTests.{all_here, all_there as each_there, stands_of, of_stands, from_zero, to_zero, below_of, of_below}
use Rattle.order_check.proofs.Listed.{sequences_of_test, test_of_sequences}
use Rattle.program_walks.proofs.Written.{buffers_of, of_buffers}
use Rattle.check_laws.specs.Items.{NamesThere, AreNamed, IsCalledOnce, AreWritten, is_made}
use Rattle.check_laws.specs.Tests.{all_there, are_named, are_called, is_called, fits, has_same_len, are_written}

module _ (p : Program) (operations operators : ℕ) where
  names_of : (x : Instr) → all_there p operations operators x ≡ true → NamesThere p operations operators x
  names_of (Suc0 q) h = ltb-true q (length p.pairs) (and_parts (nat_lt q (length p.pairs)) true h).0
  names_of (Suc1 q) h = ltb-true q (length p.pairs) (and_parts (nat_lt q (length p.pairs)) true h).0
  names_of (Pre0 q) h = ltb-true q (length p.pairs) (and_parts (nat_lt q (length p.pairs)) true h).0
  names_of (Pre1 q) h = ltb-true q (length p.pairs) (and_parts (nat_lt q (length p.pairs)) true h).0
  names_of (Call v ins outs) h =
      let most = and_parts (nat_lt v operations && are_below (length p.buffers) ins) (are_below (length p.buffers) outs) (and_parts _ true h).0 in
      let first = and_parts (nat_lt v operations) (are_below (length p.buffers) ins) most.0 in
      (ltb-true v operations first.0, λ k b e. elim e [ inl i ↦ below_each (length p.buffers) ins first.1 k b i | inr o ↦ below_each (length p.buffers) outs most.1 k b o ])
  names_of (Send b o) h = let r = and_parts (nat_lt b (length p.buffers)) (nat_lt o operators) h in (ltb-true b (length p.buffers) r.0, ltb-true o operators r.1)
  names_of (Recv b o) h = let r = and_parts (nat_lt b (length p.buffers)) (nat_lt o operators) h in (ltb-true b (length p.buffers) r.0, ltb-true o operators r.1)
  names_of (Sync o q) h = let r = and_parts (nat_lt o operators) (nat_lt q operators) h in (ltb-true o operators r.0, ltb-true q operators r.1)

  pub of_names : (x : Instr) → NamesThere p operations operators x → all_there p operations operators x ≡ true
  of_names (Suc0 q) h = both_true (lt-ltb q (length p.pairs) h) refl
  of_names (Suc1 q) h = both_true (lt-ltb q (length p.pairs) h) refl
  of_names (Pre0 q) h = both_true (lt-ltb q (length p.pairs) h) refl
  of_names (Pre1 q) h = both_true (lt-ltb q (length p.pairs) h) refl
  of_names (Call v ins outs) h =
      both_true (both_true (both_true (lt-ltb v operations h.0) (each_below (length p.buffers) ins (λ k b e. h.1 k b (inl e))))
      (each_below (length p.buffers) outs (λ k b e. h.1 k b (inr e)))) refl
  of_names (Send b o) h = both_true (lt-ltb b (length p.buffers) h.0) (lt-ltb o operators h.1)
  of_names (Recv b o) h = both_true (lt-ltb b (length p.buffers) h.0) (lt-ltb o operators h.1)
  of_names (Sync o q) h = both_true (lt-ltb o operators h.0) (lt-ltb q operators h.1)

  -- of each instruction of a prologue
  opens_of : (test : Instr → Bool) → list_all (λ (q : SeqCode). list_all test q.prologue) p.seqs ≡ true → (s a : ℕ) (x : Instr) → slice_get (prologue p s) a ≡ Some x → test x ≡ true
  opens_of test h s a x e = by (slice_get p.seqs s) refl e
    where
      by : (o : Option SeqCode) → slice_get p.seqs s ≡ o → slice_get (prologue_of o) a ≡ Some x → test x ≡ true
      by None i e = absurd (cc)
      by (Some q) i e = all_here test q.prologue (all_here (λ (q : SeqCode). list_all test q.prologue) p.seqs h s q i) a x e

  of_opens : (test : Instr → Bool) → ((s a : ℕ) (x : Instr) → slice_get (prologue p s) a ≡ Some x → test x ≡ true) → list_all (λ (q : SeqCode). list_all test q.prologue) p.seqs ≡ true
  of_opens test h =
      each_there (λ (q : SeqCode). list_all test q.prologue) p.seqs (λ s q i.
      each_there test q.prologue (λ a x e. h s a x (subst (λ (o : Option SeqCode). slice_get (prologue_of o) a ≡ Some x) (sym i) e)))

  pub named_of : (seqs : List Seq) → are_named p operations operators seqs ≡ true → AreNamed p operations operators seqs
  named_of seqs h =
      let both = and_parts _ (list_all (λ (q : SeqCode). list_all (all_there p operations operators) q.prologue) p.seqs) h in
      let first = and_parts (are_sequences p.seqs seqs) (list_all (λ (q : SeqCode). list_all (all_there p operations operators) q.turn) p.seqs) both.0 in
      record {
        sequences = sequences_of_test p.seqs seqs first.0;
        loops = λ s a x e. names_of x (stands_of p (all_there p operations operators) first.1 s a x e);
        prologues = λ s a x e. names_of x (opens_of (all_there p operations operators) both.1 s a x e);
      }

  pub of_named : (seqs : List Seq) → AreNamed p operations operators seqs → are_named p operations operators seqs ≡ true
  of_named seqs h =
      both_true (both_true (test_of_sequences p.seqs seqs h.sequences) (of_stands p (all_there p operations operators) (λ s a x e. of_names x (h.loops s a x e))))
      (of_opens (all_there p operations operators) (λ s a x e. of_names x (h.prologues s a x e)))

module _ (p : Program) (g : Graph) (media : ℕ) where
  -- the tests of calls and of what their buffers carry, together
  together : are_called p g.vertices ≡ true → all_at (λ v x. fits p g.vertices v x) 0 g.vertices ≡ true → all_called p g.vertices ≡ true
  together h f = to_zero (λ v x. all_called_at p g.vertices v x) g.vertices (λ v x e.
      let once = from_zero (λ v x. is_called p v x) g.vertices h v x e in
      let fit = from_zero (λ v x. fits p g.vertices v x) g.vertices f v x e in
      let s = caller_of p v in
      let a = called_at p v in
      let twin = and_parts _ (is_before_twin p s a x.kind x.twin) once in
      let carry = and_parts (takes p g.vertices (ins_in (slice_get (turn p s) a)) x.guards x.ins) (gives p v (outs_in (slice_get (turn p s) a)) x.outs) fit in
      both_true (both_true (both_true twin.0 carry.0) carry.1) twin.1)

  apart : all_called p g.vertices ≡ true → all_at (λ v x. fits p g.vertices v x) 0 g.vertices ≡ true
  apart h = to_zero (λ v x. fits p g.vertices v x) g.vertices (λ v x e.
      let one = from_zero (λ v x. all_called_at p g.vertices v x) g.vertices h v x e in
      let s = caller_of p v in
      let a = called_at p v in
      let twin = and_parts _ (is_before_twin p s a x.kind x.twin) one in
      let given = and_parts _ (gives p v (outs_in (slice_get (turn p s) a)) x.outs) twin.0 in
      let taken = and_parts (is_only p (calls v) s a && is_none (medium p s)) (takes p g.vertices (ins_in (slice_get (turn p s) a)) x.guards x.ins) given.0 in
      both_true taken.1 given.1)

  pub written_of : are_called p g.vertices ≡ true → are_written p g.vertices media ≡ true → AreWritten p g media
  written_of c h =
      let kept = and_parts _ (are_kept p media) h in
      let lens = and_parts _ (all_below (λ m. all_below (λ t. has_same_len p m t) (transfers p m)) media) kept.0 in
      let fit = and_parts _ (all_at (λ v x. fits p g.vertices v x) 0 g.vertices) lens.0 in
      let made = and_parts (are_buffers p) (all_below (is_made p (length p.buffers)) (length p.buffers)) fit.0 in
      let calls = calls_of p [] g (together c fit.1) in
      record {
        buffers = λ b l. let w = buffers_of p [] made.0 b l in
            record {
              instr = w.instr;
              stands = w.stands;
              writes = w.writes;
              only = w.only;
              near = w.near;
              own_reads =
                  w.own_reads;
              some_place = w.some_place;
              few_places = w.few_places;
              one_place = w.one_place;
              made =
                  below_of (is_made p (length p.buffers)) (length p.buffers) made.1 b l;
            };
        takes = λ v x e. (calls v x e).takes;
        gives = λ v x e. (calls v x e).gives;
        lengths = λ m t l k. eqb-true (len_of p (buffer_at p (receiver_of p m t) t)) (len_of p (buffer_at p (sender_of p m t) t))
            (below_of (λ t. has_same_len p m t) (transfers p m) (below_of (λ m. all_below (λ t. has_same_len p m t) (transfers p m)) media lens.1 m l) t k);
        carries = kept_of p media kept.1;
      }

  pub of_written : ((v : ℕ) (x : Vertex) → slice_get g.vertices v ≡ Some x → IsCalledOnce p v x) → AreWritten p g media → are_written p g.vertices media ≡ true
  of_written c h =
      both_true (both_true (both_true (both_true
      (of_buffers p [] (λ b l. let w = h.buffers b l in
      record {
        instr = w.instr;
        stands = w.stands;
        writes = w.writes;
        only = w.only;
        near = w.near;
        own_reads =
            w.own_reads;
        some_place = w.some_place;
        few_places = w.few_places;
        one_place = w.one_place;
      }))
      (of_below (is_made p (length p.buffers)) (length p.buffers) (λ b l. (h.buffers b l).made)))
      (apart (of_calls p [] g (λ v x e. let o = c v x e in record { stands = o.stands; only = o.only; computes = o.computes; takes = h.takes v x e; gives = h.gives v x e; twins = o.twins }))))
      (of_below (λ m. all_below (λ t. has_same_len p m t) (transfers p m)) media (λ m l. of_below (λ t. has_same_len p m t) (transfers p m) (λ t k.
      eq-eqb (len_of p (buffer_at p (receiver_of p m t) t)) (len_of p (buffer_at p (sender_of p m t) t)) (h.lengths m t l k)))))
      (of_kept p media h.carries)
