-- Each buffer of a well-formed program has an element: what a call writes is an output, and what a receive writes is as long as what was sent before.
use Rattle.std.proofs.Common.{◌≡◌, ℕ, zero, suc, ◌+◌, ◌<◌, ◌≤◌, ◌⊎◌, true, false, not, nat_le, List, [], ◌∷◌, length, Option, Some, None, refl, sym, ap, subst, inl, inr, arith, ◌∙◌}
use Rattle.std.specs.Prelude.{slice_get}
use Rattle.std.specs.List.{list_any}
use Rattle.std.proofs.lemmas.Bool.{and_parts, and_from, cases_eq, cases_Bool, leb-true}
use Rattle.std.proofs.lemmas.List.{length-map}
use Rattle.std.proofs.lemmas.Option.{same_Some, slice_get_within}
use Rattle.sequence_build_laws.specs.Graph.{Graph}
use Rattle.sequence_build_laws.specs.FlatValid.{is_flat, is_len}
use Rattle.sequence_build_laws.specs.Archi.{Architecture}
use Rattle.sequence_build_laws.specs.Sequences.{sequences}
use Rattle.sequence_build_laws.specs.declared.Instr.{Instr}
use Rattle.sequence_build_laws.specs.declared.Instr.TheVariants.{Suc0, Suc1, Pre0, Pre1, Call, Send, Recv, Sync}
use Rattle.sequence_build_laws.specs.declared.Buffer.{Buffer}
use Rattle.sequence_build_laws.specs.declared.SeqCode.{SeqCode}
use Rattle.sequence_build_laws.specs.declared.Program.{Program}
use Rattle.sequence_build_laws.specs.Instructions.{reads, writes, turn, turn_of, operator, communications, Reader, waits_for, readers_from, readers, len_of, len_in}
use Rattle.sequence_build_laws.specs.Places.{places, reader, reader_or, writing, pair, carried}
use Rattle.sequence_build_laws.specs.WellFormed.{place_in, Stands, WritesAt, ReadsAt, IsOrder, IsTransfer, CarryOutputs, len_is, operator_of}
use Rattle.sequence_build_laws.proofs.Reading.{any_at, any_of, of_reads, writes_of, reader_is, to_readers, in_all}
use Rattle.sequence_build_laws.proofs.Turns.{mine, place_rises}
use Rattle.sequence_build_laws.proofs.Lists.{counts_tally}
use Rattle.code_laws.proofs.ListPlaces.{got_some, all_here}
use Rattle.code_laws.proofs.Named.{operations, operation_at}
use Rattle.code_laws.proofs.Formed as formed

received_of : (c d o r : ℕ) → ◌≡◌ {A = Instr} (Recv c o) (Recv d r) → c ≡ d
received_of c d o r e = cc

module _ (p : Program) (g : Graph) (a : Architecture) (order : List ℕ) (h : IsOrder p g (sequences a) (length a.media) order) (flat : is_flat g ≡ true) where
  abbrev place : ℕ → ℕ → ℕ
  place s i = place_in order s i

  later : (s i j : ℕ) (x : Instr) → i < j → Stands p s j x → place s i < place s j
  later s i j x l e =
      let c = formed.standing p g a order h s j x e in
      let below = slice_get_within p.seqs s c.0 c.1 in
      let many = h.follows.lengths s below in
      let room = slice_get_within (turn p s) j x e in
      let mine_many = counts_tally (mine s) order in
      place_rises order s i j l (omega (arith, many, mine_many, room))

  pairs_many : length p.pairs ≡ length (readers p)
  pairs_many = sym (length-map p.pairs (λ (o : ℕ). Some o)) ∙ ap (λ (os : List (Option ℕ)). length os) h.numbered ∙ length-map (readers p) (λ (r : Reader). operator_of p r.buffer)

  pair_by : (b s i : ℕ) → slice_get (readers p) i ≡ Some (record { buffer = b; sequence = 0 + s }) → (q : ℕ) × (q < length p.pairs) × (reader p q ≡ record { buffer = b; sequence = s })
  pair_by b s i e =
      let w = slice_get_within (readers p) i (record { buffer = b; sequence = 0 + s }) e in
      let m = pairs_many in
      (i, omega (arith, w, m), ap reader_or e ∙ reader_is b (0 + s) s (omega arith))

  pair_in : (b s : ℕ) (c : SeqCode) → b < length p.buffers → slice_get p.seqs s ≡ Some c → waits_for b c ≡ true → (q : ℕ) × (q < length p.pairs) × (reader p q ≡ record { buffer = b; sequence = s })
  pair_in b s c l e waits =
      let found = to_readers 0 p.seqs b s c e waits in
      let it = in_all (readers_from 0 p.seqs) (length p.buffers) b found.0 (record { buffer = b; sequence = 0 + s }) l found.1 in
      pair_by b s it.0 it.1

  -- a sequence that reads a buffer which it does not write has a pair
  pair_for : (b s i k : ℕ) (x : Instr) → b < length p.buffers → (s ≡ (writing p b).writer → ⊥) → Stands p s i x → ReadsAt x k b → (q : ℕ)
      × (q < length p.pairs) × (reader p q ≡ record { buffer = b; sequence = s })
  pair_for b s i k x l other e r =
      let c = formed.standing p g a order h s i x e in
      let reading : list_any (reads b) c.0.turn ≡ true = any_at (reads b) c.0.turn i x c.2 (of_reads b k x r) in
      let alone = no_write c.0 c.1 (cases_Bool (list_any (writes b) c.0.turn)) in
      pair_in b s c.0 l c.1 (and_from (list_any (reads b) c.0.turn) (not (list_any (writes b) c.0.turn)) reading alone)
    where
      no_write : (c : SeqCode) → slice_get p.seqs s ≡ Some c → (list_any (writes b) c.turn ≡ true) ⊎ (list_any (writes b) c.turn ≡ false) → not (list_any (writes b) c.turn) ≡ true
      no_write c is (inl t) =
          let q = any_of (writes b) c.turn t in let v = writes_of b q.1 q.3 in
          absurd (other ((h.buffers b l).only s q.0 v.0 q.1 (ap (λ (o : Option SeqCode). slice_get (turn_of o) q.0) is ∙ q.2) v.1).0)
      no_write c is (inr t) = ap not t

  -- a buffer is written before it is read
  abbrev made : ℕ → ℕ
  made b = place (writing p b).writer (writing p b).at

  made_before : (b s i k : ℕ) (x : Instr) → b < length p.buffers → Stands p s i x → ReadsAt x k b → made b < place s i
  made_before b s i k x l e r = by (cases_eq s (writing p b).writer)
    where
      by : (s ≡ (writing p b).writer) ⊎ (s ≡ (writing p b).writer → ⊥) → made b < place s i
      by (inl same) =
          let here : Stands p (writing p b).writer i x = subst (λ (t : ℕ). Stands p t i x) same e in
          let first = (h.buffers b l).own_reads i k x here r in
          subst (λ (t : ℕ). made b < place t i) (sym same) (later (writing p b).writer (writing p b).at i x first here)
      by (inr other) =
          let q = pair_for b s i k x l other e r in
          let one = h.pairs q.0 q.1 in
          let buffer_is : (reader p q.0).buffer ≡ b = ap (λ (z : Reader). z.buffer) q.2 in
          let reader_of : (reader p q.0).sequence ≡ s = ap (λ (z : Reader). z.sequence) q.2 in
          let here : Stands p (reader p q.0).sequence i x = subst (λ (t : ℕ). Stands p t i x) (sym reader_of) e in
          let reads_here : ReadsAt x k (reader p q.0).buffer = subst (λ (t : ℕ). ReadsAt x k t) (sym buffer_is) r in
          let first = later (writing p (reader p q.0).buffer).writer (writing p (reader p q.0).buffer).at (pair p q.0).signal_full (Pre1 q.0) one.after_write one.signal_full.stands in
          let second = one.full_first in
          let third = later (reader p q.0).sequence (pair p q.0).take_full i x (one.reads i k x here reads_here).0 here in
          let start : made (reader p q.0).buffer ≡ made b = ap made buffer_is in
          let end : place (reader p q.0).sequence i ≡ place s i = ap (λ (t : ℕ). place t i) reader_of in
          omega (arith, first, second, third, start, end)

  carried_len : (v port k b : ℕ) (bs ns : List ℕ) → CarryOutputs p order (places p) (carried p) g v port bs ns → slice_get bs k ≡ Some b
      → (n : ℕ) × (slice_get ns k ≡ Some n) × len_is p (slice_get p.buffers b) n
  carried_len v port k b [] [] c e = absurd cc
  carried_len v port k b [] (n ∷ ns) c e = absurd c
  carried_len v port k b (d ∷ bs) [] c e = absurd c
  carried_len v port zero b (d ∷ bs) (n ∷ ns) c e = (n, refl, subst (λ (t : ℕ). len_is p (slice_get p.buffers t) n) (same_Some d b e) c.1)
  carried_len v port (suc k) b (d ∷ bs) (n ∷ ns) c e = carried_len v (port + 1) k b bs ns c.2 e

  len_from : (b n : ℕ) → len_is p (slice_get p.buffers b) n → len_of p b ≡ n
  len_from b n = by (slice_get p.buffers b) refl
    where
      by : (o : Option Buffer) → slice_get p.buffers b ≡ o → len_is p o n → len_of p b ≡ n
      by None q e = absurd e
      by (Some y) q e = ap len_in q ∙ e

  -- what a call writes
  call_writes : (s i v k b : ℕ) (ins outs : List ℕ) → Stands p s i (Call v ins outs) → slice_get outs k ≡ Some b → 1 ≤ len_of p b
  call_writes s i v k b ins outs e f =
      let there = (h.named s i (Call v ins outs) e).0 in
      let x = got_some g.vertices v there in
      let called = h.called v x.0 x.1 in
      let at = called.only s i ins outs e in
      let same : Call v ins outs ≡ Call v ((places p).calling v).ins ((places p).calling v).outs =
      same_Some (Call v ins outs) (Call v ((places p).calling v).ins ((places p).calling v).outs)
      (sym e ∙ ap (λ (t : ℕ). slice_get (turn p t) i) at.0 ∙ ap (slice_get (turn p ((places p).calling v).sequence)) at.1 ∙ called.stands) in
      let outs_are : outs ≡ ((places p).calling v).outs = ap outs_of same in
      let n = carried_len v 0 k b ((places p).calling v).outs x.0.outs called.gives (ap (λ (l : List ℕ). slice_get l k) (sym outs_are) ∙ f) in
      let small = all_here is_len x.0.outs ((operation_at g (operations g flat) v x.0 x.1).outs) k n.0 n.1 in
      let least = leb-true 1 n.0 (and_parts (nat_le 1 n.0) (nat_le n.0 64) small).0 in
      let is = len_from b n.0 n.2 in omega (arith, least, is)
    where
      outs_of : Instr → List ℕ
      outs_of (Call u is os) = os
      outs_of _ = []

  within : (bound b : ℕ) → b < length p.buffers → made b < bound → 1 ≤ len_of p b
  within zero b l m = absurd (omega (arith, m))
  within (suc bound) b l m = let one = h.buffers b l in by one.instr one.stands one.writes (λ c k e. within bound c k e)
    where
      by : (x : Instr) → Stands p (writing p b).writer (writing p b).at x → WritesAt x (writing p b).port b → ((c : ℕ) → c < length p.buffers → made c < bound → 1 ≤ len_of p c) → 1 ≤ len_of p b
      by (Call v ins outs) e w again = call_writes (writing p b).writer (writing p b).at v (writing p b).port b ins outs e w
      by (Recv c o) e w again = received (formed.part p g a order h (writing p b).writer (writing p b).at (Recv c o) e refl) (λ q. q.who_is)
        where
          received : (q : formed.Part p g a order h (writing p b).writer (writing p b).at (Recv c o))
              → ((q : formed.Part p g a order h (writing p b).writer (writing p b).at (Recv c o))
              → formed.Who p g a order h q.m (communications p (writing p b).writer (writing p b).at) (writing p b).writer (writing p b).at
              (Recv c o)) → 1 ≤ len_of p b
          received q who = from (who q)
            where
              t : ℕ
              t = communications p (writing p b).writer (writing p b).at

              one : IsTransfer p order (places p) q.m (communications p (writing p b).writer (writing p b).at)
              one = h.transferred q.m (communications p (writing p b).writer (writing p b).at) q.there q.below

              from : formed.Who p g a order h q.m (communications p (writing p b).writer (writing p b).at) (writing p b).writer (writing p b).at (Recv c o) → 1 ≤ len_of p b
              from (formed.receives_it u v is) =
                  let tr = (places p).transfer q.m t in
                  let same : c ≡ tr.received = received_of c tr.received o (operator p tr.sender) is in
                  let below : tr.sent < length p.buffers = h.named tr.sender tr.send_at (Send tr.sent (operator p tr.receiver)) one.sends.stands in
                  let before = made_before tr.sent tr.sender tr.send_at 0 (Send tr.sent (operator p tr.receiver)) below one.sends.stands (refl, refl) in
                  let order_is = one.in_order in
                  let here : made b ≡ place tr.receiver tr.receive_at = ap (λ (z : ℕ). place z (writing p b).at) u ∙ ap (place tr.receiver) v in
                  let some = again tr.sent below (omega (arith, m, before, order_is, here)) in
                  let long = one.lengths in
                  let own : len_of p tr.received ≡ len_of p b = ap (len_of p) (sym same ∙ w.0) in
                  omega (arith, some, long, own)
              from (formed.sends_it u v is) = absurd cc
              from (formed.waits_for_it is) = absurd cc
      by (Suc0 q) e w again = absurd w
      by (Suc1 q) e w again = absurd w
      by (Pre0 q) e w again = absurd w
      by (Pre1 q) e w again = absurd w
      by (Send c o) e w again = absurd w
      by (Sync q r) e w again = absurd w

  pub elements : (b : ℕ) → b < length p.buffers → 1 ≤ len_of p b
  elements b l = within (suc (made b)) b l (omega arith)
