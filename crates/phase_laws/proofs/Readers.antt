-- The pairs that are computed from a well-formed program guard its buffers.
use Rattle.std.proofs.Common.{◌≡◌, ℕ, zero, suc, ◌+◌, ◌-◌, ◌<◌, ◌≤◌, ◌⊎◌, Bool, true, false, not, List, length, Option, Some, None, refl, sym, ap, subst, inl, inr, arith, ◌∙◌, eq-eqb, ne_eqb}
use Rattle.std.specs.Prelude.{slice_get}
use Rattle.std.specs.List.{list_any}
use Rattle.std.specs.Cmp.Derive.{both_true}
use Rattle.std.proofs.lemmas.Bool.{and_parts, cases_eq}
use Rattle.std.proofs.lemmas.List.{length-map}
use Rattle.std.proofs.lemmas.Option.{slice_get_within}
use Rattle.executive_program.specs.Owners.{sum_below}
use Rattle.executive_program.proofs.InterleavingSums.{same_below}
use Rattle.executive_program.specs.declared.Source.{Source}
use Rattle.executive_program.specs.Graph.{Graph}
use Rattle.executive_program.specs.declared.Seq.{Seq}
use Rattle.executive_program.specs.declared.program.Instr.{Instr}
use Rattle.executive_program.specs.declared.program.Instr.TheVariants.{Pre0}
use Rattle.executive_program.specs.declared.program.SeqCode.{SeqCode}
use Rattle.executive_program.specs.declared.program.Program.{Program}
use Rattle.executive_program.specs.Blocks.{repeated}
use Rattle.executive_program.specs.Instructions.{reads, writes, turn, turn_of, prologue, prologue_of, Reader, waits_for, readers_from, readers, depth_of, depth_at, pair_depth}
use Rattle.executive_program.specs.Places.{places, pair, reader, reader_or, writing, opening_signals, signals_of, opening_of}
use Rattle.executive_program.specs.WellFormed.{Stands, WritesAt, ReadsAt, IsBuffer, IsOrderBy, operator_of}
use Rattle.executive_program.proofs.Reading.{any_at, any_of, reads_of, of_reads, writes_of, of_writes, Waits, from_readers, to_readers, from_repeated}
use Rattle.phase_laws.proofs.Blocks.{blocks_at, blocks_length, InBlock, in_block, sum_rises}
use Rattle.phase_laws.proofs.Places.{slice_get_some, stands_sequence}
use Rattle.phase_laws.proofs.Setting.{AreGuarded, Conditions}

repeated_length : {A : Type 0} (x : A) (n : ℕ) → length (repeated x n) ≡ n
repeated_length x zero = refl
repeated_length x (suc n) = ap (λ (k : ℕ). suc k) (repeated_length x n)

repeated_at : {A : Type 0} (x : A) (n i : ℕ) → i < n → slice_get (repeated x n) i ≡ Some x
repeated_at x zero i h = absurd (omega arith)
repeated_at x (suc n) zero h = refl
repeated_at x (suc n) (suc i) h = repeated_at x n i (omega arith)

module _ (p : Program) (order : List ℕ) (carried : ℕ → Source) (g : Graph) (seqs : List Seq) (media : ℕ) (h : IsOrderBy p order (places p) carried g seqs media) where
  many : length p.pairs ≡ length (readers p)
  many = sym (length-map p.pairs (λ o. Some o)) ∙ ap (λ (os : List (Option ℕ)). length os) h.numbered ∙ length-map (readers p) (λ (r : Reader). operator_of p r.buffer)

  -- pair q is the entry q of the readers
  record Entry (q : ℕ) : Type 0 where
    who : Reader
    here : slice_get (readers p) q ≡ Some who
    below : who.buffer < length p.buffers
    code : SeqCode
    stands : slice_get p.seqs who.sequence ≡ Some code
    waits : waits_for who.buffer code ≡ true
    is : reader p q ≡ who

  entry : (q : ℕ) → q < length p.pairs → Entry q
  entry q l = by (slice_get_some (readers p) q (let z = many in omega arith))
    where
      by : (x : Reader) × (slice_get (readers p) q ≡ Some x) → Entry q
      by (x, e) = record {
        who = x;
        here = e;
        below = subst (λ (r : Reader). r.buffer < length p.buffers) (sym f.is) b.within;
        code = f.code;
        stands = ap (λ (r : Reader). slice_get p.seqs r.sequence) f.is ∙ ap (slice_get p.seqs) (let z : 0 + f.at ≡ f.at = omega arith in z) ∙ f.stands;
        waits = subst (λ (r : Reader). waits_for r.buffer f.code ≡ true) (sym f.is) f.waits;
        is = ap reader_or e;
      }
        where
          b : InBlock (readers_from 0 p.seqs) (length p.buffers) q x
          b = in_block (readers_from 0 p.seqs) (length p.buffers) q x e

          f : Waits p.seqs 0 b.block x
          f = from_readers 0 p.seqs b.block b.at x b.stands

  buffer_below : (q : ℕ) → q < length p.pairs → (reader p q).buffer < length p.buffers
  buffer_below q l = let e = entry q l in subst (λ (r : Reader). r.buffer < length p.buffers) (sym e.is) e.below

  same_depth : (q : ℕ) → q < length p.pairs → pair_depth p q ≡ depth_of p (reader p q).buffer
  same_depth q l = let e = entry q l in ap (depth_at p) e.here ∙ ap (λ (r : Reader). depth_of p r.buffer) (sym e.is)

  -- the turn of the reading sequence
  turn_is : (q : ℕ) (e : Entry q) → turn p (reader p q).sequence ≡ e.code.turn
  turn_is q e = ap (λ (r : Reader). turn p r.sequence) e.is ∙ ap turn_of e.stands

  reads_some : (q : ℕ) → q < length p.pairs → (a : ℕ) × (k : ℕ) × (x : Instr) × Stands p (reader p q).sequence a x × ReadsAt x k (reader p q).buffer
  reads_some q l = let e = entry q l in let parts = and_parts (list_any (reads e.who.buffer) e.code.turn) (not (list_any (writes e.who.buffer) e.code.turn)) e.waits in
      let a = any_of (reads e.who.buffer) e.code.turn parts.0 in let r = reads_of e.who.buffer a.1 a.3 in
      (a.0, r.0, a.1, ap (λ (l : List Instr). slice_get l a.0) (turn_is q e) ∙ a.2, subst (λ (u : Reader). ReadsAt a.1 r.0 u.buffer) (sym e.is) r.1)

  not_of : (b : Bool) → not b ≡ true → b ≡ true → ⊥
  not_of true n e = absurd cc
  not_of false n e = absurd cc

  not_writing : (q : ℕ) → q < length p.pairs → (reader p q).sequence ≡ (writing p (reader p q).buffer).writer → ⊥
  not_writing q l same = not_of (list_any (writes e.who.buffer) e.code.turn) parts.1 (any_at (writes e.who.buffer) e.code.turn (writing p (reader p q).buffer).at one.instr here
      (of_writes e.who.buffer (writing p (reader p q).buffer).port one.instr (subst (λ (u : Reader). WritesAt one.instr (writing p (reader p q).buffer).port u.buffer) e.is one.writes)))
    where
      e : Entry q
      e = entry q l

      parts : (list_any (reads e.who.buffer) e.code.turn ≡ true) × (not (list_any (writes e.who.buffer) e.code.turn) ≡ true)
      parts = and_parts (list_any (reads e.who.buffer) e.code.turn) (not (list_any (writes e.who.buffer) e.code.turn)) e.waits

      one : IsBuffer p order (places p) (reader p q).buffer
      one = h.buffers (reader p q).buffer (buffer_below q l)

      here : slice_get e.code.turn (writing p (reader p q).buffer).at ≡ Some one.instr
      here = ap (λ (l : List Instr). slice_get l (writing p (reader p q).buffer).at) (sym (turn_is q e)) ∙ ap (λ (s : ℕ). slice_get (turn p s) (writing p (reader p q).buffer).at) same ∙ one.stands

  -- a reading sequence that does not write the buffer has a pair
  has_pair : (b s a k : ℕ) (x : Instr) → b < length p.buffers → (s ≡ (writing p b).writer → ⊥) → Stands p s a x → ReadsAt x k b → (q : ℕ)
      × (q < length p.pairs) × ((reader p q).buffer ≡ b) × ((reader p q).sequence ≡ s)
  has_pair b s a k x l n st rd = by (slice_get_some p.seqs s (stands_sequence p s a x st))
    where
      by : (y : SeqCode) × (slice_get p.seqs s ≡ Some y) → (q : ℕ) × (q < length p.pairs) × ((reader p q).buffer ≡ b) × ((reader p q).sequence ≡ s)
      by (y, e) = (
        place,
        let z = slice_get_within (readers p) place _ stands in let m = many in omega arith,
        ap (λ (o : Option Reader). (reader_or o).buffer) stands,
        ap (λ (o : Option Reader). (reader_or o).sequence) stands ∙ (let z : 0 + s ≡ s = omega arith in z),
      )
        where
          turn_here : turn p s ≡ y.turn
          turn_here = ap turn_of e

          reading : list_any (reads b) y.turn ≡ true
          reading = any_at (reads b) y.turn a x (ap (λ (l : List Instr). slice_get l a) (sym turn_here) ∙ st) (of_reads b k x rd)

          no_write : (t : Bool) → list_any (writes b) y.turn ≡ t → not (list_any (writes b) y.turn) ≡ true
          no_write true t = let q = any_of (writes b) y.turn t in let v = writes_of b q.1 q.3 in
              absurd (n (((h.buffers b l).only s q.0 v.0 q.1 (ap (λ (l : List Instr). slice_get l q.0) turn_here ∙ q.2) v.1).0))
          no_write false t = ap not t

          waiting : waits_for b y ≡ true
          waiting = both_true reading (no_write (list_any (writes b) y.turn) refl)

          found : (i : ℕ) × (slice_get (readers_from 0 p.seqs b) i ≡ Some (record { buffer = b; sequence = 0 + s }))
          found = to_readers 0 p.seqs b s y e waiting

          place : ℕ
          place = sum_below (λ b. length (readers_from 0 p.seqs b)) b + found.0

          stands : slice_get (readers p) place ≡ Some (record { buffer = b; sequence = 0 + s })
          stands = blocks_at (readers_from 0 p.seqs) (length p.buffers) b found.0 l (slice_get_within (readers_from 0 p.seqs b) found.0 _ found.1) ∙ found.1

  -- the signals of pair q in the prologue of its reader
  signals_length : (s q : ℕ) → length (signals_of p s q) ≡ opening_signals p s q
  signals_length s q = repeated_length (Pre0 q) (opening_signals p s q)

  starts : (s q : ℕ) → sum_below (λ i. length (signals_of p s i)) q ≡ sum_below (opening_signals p s) q
  starts s q = same_below (λ i. length (signals_of p s i)) (opening_signals p s) q (λ i l. signals_length s i)

  own_signals : (q : ℕ) → opening_signals p (reader p q).sequence q ≡ depth_of p (reader p q).buffer
  own_signals q = rw (eq-eqb (reader p q).sequence (reader p q).sequence refl) refl

  reading_sequence : (q : ℕ) → q < length p.pairs → (reader p q).sequence < length p.seqs
  reading_sequence q l = let e = entry q l in subst (λ (r : Reader). r.sequence < length p.seqs) (sym e.is) (slice_get_within p.seqs e.who.sequence e.code e.stands)

  prologue_is : (s : ℕ) → s < length p.seqs → prologue p s ≡ opening_of p s
  prologue_is s l = h.prologues s l

  has_room : (q : ℕ) → q < length p.pairs → (pair p q).front + pair_depth p q ≤ length (prologue p (reader p q).sequence)
  has_room q l = let s = (reader p q).sequence in let z = ap (λ (l : List Instr). length l) (prologue_is s (reading_sequence q l)) in
      let y = blocks_length (signals_of p s) (length (readers p)) in let a = starts s (length (readers p)) in let m = many in
      let b = sum_rises (opening_signals p s) (length (readers p)) (suc q) (omega arith) in let d = own_signals q in let x = same_depth q l in omega arith

  opens_at : (q l : ℕ) → q < length p.pairs → (pair p q).front ≤ l → l < (pair p q).front + pair_depth p q → slice_get (prologue p (reader p q).sequence) l ≡ Some (Pre0 q)
  opens_at q l i a b = let s = (reader p q).sequence in let d = own_signals q in let x = same_depth q i in let y = starts s q in let m = many in let n = signals_length s q in
      let e : sum_below (λ i. length (signals_of p s i)) q + (l - (pair p q).front) ≡ l = omega arith in
      ap (λ (xs : List Instr). slice_get xs l) (prologue_is s (reading_sequence q i))
      ∙ ap (λ (k : ℕ). slice_get (opening_of p s) k) (sym e)
      ∙ blocks_at (signals_of p s) (length (readers p)) q (l - (pair p q).front) (omega arith) (omega arith)
      ∙ repeated_at (Pre0 q) (opening_signals p s q) (l - (pair p q).front) (omega arith)

  abbrev Opened : ℕ → ℕ → Instr → Type 0
  Opened s l x = (q : ℕ) × (q < length p.pairs) × ((pair p q).reader ≡ s) × ((pair p q).front ≤ l) × (l < (pair p q).front + pair_depth p q) × (x ≡ Pre0 q)

  is_opened : (s l : ℕ) (x : Instr) → slice_get (prologue p s) l ≡ Some x → Opened s l x
  is_opened s l x e = by (cases_eq (reader p b.block).sequence s)
    where
      there : s < length p.seqs
      there = by (slice_get p.seqs s) refl
        where
          by : (o : Option SeqCode) → slice_get p.seqs s ≡ o → s < length p.seqs
          by None q = let z : slice_get (prologue_of None) l ≡ Some x = ap (λ (k : Option SeqCode). slice_get (prologue_of k) l) (sym q) ∙ e in absurd cc
          by (Some k) q = slice_get_within p.seqs s k q

      b : InBlock (signals_of p s) (length (readers p)) l x
      b = in_block (signals_of p s) (length (readers p)) l x (ap (λ (xs : List Instr). slice_get xs l) (sym (prologue_is s there)) ∙ e)

      low : b.block < length p.pairs
      low = let m = many in let w = b.within in omega arith

      by : ((reader p b.block).sequence ≡ s) ⊎ ((reader p b.block).sequence ≡ s → ⊥) → Opened s l x
      by (inl same) = (
        b.block,
        low,
        same,
        let z = front_is in let i = b.is in omega arith,
        let z = front_is in let i = b.is in let n = b.inner in let m = signals_length s b.block in let d = own_signals b.block in let y = same_depth b.block low in
            let u = ap (λ (t : ℕ). opening_signals p t b.block) same in omega arith,
        from_repeated (Pre0 b.block) (opening_signals p s b.block) b.at x b.stands,
      )
        where
          front_is : (pair p b.block).front ≡ sum_below (λ i. length (signals_of p s i)) b.block
          front_is = ap (λ (t : ℕ). sum_below (opening_signals p t) b.block) same ∙ sym (starts s b.block)
      by (inr other) = let n = b.inner in let m = signals_length s b.block in let z : opening_signals p s b.block ≡ 0 = rw (ne_eqb (reader p b.block).sequence s other) refl in absurd (omega arith)

  pub are_guarded : AreGuarded p (places p)
  are_guarded = record {
    buffer = buffer_below;
    depth = same_depth;
    other = λ q l e. not_writing q l e;
    some_read = reads_some;
    paired = has_pair;
    fits = has_room;
    opens = opens_at;
    opened = is_opened;
  }

  abbrev pub conditions : Conditions p (places p)
  conditions = record { order = order; carried = carried; graph = g; seqs = seqs; media = media; holds = h; guarded = are_guarded }
