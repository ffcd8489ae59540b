-- What a well-formed program names is declared where it is named.
use Rattle.std.proofs.Common.{
  ◌≡◌,
  ℕ,
  zero,
  suc,
  ◌+◌,
  ◌<◌,
  ◌≤◌,
  ◌⊎◌,
  Bool,
  true,
  ◌&&◌,
  not,
  cond,
  nat_lt,
  List,
  [],
  ◌∷◌,
  ◌++◌,
  length,
  map,
  take,
  Option,
  Some,
  None,
  refl,
  sym,
  ap,
  subst,
  inl,
  inr,
  ⊎_elim,
  arith,
  ◌∙◌,
}
use Rattle.std.specs.Prelude.{slice_get}
use Rattle.std.specs.List.{list_any, list_all, count_by}
use Rattle.std.proofs.lemmas.Bool.{and_parts, and_from, ne_eqb, cases_eq, cases_order, lt-ltb, ltb-true}
use Rattle.std.proofs.lemmas.List.{length-map}
use Rattle.std.proofs.lemmas.List.Sums.{sum_by-cons}
use Rattle.std.proofs.lemmas.Option.{same_Some, slice_get_within}
use Rattle.sequence_build_laws.specs.Graph.{Graph}
use Rattle.sequence_build_laws.specs.declared.Seq.{Seq}
use Rattle.sequence_build_laws.specs.Archi.{Architecture}
use Rattle.sequence_build_laws.specs.Sequences.{sequences}
use Rattle.sequence_build_laws.specs.declared.Instr.{Instr}
use Rattle.sequence_build_laws.specs.declared.Instr.TheVariants.{Suc0, Suc1, Pre0, Pre1, Call, Send, Recv, Sync}
use Rattle.sequence_build_laws.specs.declared.Buffer.{Buffer}
use Rattle.sequence_build_laws.specs.declared.SeqCode.{SeqCode}
use Rattle.sequence_build_laws.specs.declared.Program.{Program}
use Rattle.sequence_build_laws.specs.Blocks.{blocks, repeated}
use Rattle.sequence_build_laws.specs.Instructions.{reads, writes, turn, turn_of, prologue_of, operator, operator_in, communications, is_communication, Reader, waits_for, readers_from, readers}
use Rattle.sequence_build_laws.specs.MicroSteps.{transfers}
use Rattle.sequence_build_laws.specs.Places.{places, reader, reader_or, writing, opening_signals, signals_of, opening_of}
use Rattle.sequence_build_laws.specs.WellFormed.{Stands, WritesAt, ReadsAt, Communicates, IsTransfer, IsOrder, operator_is, operator_of}
use Rattle.sequence_build_laws.proofs.Reading.{any_of, reads_of, from_readers, from_repeated}
use Rattle.macro_code.specs.Text.{pairs_on}
use Rattle.code_laws.proofs.Arguments.{is_small}
use Rattle.code_laws.proofs.ListPlaces.{got_some, got_map, map_got, all_here, all_there}
use Rattle.macro_code.specs.ReadText.{is_among}
use Rattle.code_laws.proofs.Numbering.{on_has}
use Rattle.code_laws.proofs.Instructions.{is_there, is_readable}
use Rattle.code_laws.proofs.Groups.{below_bound}
use Rattle.code_laws.proofs.Processors.{places_of, readable_at}

-- an element of one of the blocks
got_either : {A : Type 0} (xs ys : List A) (i : ℕ) (x : A) → slice_get (xs ++ ys) i ≡ Some x → (slice_get xs i ≡ Some x) ⊎ ((j : ℕ) × (slice_get ys j ≡ Some x))
got_either [] ys i x e = inr (i, e)
got_either (y ∷ xs) ys zero x e = inl e
got_either (y ∷ xs) ys (suc i) x e = got_either xs ys i x e

pub in_block : {A : Type 0} (f : ℕ → List A) (n i : ℕ) (x : A) → slice_get (blocks f n) i ≡ Some x → (b : ℕ) × (b < n) × (j : ℕ) × (slice_get (f b) j ≡ Some x)
in_block f zero i x e = cc
in_block f (suc n) i x e = by (got_either (blocks f n) (f n) i x e) (λ k. in_block f n i x k)
  where
    by : (slice_get (blocks f n) i ≡ Some x) ⊎ ((j : ℕ) × (slice_get (f n) j ≡ Some x)) → (slice_get (blocks f n) i ≡ Some x → (b : ℕ) × (b < n) × (j : ℕ) × (slice_get (f b) j ≡ Some x))
        → (b : ℕ) × (b < suc n) × (j : ℕ) × (slice_get (f b) j ≡ Some x)
    by (inl k) again = let r = again k in let l = r.1 in (r.0, omega (arith, l), r.2, r.3)
    by (inr k) again = (n, omega arith, k.0, k.1)

module _ {A : Type 0} (f : A → Bool) where
  count_cons : (x : A) (xs : List A) → count_by f (x ∷ xs) ≡ cond (f x) 1 0 + count_by f xs
  count_cons x xs = sum_by-cons (λ y. cond (f y) 1 0) x xs

  one_here : (x y : A) → ◌≡◌ {A = Option A} (Some x) (Some y) → f y ≡ true → ◌≡◌ {A = ℕ} (cond (f x) 1 0) 1
  one_here x y e h = rw (ap f (same_Some x y e) ∙ h) refl

  count_more : (xs : List A) (i j : ℕ) (x : A) → slice_get xs i ≡ Some x → f x ≡ true → i < j → count_by f (take i xs) < count_by f (take j xs)
  count_more [] i j x e h l = absurd cc
  count_more (y ∷ ys) i zero x e h l = absurd (omega arith)
  count_more (y ∷ ys) zero (suc j) x e h l = let u = count_cons y (take j ys) in let v = one_here y x e h in omega arith
  count_more (y ∷ ys) (suc i) (suc j) x e h l = let r = count_more ys i j x e h (omega arith) in let u = count_cons y (take j ys) in let v = count_cons y (take i ys) in omega arith

  count_less : (xs : List A) (i : ℕ) (x : A) → slice_get xs i ≡ Some x → f x ≡ true → count_by f (take i xs) < count_by f xs
  count_less [] i x e h = absurd cc
  count_less (y ∷ ys) zero x e h = let u = count_cons y ys in let v = one_here y x e h in omega arith
  count_less (y ∷ ys) (suc i) x e h = let r = count_less ys i x e h in let u = count_cons y ys in let v = count_cons y (take i ys) in omega arith

module _ (p : Program) (g : Graph) (a : Architecture) (order : List ℕ) (h : IsOrder p g (sequences a) (length a.media) order) where
  pub standing : (s i : ℕ) (x : Instr) → Stands p s i x → (c : SeqCode) × (slice_get p.seqs s ≡ Some c) × (slice_get c.turn i ≡ Some x)
  standing s i x e = by (slice_get p.seqs s) refl
    where
      by : (o : Option SeqCode) → slice_get p.seqs s ≡ o → (c : SeqCode) × (slice_get p.seqs s ≡ Some c) × (slice_get c.turn i ≡ Some x)
      by None q = let z : slice_get (turn_of None) i ≡ Some x = ap (λ (k : Option SeqCode). slice_get (turn_of k) i) (sym q) ∙ e in absurd cc
      by (Some c) q = (c, q, ap (λ (k : Option SeqCode). slice_get (turn_of k) i) (sym q) ∙ e)

  -- each sequence is that of an operator
  pub seq_low : (s : ℕ) (c : SeqCode) → slice_get p.seqs s ≡ Some c → c.seq.operator < length a.operators
  seq_low s c e =
      let test : Seq → Bool = λ (q : Seq). nat_lt q.operator (length a.operators) in
      let all : list_all test (sequences a) ≡ true = below_bound a.media (length a.operators) 0 (length a.operators) (omega arith) in
      let own : slice_get (sequences a) s ≡ Some c.seq = ap (λ (l : List Seq). slice_get l s) (sym h.sequences) ∙ got_map (λ (q : SeqCode). q.seq) p.seqs s c e in
      ltb-true c.seq.operator (length a.operators) (all_here test (sequences a) all s c.seq own)

  pub operator_low : (s i : ℕ) (x : Instr) → Stands p s i x → operator p s < length a.operators
  operator_low s i x e = let c = standing s i x e in subst (λ (o : ℕ). o < length a.operators) (sym (ap operator_in c.1)) (seq_low s c.0 c.1)

  -- a buffer on an operator
  pub record OnOperator (b o : ℕ) : Type 0 where
    pub buffer : Buffer
    pub stands : slice_get p.buffers b ≡ Some buffer
    pub on : buffer.operator ≡ o

  on_of : (b o : ℕ) → operator_is p (slice_get p.buffers b) o → OnOperator b o
  on_of b o = by (slice_get p.buffers b) refl
    where
      by : (t : Option Buffer) → slice_get p.buffers b ≡ t → operator_is p t o → OnOperator b o
      by None q e = absurd e
      by (Some y) q e = record { buffer = y; stands = q; on = e }

  -- what a sequence touches is on its operator
  pub touched : (s i k b : ℕ) (x : Instr) → b < length p.buffers → Stands p s i x → WritesAt x k b ⊎ ReadsAt x k b → OnOperator b (operator p s)
  touched s i k b x l e t = on_of b (operator p s) ((h.buffers b l).near s i k x e t)

  pub written : (b : ℕ) → b < length p.buffers → OnOperator b (operator p (writing p b).writer)
  written b l = let one = h.buffers b l in touched (writing p b).writer (writing p b).at (writing p b).port b one.instr l one.stands (inl one.writes)

  pub same_operator : (b o r : ℕ) → OnOperator b o → OnOperator b r → o ≡ r
  same_operator b o r x y = sym x.on ∙ ap (λ (z : Buffer). z.operator) (same_Some x.buffer y.buffer (sym x.stands ∙ y.stands)) ∙ y.on

  -- a pair, with its buffer and its reading sequence
  pub record PairOf (q : ℕ) : Type 0 where
    pub owner : ℕ
    pub owned : slice_get p.pairs q ≡ Some owner
    pub below : (reader p q).buffer < length p.buffers
    pub code : SeqCode
    pub stands : slice_get p.seqs (reader p q).sequence ≡ Some code
    pub waits : waits_for (reader p q).buffer code ≡ true
    pub on : OnOperator (reader p q).buffer owner

  operator_back : (b o : ℕ) (y : Buffer) → slice_get p.buffers b ≡ Some y → operator_of p b ≡ Some o → y.operator ≡ o
  operator_back b o y e f = let own : operator_of p b ≡ Some y.operator = rw e refl in same_Some y.operator o (sym own ∙ f)

  pair_at : (q o b at : ℕ) (code : SeqCode) (y : Buffer) → slice_get p.pairs q ≡ Some o → reader p q
      ≡ record { buffer = b; sequence = 0 + at } → b < length p.buffers → slice_get p.seqs at ≡ Some code → waits_for b code ≡ true
      → slice_get p.buffers b ≡ Some y → operator_of p b ≡ Some o → PairOf q
  pair_at q o b at code y owned is below stands waits buffer_is operator_is = record {
    owner = o;
    owned = owned;
    below = subst (λ (x : Reader). x.buffer < length p.buffers) (sym is) below;
    code = code;
    stands = ap (λ (x : Reader). slice_get p.seqs x.sequence) is ∙ ap (slice_get p.seqs) (let k : 0 + at ≡ at = omega arith in k) ∙ stands;
    waits = subst (λ (x : Reader). waits_for x.buffer code ≡ true) (sym is) waits;
    on = subst (λ (x : Reader). OnOperator x.buffer o) (sym is) (record { buffer = y; stands = buffer_is; on = operator_back b o y buffer_is operator_is });
  }

  -- from its entry in the readers, which one buffer has
  pair_from : (q o b i : ℕ) (r : Reader) → slice_get p.pairs q ≡ Some o → slice_get (readers p) q ≡ Some r → operator_of p r.buffer
      ≡ Some o → b < length p.buffers → slice_get (readers_from 0 p.seqs b) i ≡ Some r → PairOf q
  pair_from q o b i r owned entry operator_is below stands =
      let w = from_readers 0 p.seqs b i r stands in
      let y = got_some p.buffers b below in
      pair_at q o b w.at w.code y.0 owned (ap reader_or entry ∙ w.is) below w.stands w.waits y.1 (ap (λ (x : Reader). operator_of p x.buffer) (sym w.is) ∙ operator_is)

  pub pair_of : (q : ℕ) → q < length p.pairs → PairOf q
  pair_of q l =
      let it = got_some p.pairs q l in
      let own : slice_get (map (λ (r : Reader). operator_of p r.buffer) (readers p)) q
      ≡ Some (Some it.0) = ap (λ (os : List (Option ℕ)). slice_get os q) (sym h.numbered) ∙ got_map (λ (o : ℕ). Some o) p.pairs q it.0 it.1 in
      let r = map_got (λ (r : Reader). operator_of p r.buffer) (readers p) q (Some it.0) own in
      let block = in_block (readers_from 0 p.seqs) (length p.buffers) q r.0 r.1 in
      pair_from q it.0 block.0 block.2 r.0 it.1 r.1 r.2 block.1 block.3

  -- its reading sequence reads its buffer
  pub record Reading (q : ℕ) : Type 0 where
    pub at : ℕ
    pub input : ℕ
    pub instr : Instr
    pub stands : Stands p (reader p q).sequence at instr
    pub reads_it : ReadsAt instr input (reader p q).buffer

  pub reading : (q : ℕ) → PairOf q → Reading q
  reading q e =
      let parts = and_parts (list_any (reads (reader p q).buffer) e.code.turn) (not (list_any (writes (reader p q).buffer) e.code.turn)) e.waits in
      let r = any_of (reads (reader p q).buffer) e.code.turn parts.0 in
      let k = reads_of (reader p q).buffer r.1 r.3 in
      record { at = r.0; input = k.0; instr = r.1; stands = ap (λ (o : Option SeqCode). slice_get (turn_of o) r.0) e.stands ∙ r.2; reads_it = k.1 }

  -- a pair is on the operator of its reader, which is that of its writer
  reader_owner : (q : ℕ) (e : PairOf q) → e.owner ≡ operator p (reader p q).sequence
  reader_owner q e = let r = reading q e in
      same_operator (reader p q).buffer e.owner (operator p (reader p q).sequence) e.on (touched (reader p q).sequence r.at r.input (reader p q).buffer r.instr e.below r.stands (inr r.reads_it))

  writer_owner : (q : ℕ) (e : PairOf q) → e.owner ≡ operator p (writing p (reader p q).buffer).writer
  writer_owner q e = same_operator (reader p q).buffer e.owner (operator p (writing p (reader p q).buffer).writer) e.on (written (reader p q).buffer e.below)

  -- who makes a transfer
  pub data Who (m t s i : ℕ) (x : Instr) : Type 0 where
    sends_it : s ≡ ((places p).transfer m t).sender → i ≡ ((places p).transfer m t).send_at → x ≡ Send ((places p).transfer m t).sent (operator p ((places p).transfer m t).receiver) → Who m t s i x
    receives_it : s ≡ ((places p).transfer m t).receiver → i ≡ ((places p).transfer m t).receive_at → x
        ≡ Recv ((places p).transfer m t).received (operator p ((places p).transfer m t).sender) → Who m t s i x
    waits_for_it : x ≡ Sync (operator p ((places p).transfer m t).sender) (operator p ((places p).transfer m t).receiver) → Who m t s i x

  same_communication : (m t s i j : ℕ) (x y : Instr) → Communicates p m t s i x → Communicates p m t s j y → i ≡ j
  same_communication m t s i j x y e f =
      ⊎_elim (λ q. q) (λ q. absurd (⊎_elim
      (λ l. let z = count_more is_communication (turn p s) i j x e.stands e.is_one l in let u = e.number in let v = f.number in omega arith)
      (λ l. let z = count_more is_communication (turn p s) j i y f.stands f.is_one l in let u = e.number in let v = f.number in omega arith) q)) (cases_order i j)

  module _ (m t : ℕ) (there : m < length a.media) (below : t < transfers p m) where
    pub one : IsTransfer p order (places p) m t
    one = h.transferred m t there below

    pub who : (s i : ℕ) (x : Instr) → Communicates p m t s i x → Who m t s i x
    who s i x e = by (cases_eq s ((places p).transfer m t).sender) (cases_eq s ((places p).transfer m t).receiver)
      where
        at : (r j : ℕ) (y : Instr) → s ≡ r → Communicates p m t r j y → (i ≡ j) × (x ≡ y)
        at r j y f d = let u = subst (λ (k : ℕ). Communicates p m t k i x) f e in let q = same_communication m t r i j x y u d in
            (q, same_Some x y (sym u.stands ∙ ap (λ (k : ℕ). slice_get (turn p r) k) q ∙ d.stands))

        by : (s ≡ ((places p).transfer m t).sender) ⊎ (s ≡ ((places p).transfer m t).sender → ⊥) → (s ≡ ((places p).transfer m t).receiver)
            ⊎ (s ≡ ((places p).transfer m t).receiver → ⊥) → Who m t s i x
        by (inl f) q = let z = at ((places p).transfer m t).sender _ _ f one.sends in sends_it f z.0 z.1
        by (inr n) (inl f) = let z = at ((places p).transfer m t).receiver _ _ f one.receives in receives_it f z.0 z.1
        by (inr n) (inr k) = let z = one.others s i x e n k in waits_for_it z.0

    pub sender_low : operator p ((places p).transfer m t).sender < length a.operators
    sender_low = operator_low ((places p).transfer m t).sender ((places p).transfer m t).send_at _ one.sends.stands

    pub receiver_low : operator p ((places p).transfer m t).receiver < length a.operators
    receiver_low = operator_low ((places p).transfer m t).receiver ((places p).transfer m t).receive_at _ one.receives.stands

  -- a communication, with the transfer that it is part of
  pub record Part (s i : ℕ) (x : Instr) : Type 0 where
    pub m : ℕ
    pub there : m < length a.media
    pub below : communications p s i < transfers p m
    pub who_is : Who m (communications p s i) s i x

  pub part : (s i : ℕ) (x : Instr) → Stands p s i x → is_communication x ≡ true → Part s i x
  part s i x e f =
      let q = h.communicators s i x e f in
      let there = h.on_media s q.0 q.1 in
      let below : communications p s i < transfers p q.0 = let z = count_less is_communication (turn p s) i x e f in let y = h.counts s q.0 q.1 in omega arith in
      record { m = q.0; there = there; below = below; who_is = who q.0 (communications p s i) there below s i x (record { on = q.1; stands = e; is_one = f; number = refl }) }

  -- the operators that a communication names
  abbrev names_operators : Instr → Bool
  names_operators (Send b o) = nat_lt o (length a.operators)
  names_operators (Recv b o) = nat_lt o (length a.operators)
  names_operators (Sync o r) = nat_lt o (length a.operators) && nat_lt r (length a.operators)
  names_operators _ = true

  operators_there : (s i : ℕ) (x : Instr) → Stands p s i x → is_communication x ≡ true → names_operators x ≡ true
  operators_there s i x e f = let q = part s i x e f in by q (q.who_is)
    where
      by : (q : Part s i x) → Who q.m (communications p s i) s i x → names_operators x ≡ true
      by q (sends_it u v is) = ap names_operators is ∙ lt-ltb _ (length a.operators) (receiver_low q.m (communications p s i) q.there q.below)
      by q (receives_it u v is) = ap names_operators is ∙ lt-ltb _ (length a.operators) (sender_low q.m (communications p s i) q.there q.below)
      by q (waits_for_it is) = ap names_operators is
          ∙ and_from _ _ (lt-ltb _ (length a.operators) (sender_low q.m (communications p s i) q.there q.below))
          (lt-ltb _ (length a.operators) (receiver_low q.m (communications p s i) q.there q.below))

  module _ (few_pairs : length p.pairs ≤ 9223372036854775808) (few_buffers : length p.buffers ≤ 9223372036854775808) where
    pair_there : (q o : ℕ) → slice_get p.pairs q ≡ Some o → is_there (pairs_on o 0 p.pairs) q ≡ true
    pair_there q o e =
        let below = slice_get_within p.pairs q o e in
        and_from _ (is_small q) (ap (is_among (pairs_on o 0 p.pairs)) (let k : q ≡ 0 + q = omega arith in k) ∙ on_has o 0 q p.pairs e) (lt-ltb q 9223372036854775808 (omega (arith, below, few_pairs)))

    buffer_there : (b o : ℕ) → OnOperator b o → is_there (pairs_on o 0 (places_of p.buffers)) b ≡ true
    buffer_there b o it =
        let below = slice_get_within p.buffers b it.buffer it.stands in
        let own : slice_get (places_of p.buffers) b ≡ Some o = got_map (λ (x : Buffer). x.operator) p.buffers b it.buffer it.stands ∙ ap (λ (k : ℕ). Some k) it.on in
        and_from _ (is_small b) (ap (is_among (pairs_on o 0 (places_of p.buffers))) (let k : b ≡ 0 + b = omega arith in k) ∙ on_has o 0 b (places_of p.buffers) own)
        (lt-ltb b 9223372036854775808 (omega (arith, below, few_buffers)))

    abbrev Readable : ℕ → Instr → Type 0
    Readable o x = is_readable (length a.operators) (length g.vertices) (pairs_on o 0 p.pairs) (pairs_on o 0 (places_of p.buffers)) x ≡ true

    writes_pair : (s q : ℕ) → q < length p.pairs → s ≡ (writing p (reader p q).buffer).writer → is_there (pairs_on (operator p s) 0 p.pairs) q ≡ true
    writes_pair s q l same = let e = pair_of q l in pair_there q (operator p s) (e.owned ∙ ap (λ (k : ℕ). Some k) (writer_owner q e ∙ ap (operator p) (sym same)))

    reads_pair : (s q : ℕ) → q < length p.pairs → s ≡ (reader p q).sequence → is_there (pairs_on (operator p s) 0 p.pairs) q ≡ true
    reads_pair s q l same = let e = pair_of q l in pair_there q (operator p s) (e.owned ∙ ap (λ (k : ℕ). Some k) (reader_owner q e ∙ ap (operator p) (sym same)))

    turn_readable : (s i : ℕ) (x : Instr) → Stands p s i x → Readable (operator p s) x
    turn_readable s i (Suc0 q) e = let l = h.named s i (Suc0 q) e in writes_pair s q l ((h.pairs q l).take_empty.only s i e).0
    turn_readable s i (Suc1 q) e = let l = h.named s i (Suc1 q) e in reads_pair s q l ((h.pairs q l).take_full.only s i e).0
    turn_readable s i (Pre0 q) e = let l = h.named s i (Pre0 q) e in reads_pair s q l ((h.pairs q l).signal_empty.only s i e).0
    turn_readable s i (Pre1 q) e = let l = h.named s i (Pre1 q) e in writes_pair s q l ((h.pairs q l).signal_full.only s i e).0
    turn_readable s i (Send b o) e = let l = h.named s i (Send b o) e in
        and_from _ _ (buffer_there b (operator p s) (touched s i 0 b (Send b o) l e (inr (refl, refl)))) (operators_there s i (Send b o) e refl)
    turn_readable s i (Recv b o) e = let l = h.named s i (Recv b o) e in
        and_from _ _ (buffer_there b (operator p s) (touched s i 0 b (Recv b o) l e (inl (refl, refl)))) (operators_there s i (Recv b o) e refl)
    turn_readable s i (Sync o r) e = operators_there s i (Sync o r) e refl
    turn_readable s i (Call v ins outs) e = let l = h.named s i (Call v ins outs) e in
        and_from _ _
        (and_from _ _ (lt-ltb v (length g.vertices) l.0)
        (all_there (is_there (pairs_on (operator p s) 0 (places_of p.buffers))) ins
        (λ k b f. buffer_there b (operator p s) (touched s i k b (Call v ins outs) (l.1 k b (inl f)) e (inr f)))))
        (all_there (is_there (pairs_on (operator p s) 0 (places_of p.buffers))) outs (λ k b f. buffer_there b (operator p s) (touched s i k b (Call v ins outs) (l.1 k b (inr f)) e (inl f))))

    -- an instruction of a prologue signals a pair of which the sequence is the reader
    pub record Opens (s : ℕ) (x : Instr) : Type 0 where
      pub q : ℕ
      pub below : q < length p.pairs
      pub own : s ≡ (reader p q).sequence
      pub is : x ≡ Pre0 q

    many : length p.pairs ≡ length (readers p)
    many = sym (length-map p.pairs (λ (o : ℕ). Some o)) ∙ ap (λ (os : List (Option ℕ)). length os) h.numbered ∙ length-map (readers p) (λ (r : Reader). operator_of p r.buffer)

    pub opens : (s i : ℕ) (c : SeqCode) (x : Instr) → slice_get p.seqs s ≡ Some c → slice_get c.prologue i ≡ Some x → Opens s x
    opens s i c x e f =
        let below = slice_get_within p.seqs s c e in
        let whole : c.prologue ≡ opening_of p s = sym (ap prologue_of e) ∙ h.prologues s below in
        let b = in_block (signals_of p s) (length (readers p)) i x (ap (λ (l : List Instr). slice_get l i) (sym whole) ∙ f) in
        record {
          q = b.0;
          below = let m = many in let l = b.1 in omega (arith, m, l);
          own = by b.0 b.2 b.3 (cases_eq (reader p b.0).sequence s);
          is = from_repeated (Pre0 b.0) (opening_signals p s b.0) b.2 x b.3;
        }
      where
        by : (q j : ℕ) → slice_get (signals_of p s q) j ≡ Some x → ((reader p q).sequence ≡ s) ⊎ ((reader p q).sequence ≡ s → ⊥) → s ≡ (reader p q).sequence
        by q j k (inl same) = sym same
        by q j k (inr other) =
            let none : opening_signals p s q ≡ 0 = rw (ne_eqb (reader p q).sequence s other) refl in
            let z : slice_get (repeated (Pre0 q) 0) j ≡ Some x = ap (λ (n : ℕ). slice_get (repeated (Pre0 q) n) j) (sym none) ∙ k in absurd cc

    pub seqs_readable : list_all (λ (c : SeqCode). readable_at (length a.operators) (length g.vertices) p c.seq.operator c) p.seqs ≡ true
    seqs_readable = all_there (λ (c : SeqCode). readable_at (length a.operators) (length g.vertices) p c.seq.operator c) p.seqs each
      where
        each : (s : ℕ) (c : SeqCode) → slice_get p.seqs s ≡ Some c → readable_at (length a.operators) (length g.vertices) p c.seq.operator c ≡ true
        each s c e =
            let test : Instr → Bool = is_readable (length a.operators) (length g.vertices) (pairs_on c.seq.operator 0 p.pairs) (pairs_on c.seq.operator 0 (places_of p.buffers)) in
            let same : operator p s ≡ c.seq.operator = ap operator_in e in
            and_from _ _
            (all_there test c.prologue (λ i x f. let o = opens s i c x e f in ap test o.is ∙ subst (λ (k : ℕ). is_there (pairs_on k 0 p.pairs) o.q ≡ true) same (reads_pair s o.q o.below o.own)))
            (all_there test c.turn (λ i x f. subst (λ (k : ℕ). Readable k x) same (turn_readable s i x (ap (λ (o : Option SeqCode). slice_get (turn_of o) i) e ∙ f))))
