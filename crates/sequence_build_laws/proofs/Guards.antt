-- The pairs of the plain order are those of the program, each buffer is written once and read after that, and each pair guards its buffer.
use Rattle.std.proofs.Common.{
  ◌≡◌,
  ℕ,
  zero,
  suc,
  ◌+◌,
  ◌-◌,
  ◌<◌,
  ◌≤◌,
  ◌⊎◌,
  Bool,
  true,
  false,
  ◌&&◌,
  not,
  cond,
  nat_eq,
  List,
  [],
  ◌∷◌,
  ◌++◌,
  length,
  map,
  take,
  drop,
  Option,
  Some,
  refl,
  sym,
  ap,
  subst,
  inl,
  inr,
  arith,
  ◌∙◌,
  eq-eqb,
}
use Rattle.std.specs.Prelude.{slice_get}
use Rattle.std.specs.List.{flat_map, list_any, position_or_len, filter}
use Rattle.std.specs.Cmp.Derive.{both_true}
use Rattle.std.proofs.lemmas.Bool.{false≢true, cases_lt, cases_eq, eqb-true, and_parts, not-true}
use Rattle.std.proofs.lemmas.Option.{same_Some, slice_get_within}
use Rattle.std.proofs.lemmas.List.{length-map, append-nil, length-take-le, take_all}
use Rattle.std.proofs.lemmas.Grind.{flat_map-append}
use Rattle.schedule.specs.declared.Seq.{Seq}
use Rattle.schedule.proofs.Copies.{same_bool}
use Rattle.executive_program.proofs.Reading.{any_at, any_of, reads_of, of_reads, writes_of, of_writes}
use Rattle.sequence_build_laws.specs.InTurn.{Standing, in_turn}
use Rattle.schedule.specs.Acts.{Copy}
use Rattle.executive_program.specs.declared.program.Instr.{Instr}
use Rattle.executive_program.specs.declared.program.Instr.TheVariants.{Suc0, Suc1, Pre0, Pre1, Call, Send, Recv, Sync}
use Rattle.executive_program.specs.declared.program.Buffer.{Buffer}
use Rattle.executive_program.specs.declared.program.SeqCode.{SeqCode}
use Rattle.executive_program.specs.declared.program.Program.{Program}
use Rattle.executive_program.specs.Blocks.{blocks, repeated}
use Rattle.executive_program.specs.Instructions.{Reader, reads, writes, readers, readers_from, waits_for, turn, prologue, operator, depth_of, depth_in, is_guarded}
use Rattle.executive_program.specs.Places.{places, reader, reader_or, writing, writer_of, written_at, output_at, takes_empty, takes_full, signals_empty, signals_full, signals_of, opening_of}
use Rattle.executive_program.specs.WellFormed.{Stands, WritesAt, ReadsAt, IsOnly, IsPair, operator_is, operator_of, place_in}
use Rattle.executive_program.proofs.Passing as passing
use Rattle.sequence_build_laws.specs.Serial.{Step, step, projection, codes, steps_at, reads_for, reads_first, reads_last, is_filled, pairs_where, block}
use Rattle.sequence_build_laws.specs.Built.{operator_in}
use Rattle.sequence_build_laws.proofs.Lists.{
  first,
  take_get,
  get_drop,
  get_some,
  from_map,
  map_at,
  in_flat,
  flat_at,
  starts,
  from_filter,
  filter_at,
  tally,
  from_turn,
  turn_at,
  take_next,
  numbers-append,
}
use Rattle.sequence_build_laws.proofs.Loops.{is_of, codes_at, codes_length, step_is, first_in, first_of_all}
use Rattle.sequence_build_laws.proofs.Lines as lines
use Rattle.sequence_build_laws.proofs.Lines.{
  is_plain,
  middle,
  Line,
  Pair,
  full_taken,
  empty_taken,
  full_signalled,
  empty_signalled,
  full_taken_there,
  empty_taken_there,
  full_signalled_there,
  empty_signalled_there,
  middle_there,
}
use Rattle.sequence_build_laws.proofs.Setting.{Setting, reads_plain, writes_plain, first_one, last_one, order, Here, here, there, before_of, same_here, earlier_here, line_of, Core, core_of, placed}

-- what stands in a projection stands in the order
pub in_projection : (xs : List Step) (s a : ℕ) (x : Instr) → slice_get (projection xs s) a ≡ Some x → (i : ℕ) × (slice_get xs i ≡ Some (step s x))
in_projection xs s a x e =
    let m = from_map (λ (y : Step). y.instr) (filter (is_of s) xs) a x e in
    let r = from_filter (is_of s) xs a m.it m.stands in
    (r.0, r.1 ∙ ap (λ (y : Step). Some y) (step_is m.it s x (eqb-true m.it.sequence s r.2) m.is))

pub projection_at : (xs : List Step) (i s : ℕ) (x : Instr) → slice_get xs i ≡ Some (step s x) → (a : ℕ) × (slice_get (projection xs s) a ≡ Some x)
projection_at xs i s x e =
    (tally (is_of s) (take i xs), map_at (λ (y : Step). y.instr) (filter (is_of s) xs) (tally (is_of s) (take i xs)) (step s x) (filter_at (is_of s) xs i (step s x) e (eq-eqb s s refl)))

-- Tests that no semaphore line passes.
module _ (pairs : List Reader) (plain : List Step) (test : Instr → Bool) (only : (x : Instr) → test x ≡ true → is_plain x ≡ true) (s : ℕ) where
  abbrev all_steps : List Step
  all_steps = flat_map (steps_at pairs) (in_turn plain)

  plain_line : (v : Standing Step) (k : ℕ) (x : Instr) → test x ≡ true → Line pairs v k x → v.it.instr ≡ x
  plain_line v k x h (lines.core e i) = sym e
  plain_line v k x h (lines.takes_full q r e i l) = absurd (false≢true (ap is_plain (sym e) ∙ only x h))
  plain_line v k x h (lines.takes_empty q r e i l) = absurd (false≢true (ap is_plain (sym e) ∙ only x h))
  plain_line v k x h (lines.signals_empty q r e i l) = absurd (false≢true (ap is_plain (sym e) ∙ only x h))
  plain_line v k x h (lines.signals_full q r e i l) = absurd (false≢true (ap is_plain (sym e) ∙ only x h))

  to_plain : list_any test (projection all_steps s) ≡ true → list_any test (projection plain s) ≡ true
  to_plain h =
      let a = any_of test (projection all_steps s) h in
      let i = in_projection all_steps s a.0 a.1 a.2 in
      let r = in_flat (steps_at pairs) (in_turn plain) i.0 (step s a.1) i.1 in
      let m = from_map (step r.it.it.sequence) (block pairs r.it) r.inner (step s a.1) r.stands in
      let t = from_turn [] plain r.at r.it r.is_it in
      let x : m.it ≡ a.1 = ap (λ (y : Step). y.instr) m.is in
      let l = plain_line r.it r.inner m.it (ap test x ∙ a.3) (lines.line pairs r.it r.inner m.it m.stands) in
      let there : slice_get plain r.at ≡ Some (step s a.1) = t.stands ∙ ap (λ (y : Step). Some y) (step_is r.it.it s a.1 (ap (λ (y : Step). y.sequence) m.is) (l ∙ x)) in
      let b = projection_at plain r.at s a.1 there in
      any_at test (projection plain s) b.0 a.1 b.1 a.3

  of_plain : list_any test (projection plain s) ≡ true → list_any test (projection all_steps s) ≡ true
  of_plain h =
      let a = any_of test (projection plain s) h in
      let i = in_projection plain s a.0 a.1 a.2 in
      let v = turn_at [] plain i.0 (step s a.1) i.1 in
      let t = from_turn [] plain i.0 v.0 v.1 in
      let same : v.0.it ≡ step s a.1 = same_Some v.0.it (step s a.1) (sym t.stands ∙ i.1) in
      let there = flat_at (steps_at pairs) (in_turn plain) i.0 (middle pairs v.0) v.0 (step v.0.it.sequence v.0.it.instr) v.1
      (map_at (step v.0.it.sequence) (block pairs v.0) (middle pairs v.0) v.0.it.instr (middle_there pairs v.0)) in
      let b = projection_at all_steps (starts (steps_at pairs) (in_turn plain) i.0 + middle pairs v.0) s a.1 (there ∙ ap (λ (y : Step). Some (step y.sequence y.instr)) same) in
      any_at test (projection all_steps s) b.0 a.1 b.1 a.3

  pub same_any : list_any test (projection all_steps s) ≡ list_any test (projection plain s)
  same_any = same_bool (list_any test (projection all_steps s)) (list_any test (projection plain s)) to_plain of_plain

readers_same : (f t g u : ℕ → List Instr) (b : ℕ)
    → ((s : ℕ) → (list_any (reads b) (t s) && not (list_any (writes b) (t s)))
    ≡ (list_any (reads b) (u s) && not (list_any (writes b) (u s)))) → (s : ℕ) (qs : List Seq)
    → readers_from s (codes f t s qs) b ≡ readers_from s (codes g u s qs) b
readers_same f t g u b h s [] = refl
readers_same f t g u b h s (q ∷ qs) = let here = h s in let rest = readers_same f t g u b h (suc s) qs in
    λ i. cond (here i) (record { buffer = b; sequence = s } ∷ rest i) (rest i)

blocks_same : {A : Type 0} (f g : ℕ → List A) → ((i : ℕ) → f i ≡ g i) → (n : ℕ) → blocks f n ≡ blocks g n
blocks_same f g h zero = refl
blocks_same f g h (suc n) = let e = blocks_same f g h n in let z = h n in λ i. e i ++ z i

pub map_same : {A B : Type 0} (f g : A → B) (xs : List A) → ((i : ℕ) (x : A) → slice_get xs i ≡ Some x → f x ≡ g x) → map f xs ≡ map g xs
map_same f g [] h = refl
map_same f g (x ∷ xs) h = let e = h 0 x refl in let z = map_same f g xs (λ i y k. h (suc i) y k) in λ i. e i ∷ z i

pub map-map : {A B C : Type 0} (f : B → C) (g : A → B) (xs : List A) → map f (map g xs) ≡ map (λ x. f (g x)) xs
map-map f g [] = refl
map-map f g (x ∷ xs) = ap (λ (l : List _). f (g x) ∷ l) (map-map f g xs)

-- readers by number
pub record Reads (s : ℕ) (codes : List SeqCode) (b : ℕ) (r : Reader) : Type 0 where
  pub at : ℕ
  pub code : SeqCode
  pub stands : slice_get codes at ≡ Some code
  pub waits : waits_for b code ≡ true
  pub sequence : r.sequence ≡ s + at
  pub buffer : r.buffer ≡ b

pub from_readers : (s : ℕ) (codes : List SeqCode) (b i : ℕ) (r : Reader) → slice_get (readers_from s codes b) i ≡ Some r → Reads s codes b r
from_readers s [] b i r e = absurd cc
from_readers s (q ∷ codes) b i r e = by (waits_for b q) refl i e (λ j. from_readers (suc s) codes b j r)
  where
    rest : Reads (suc s) codes b r → Reads s (q ∷ codes) b r
    rest h = record { at = suc h.at; code = h.code; stands = h.stands; waits = h.waits; sequence = (let z = h.sequence in omega arith); buffer = h.buffer }

    by : (t : Bool) → waits_for b q ≡ t → (i : ℕ) → slice_get (cond t (record { buffer = b; sequence = s } ∷ readers_from (suc s) codes b) (readers_from (suc s) codes b)) i ≡ Some r
        → ((j : ℕ) → slice_get (readers_from (suc s) codes b) j ≡ Some r → Reads (suc s) codes b r) → Reads s (q ∷ codes) b r
    by true t zero e h = let same = same_Some _ r e in
        record { at = 0; code = q; stands = refl; waits = t; sequence = (let z = ap (λ (x : Reader). x.sequence) same in omega arith); buffer = ap (λ (x : Reader). x.buffer) (sym same) }
    by true t (suc i) e h = rest (h i e)
    by false t i e h = rest (h i e)

pub record InBlocks {A : Type 0} (f : ℕ → List A) (n : ℕ) (x : A) : Type 0 where
  pub block : ℕ
  pub at : ℕ
  pub within : block < n
  pub stands : slice_get (f block) at ≡ Some x

pub in_blocks : {A : Type 0} (f : ℕ → List A) (n l : ℕ) (x : A) → slice_get (blocks f n) l ≡ Some x → InBlocks f n x
in_blocks f zero l x e = absurd cc
in_blocks f (suc n) l x e = elim (Rattle.sequence_build_laws.proofs.Lists.from_append (blocks f n) (f n) l x e) [
  | inl h ↦ (let r = in_blocks f n l x h in record { block = r.block; at = r.at; within = (let z = r.within in omega arith); stands = r.stands })
  | inr h ↦ record { block = n; at = h.at; within = omega arith; stands = h.stands }
]

output_is : (b : ℕ) (x : Instr) → writes b x ≡ true → WritesAt x (output_at b (Some x)) b
output_is b (Call v ins outs) h = let a = any_of (λ c. nat_eq c b) outs h in let f = first (λ c. nat_eq c b) outs a.0 a.1 a.2 a.3 in f.stands ∙ ap (λ (n : ℕ). Some n) (eqb-true f.it b f.passes)
output_is b (Recv n o) h = (eqb-true n b h, refl)
output_is b (Send n o) h = absurd (false≢true h)
output_is b (Sync n o) h = absurd (false≢true h)
output_is b (Suc0 q) h = absurd (false≢true h)
output_is b (Suc1 q) h = absurd (false≢true h)
output_is b (Pre0 q) h = absurd (false≢true h)
output_is b (Pre1 q) h = absurd (false≢true h)

module _ (S : Setting) where
  abbrev p : Program
  p = S.program

  -- the pairs are the program's
  waits_same : (b s : ℕ) → (list_any (reads b) (projection (flat_map (steps_at S.pairs) (in_turn S.plain)) s)
      && not (list_any (writes b) (projection (flat_map (steps_at S.pairs) (in_turn S.plain)) s)))
      ≡ (list_any (reads b) (projection S.plain s) && not (list_any (writes b) (projection S.plain s)))
  waits_same b s = let x = same_any S.pairs S.plain (reads b) (reads_plain b) s in let y = same_any S.pairs S.plain (writes b) (writes_plain b) s in λ i. x i && not (y i)

  pub readers_are : readers p ≡ S.pairs
  readers_are =
      (λ i. blocks (readers_from 0 (S.codes_are i)) (length p.buffers))
      ∙ blocks_same (readers_from 0 (codes S.prologues (projection (flat_map (steps_at S.pairs) (in_turn S.plain))) 0 S.seqs)) (readers_from 0 (codes (λ _. []) (projection S.plain) 0 S.seqs))
      (λ b. readers_same S.prologues (projection (flat_map (steps_at S.pairs) (in_turn S.plain))) (λ _. []) (projection S.plain) b (waits_same b) 0 S.seqs) (length p.buffers)
      ∙ (λ i. blocks (readers_from 0 (sym S.codes_without i)) ((S.buffers_many ∙ sym S.buffers_without) i))
      ∙ sym S.pairs_are

  -- What is known of the reader of a pair.
  pub record OfReader (q : ℕ) (r : Reader) : Type 0 where
    pub stands : slice_get S.pairs q ≡ Some r
    pub below : r.buffer < length S.copies
    pub reads_it : list_any (reads_for r) S.plain ≡ true
    pub no_write : (c k : ℕ) (y : Step) → slice_get S.plain c ≡ Some y → y.sequence ≡ r.sequence → WritesAt y.instr k r.buffer → ⊥

  pub reader_of : (q : ℕ) (r : Reader) → slice_get S.pairs q ≡ Some r → reader p q ≡ r
  reader_of q r e = ap reader_or (ap (λ (l : List Reader). slice_get l q) readers_are ∙ e)

  loop_is : (at : ℕ) (code : SeqCode) → slice_get (codes (λ _. []) (projection S.plain) 0 S.seqs) at ≡ Some code → code.turn ≡ projection S.plain at
  loop_is at code e =
      let l = slice_get_within (codes (λ _. []) (projection S.plain) 0 S.seqs) at code e in
      let q = get_some S.seqs at (let n = codes_length (λ _. []) (projection S.plain) 0 S.seqs in omega arith) in
      let c = codes_at (λ _. []) (projection S.plain) 0 at S.seqs at q.0 q.1 (omega arith) in
      ap (λ (x : SeqCode). x.turn) (same_Some code _ (sym e ∙ c))

  of_reader : (q : ℕ) (r : Reader) → slice_get S.pairs q ≡ Some r → OfReader q r
  of_reader q r e =
      let b = in_blocks (readers_from 0 S.without.seqs) (length S.without.buffers) q r (ap (λ (l : List Reader). slice_get l q) (sym S.pairs_are) ∙ e) in
      let w = from_readers 0 S.without.seqs b.block b.at r b.stands in
      let at : w.at ≡ r.sequence = (let z = w.sequence in omega arith) in
      let turned : w.code.turn ≡ projection S.plain r.sequence = loop_is w.at w.code (ap (λ (l : List SeqCode). slice_get l w.at) (sym S.codes_without) ∙ w.stands) ∙ ap (projection S.plain) at in
      let parts = and_parts (list_any (reads b.block) w.code.turn) (not (list_any (writes b.block) w.code.turn)) w.waits in
      let any : list_any (reads r.buffer) (projection S.plain r.sequence) ≡ true = (λ i. list_any (reads (w.buffer i)) (sym turned i)) ∙ parts.0 in
      let none : list_any (writes r.buffer) (projection S.plain r.sequence) ≡ false = (λ i. list_any (writes (w.buffer i)) (sym turned i)) ∙ not-true (list_any (writes b.block) w.code.turn) parts.1 in
      let a = any_of (reads r.buffer) (projection S.plain r.sequence) any in
      let i = in_projection S.plain r.sequence a.0 a.1 a.2 in
      record {
        stands = e;
        below = (let z = w.buffer in let y = b.within in let u = S.buffers_without in omega arith);
        reads_it = any_at (reads_for r) S.plain i.0 (step r.sequence a.1) i.1 (both_true (eq-eqb r.sequence r.sequence refl) a.3);
        no_write = λ c k y h s v.
            let j = projection_at S.plain c r.sequence y.instr (h ∙ ap (λ (z : Step). Some z) (step_is y r.sequence y.instr s refl)) in
            false≢true (sym none ∙ any_at (writes r.buffer) (projection S.plain r.sequence) j.0 y.instr j.1 (of_writes r.buffer k y.instr v));
      }

  pub of_pair : (q : ℕ) → q < length S.pairs → OfReader q (reader p q)
  of_pair q h = let r = get_some S.pairs q h in subst (OfReader q) (sym (reader_of q r.0 r.1)) (of_reader q r.0 r.1)

  -- What is known of the write of a buffer: where it stands is where it is looked for.
  pub record Written (b : ℕ) : Type 0 where
    pub instr : Instr
    pub stands : Stands p (writer_of p b) (written_at p b) instr
    pub passes : writes b instr ≡ true
    pub entry : Here S (writer_of p b) (written_at p b) instr
    pub core : Core S (writer_of p b) (written_at p b) instr entry
    pub step_there : slice_get S.plain entry.block_number ≡ Some (step (writer_of p b) instr)
    pub port : WritesAt instr (writing p b).port b

  pub written : (b : ℕ) → b < length S.copies → Written b
  written b h =
      let w = S.written b h in
      let k = placed S w.0 w.1 w.3 in
      let f = first_of_all p (writes b) w.1.sequence k.at w.1.instr k.stands (of_writes b w.2 w.1.instr w.4) in
      let e = here S (writer_of p b) (written_at p b) f.it f.stands in
      let c = core_of S (writer_of p b) (written_at p b) f.it e (writes_plain b f.it f.passes) in
      record {
        instr = f.it;
        stands = f.stands;
        passes = f.passes;
        entry = e;
        core = c;
        step_there = c.stands;
        port = subst (λ (n : ℕ). WritesAt f.it n b) (ap (output_at b) (sym f.stands)) (output_is b f.it f.passes);
      }

  -- any write of it is that one
  pub one_write : (b : ℕ) (w : Written b) (s a k : ℕ) (x : Instr) → Stands p s a x → WritesAt x k b → (s ≡ writer_of p b) × (a ≡ written_at p b) × (k ≡ (writing p b).port)
  one_write b w s a k x e v =
      let h = here S s a x e in
      let c = core_of S s a x h (writes_plain b x (of_writes b k x v)) in
      let o = S.written_once h.block_number w.entry.block_number k (writing p b).port b (step s x) (step (writer_of p b) w.instr) c.stands w.step_there v w.port in
      let it = lines.same_block S.pairs S.plain S.program S.prologues S.seqs S.codes_are S.low s a (writer_of p b) (written_at p b) x w.instr h w.entry o.0 in
      let same = same_here S s a (writer_of p b) (written_at p b) x w.instr h w.entry o.0 (c.inner ∙ ap (λ (v : Standing Step). middle S.pairs v) it ∙ sym w.core.inner) in
      (same.0, same.1, o.1)

  -- the block of the write
  pub write_block : (b : ℕ) (w : Written b) (c k : ℕ) (y : Step) → slice_get S.plain c ≡ Some y → WritesAt y.instr k b → c ≡ w.entry.block_number
  write_block b w c k y e v = (S.written_once c w.entry.block_number k (writing p b).port b y (step (writer_of p b) w.instr) e w.step_there v w.port).0

  pub read_block : (b : ℕ) (w : Written b) (c k : ℕ) (y : Step) → slice_get S.plain c ≡ Some y → ReadsAt y.instr k b → w.entry.block_number < c
  read_block b w c k y e r = let z = S.read_behind c k b y e r in let q = write_block b w z.0 z.2 z.1 z.4 z.5 in let l = z.3 in omega arith

  operator_here : (s : ℕ) (q : Seq) → slice_get S.seqs s ≡ Some q → operator p s ≡ q.operator
  operator_here s q e = Rattle.sequence_build_laws.proofs.Loops.operator_is p
      (flat_map (steps_at S.pairs) (in_turn S.plain)) S.prologues S.seqs S.codes_are
      (lines.serial_low S.pairs S.plain S.program S.prologues S.seqs S.codes_are S.low) s q e

  near : (b s a k : ℕ) (x : Instr) → Stands p s a x → WritesAt x k b ⊎ ReadsAt x k b → operator_is p (slice_get p.buffers b) (operator p s)
  near b s a k x e t =
      let h = here S s a x e in
      let c = core_of S s a x h (plainly t) in
      let n = S.near h.block_number k b (step s x) c.stands t in
      subst (λ (o : Option Buffer). operator_is p o (operator p s)) (sym (S.buffers_are b n.0 n.2)) (sym n.4 ∙ sym (operator_here s n.1 n.3))
    where
      plainly : WritesAt x k b ⊎ ReadsAt x k b → is_plain x ≡ true
      plainly (inl v) = writes_plain b x (of_writes b k x v)
      plainly (inr v) = reads_plain b x (of_reads b k x v)

  -- all that is asked of a buffer but its depth
  pub record ButDepth (b : ℕ) : Type 0 where
    pub instr : Instr
    pub stands : Stands p (writer_of p b) (written_at p b) instr
    pub writes : WritesAt instr (writing p b).port b
    pub only : (s a k : ℕ) (x : Instr) → Stands p s a x → WritesAt x k b → (s ≡ writer_of p b) × (a ≡ written_at p b) × (k ≡ (writing p b).port)
    pub near : (s a k : ℕ) (x : Instr) → Stands p s a x → WritesAt x k b ⊎ ReadsAt x k b → operator_is p (slice_get p.buffers b) (operator p s)
    pub own_reads : (a k : ℕ) (x : Instr) → Stands p (writer_of p b) a x → ReadsAt x k b → written_at p b < a

  pub but_depth : (b : ℕ) → b < length p.buffers → ButDepth b
  but_depth b h =
      let w = written b (let z = S.buffers_many in omega arith) in
      record {
        instr = w.instr;
        stands = w.stands;
        writes = w.port;
        only = one_write b w;
        near = near b;
        own_reads = λ a k x e r.
            let h = here S (writer_of p b) a x e in
            let c = core_of S (writer_of p b) a x h (reads_plain b x (of_reads b k x r)) in
            earlier_here S (writer_of p b) (written_at p b) a w.instr x w.entry h (inl (read_block b w h.block_number k (step (writer_of p b) x) c.stands r));
      }

  -- the buffer of a pair is guarded
  pub guarded_by : (q : ℕ) (r : Reader) → slice_get S.pairs q ≡ Some r → is_guarded p r.buffer ≡ true
  guarded_by q r e =
      let b = in_blocks (readers_from 0 p.seqs) (length p.buffers) q r (ap (λ (l : List Reader). slice_get l q) readers_are ∙ e) in
      let w = from_readers 0 p.seqs b.block b.at r b.stands in
      ap (is_guarded p) w.buffer ∙ any_at (waits_for b.block) p.seqs w.at w.code w.stands w.waits

  -- The lines of a pair: each stands in one block.
  module _ (q : ℕ) (r : Reader) (known : OfReader q r) (w : Written r.buffer) where
    filled_at : (s a : ℕ) (x : Instr) (h : Here S s a x) (n : ℕ) → n ≡ q → Pair S.pairs h.it (is_filled h.it) n → (h.block_number ≡ w.entry.block_number) × (h.it ≡ w.entry.it)
    filled_at s a x h n e o =
        let same : o.reader ≡ r = same_Some o.reader r (sym o.stands ∙ (ap (slice_get S.pairs) e ∙ known.stands)) in
        let v = writes_of r.buffer h.it.it.instr (ap (λ (z : Reader). writes z.buffer h.it.it.instr) (sym same) ∙ o.passes) in
        let b = write_block r.buffer w h.block_number v.0 h.it.it h.around.stands v.1 in
        (b, lines.same_block S.pairs S.plain S.program S.prologues S.seqs S.codes_are S.low s a (writer_of p r.buffer) (written_at p r.buffer) x w.instr h w.entry b)

    fills : Pair S.pairs w.entry.it (is_filled w.entry.it) q
    fills = record { reader = r; stands = known.stands; passes = ap (writes r.buffer) w.core.instr ∙ w.passes }

    -- the empty semaphore is taken in the block of the write, before it
    record InWrite (s a : ℕ) (x : Instr) (place : ℕ) : Type 0 where
      entry : Here S s a x
      number : entry.block_number ≡ w.entry.block_number
      inner : entry.inner ≡ place

    empty_taken_in : (s a : ℕ) → Stands p s a (Suc0 q) → InWrite s a (Suc0 q) (empty_taken S.pairs w.entry.it q)
    empty_taken_in s a e = by h (line_of S s a (Suc0 q) h)
      where
        h : Here S s a (Suc0 q)
        h = here S s a (Suc0 q) e

        by : (h : Here S s a (Suc0 q)) → Line S.pairs h.it h.inner (Suc0 q) → InWrite s a (Suc0 q) (empty_taken S.pairs w.entry.it q)
        by h (lines.takes_empty n o e k l) = let z : n ≡ q = cc in let f = filled_at s a (Suc0 q) h n z o in
            record { entry = h; number = f.0; inner = k ∙ (λ i. empty_taken S.pairs (f.1 i) (z i)) }
        by h (lines.takes_full n o e k l) = absurd cc
        by h (lines.signals_empty n o e k l) = absurd cc
        by h (lines.signals_full n o e k l) = absurd cc
        by h (lines.core e k) = absurd (false≢true (ap is_plain e ∙ S.plain_only h.block_number h.it.it h.around.stands))

    full_signalled_in : (s a : ℕ) → Stands p s a (Pre1 q) → InWrite s a (Pre1 q) (full_signalled S.pairs w.entry.it q)
    full_signalled_in s a e = by h (line_of S s a (Pre1 q) h)
      where
        h : Here S s a (Pre1 q)
        h = here S s a (Pre1 q) e

        by : (h : Here S s a (Pre1 q)) → Line S.pairs h.it h.inner (Pre1 q) → InWrite s a (Pre1 q) (full_signalled S.pairs w.entry.it q)
        by h (lines.signals_full n o e k l) = let z : n ≡ q = cc in let f = filled_at s a (Pre1 q) h n z o in
            record { entry = h; number = f.0; inner = k ∙ (λ i. full_signalled S.pairs (f.1 i) (z i)) }
        by h (lines.takes_full n o e k l) = absurd cc
        by h (lines.takes_empty n o e k l) = absurd cc
        by h (lines.signals_empty n o e k l) = absurd cc
        by h (lines.core e k) = absurd (false≢true (ap is_plain e ∙ S.plain_only h.block_number h.it.it h.around.stands))

    not_before : (c e : ℕ) (y : Step) → c < e → slice_get S.plain c ≡ Some y → reads_for r y ≡ true → list_any (reads_for r) (take e S.plain) ≡ false → ⊥
    not_before c e y l h t n = false≢true (sym n ∙ any_at (reads_for r) (take e S.plain) c y (take_get S.plain e c y l h) t)

    not_after : (c e : ℕ) (y : Step) → e < c → slice_get S.plain c ≡ Some y → reads_for r y ≡ true → list_any (reads_for r) (drop (suc e) S.plain) ≡ false → ⊥
    not_after c e y l h t n = let z : suc e + (c - suc e) ≡ c = omega arith in
        false≢true (sym n ∙ any_at (reads_for r) (drop (suc e) S.plain) (c - suc e) y (get_drop S.plain (suc e) (c - suc e) ∙ ap (slice_get S.plain) z ∙ h) t)

    -- the full semaphore is taken in the block of the first read, the empty one signalled in that of the last
    record InRead (s a : ℕ) (x : Instr) (place : Standing Step → ℕ) (rest : ℕ → List Step) : Type 0 where
      entry : Here S s a x
      inner : entry.inner ≡ place entry.it
      reads : reads_for r entry.it.it ≡ true
      alone : list_any (reads_for r) (rest entry.block_number) ≡ false

    abbrev first_places : Standing Step → ℕ
    first_places v = full_taken S.pairs v q

    abbrev last_places : Standing Step → ℕ
    last_places v = empty_signalled S.pairs v q

    abbrev steps_before : ℕ → List Step
    steps_before c = take c S.plain

    abbrev steps_after : ℕ → List Step
    steps_after c = drop (suc c) S.plain

    full_taken_in : (s a : ℕ) → Stands p s a (Suc1 q) → InRead s a (Suc1 q) first_places steps_before
    full_taken_in s a e = by (here S s a (Suc1 q) e) (line_of S s a (Suc1 q) (here S s a (Suc1 q) e))
      where
        by : (h : Here S s a (Suc1 q)) → Line S.pairs h.it h.inner (Suc1 q) → InRead s a (Suc1 q) first_places steps_before
        by h (lines.takes_full n o e k l) =
            let z : n ≡ q = cc in
            let same : o.reader ≡ r = same_Some o.reader r (sym o.stands ∙ (ap (slice_get S.pairs) z ∙ known.stands)) in
            let parts = and_parts (reads_for r h.it.it) (not (list_any (reads_for r) h.it.before)) (ap (reads_first h.it) (sym same) ∙ o.passes) in
            record {
              entry = h;
              inner = k ∙ ap (full_taken S.pairs h.it) z;
              reads = parts.0;
              alone = ap (list_any (reads_for r)) (sym h.around.before_is) ∙ not-true (list_any (reads_for r) h.it.before) parts.1;
            }
        by h (lines.takes_empty n o e k l) = absurd cc
        by h (lines.signals_empty n o e k l) = absurd cc
        by h (lines.signals_full n o e k l) = absurd cc
        by h (lines.core e k) = absurd (false≢true (ap is_plain e ∙ S.plain_only h.block_number h.it.it h.around.stands))

    empty_signalled_in : (s a : ℕ) → Stands p s a (Pre0 q) → InRead s a (Pre0 q) last_places steps_after
    empty_signalled_in s a e = by (here S s a (Pre0 q) e) (line_of S s a (Pre0 q) (here S s a (Pre0 q) e))
      where
        by : (h : Here S s a (Pre0 q)) → Line S.pairs h.it h.inner (Pre0 q) → InRead s a (Pre0 q) last_places steps_after
        by h (lines.signals_empty n o e k l) =
            let z : n ≡ q = cc in
            let same : o.reader ≡ r = same_Some o.reader r (sym o.stands ∙ (ap (slice_get S.pairs) z ∙ known.stands)) in
            let parts = and_parts (reads_for r h.it.it) (not (list_any (reads_for r) h.it.after)) (ap (reads_last h.it) (sym same) ∙ o.passes) in
            record {
              entry = h;
              inner = k ∙ ap (empty_signalled S.pairs h.it) z;
              reads = parts.0;
              alone = ap (list_any (reads_for r)) (sym h.around.after_is) ∙ not-true (list_any (reads_for r) h.it.after) parts.1;
            }
        by h (lines.takes_full n o e k l) = absurd cc
        by h (lines.takes_empty n o e k l) = absurd cc
        by h (lines.signals_full n o e k l) = absurd cc
        by h (lines.core e k) = absurd (false≢true (ap is_plain e ∙ S.plain_only h.block_number h.it.it h.around.stands))

    -- two places of one line are one
    one_place_of : (s a t b : ℕ) (x y : Instr) (h : Here S s a x) (k : Here S t b y) (place : Standing Step → ℕ) → h.block_number
        ≡ k.block_number → h.inner ≡ place h.it → k.inner ≡ place k.it → (s ≡ t) × (a ≡ b)
    one_place_of s a t b x y h k place e i j =
        same_here S s a t b x y h k e (i ∙ ap place (lines.same_block S.pairs S.plain S.program S.prologues S.seqs S.codes_are S.low s a t b x y h k e) ∙ sym j)

    one_full_taken : (s a t b : ℕ) → Stands p s a (Suc1 q) → Stands p t b (Suc1 q) → (s ≡ t) × (a ≡ b)
    one_full_taken s a t b e d = by (full_taken_in s a e) (full_taken_in t b d)
      where
        by : InRead s a (Suc1 q) first_places steps_before → InRead t b (Suc1 q) first_places steps_before → (s ≡ t) × (a ≡ b)
        by h k = elim (cases_lt h.entry.block_number k.entry.block_number) [
          | inl l ↦ absurd (not_before h.entry.block_number k.entry.block_number h.entry.it.it l h.entry.around.stands h.reads k.alone)
          | inr l ↦ elim (cases_eq h.entry.block_number k.entry.block_number) [
            | inl same ↦ one_place_of s a t b (Suc1 q) (Suc1 q) h.entry k.entry first_places same h.inner k.inner
            | inr other ↦ absurd (not_before k.entry.block_number h.entry.block_number k.entry.it.it (omega arith) k.entry.around.stands k.reads h.alone)
          ]
        ]

    one_empty_signalled : (s a t b : ℕ) → Stands p s a (Pre0 q) → Stands p t b (Pre0 q) → (s ≡ t) × (a ≡ b)
    one_empty_signalled s a t b e d = by (empty_signalled_in s a e) (empty_signalled_in t b d)
      where
        by : InRead s a (Pre0 q) last_places steps_after → InRead t b (Pre0 q) last_places steps_after → (s ≡ t) × (a ≡ b)
        by h k = elim (cases_lt h.entry.block_number k.entry.block_number) [
          | inl l ↦ absurd (not_after k.entry.block_number h.entry.block_number k.entry.it.it l k.entry.around.stands k.reads h.alone)
          | inr l ↦ elim (cases_eq h.entry.block_number k.entry.block_number) [
            | inl same ↦ one_place_of s a t b (Pre0 q) (Pre0 q) h.entry k.entry last_places same h.inner k.inner
            | inr other ↦ absurd (not_after h.entry.block_number k.entry.block_number h.entry.it.it (omega arith) h.entry.around.stands h.reads k.alone)
          ]
        ]

    one_empty_taken : (s a t b : ℕ) → Stands p s a (Suc0 q) → Stands p t b (Suc0 q) → (s ≡ t) × (a ≡ b)
    one_empty_taken s a t b e d = let h = empty_taken_in s a e in let k = empty_taken_in t b d in
        same_here S s a t b (Suc0 q) (Suc0 q) h.entry k.entry (h.number ∙ sym k.number) (h.inner ∙ sym k.inner)

    one_full_signalled : (s a t b : ℕ) → Stands p s a (Pre1 q) → Stands p t b (Pre1 q) → (s ≡ t) × (a ≡ b)
    one_full_signalled s a t b e d = let h = full_signalled_in s a e in let k = full_signalled_in t b d in
        same_here S s a t b (Pre1 q) (Pre1 q) h.entry k.entry (h.number ∙ sym k.number) (h.inner ∙ sym k.inner)

    -- the sequence of a reading step
    sequence_read : (y : Step) → reads_for r y ≡ true → y.sequence ≡ r.sequence
    sequence_read y h = eqb-true y.sequence r.sequence (and_parts (nat_eq y.sequence r.sequence) (reads r.buffer y.instr) h).0

    -- what stands in a block of this sequence stands in its loop
    abbrev StandsIn : ℕ → Instr → Type 0
    StandsIn s x = (a : ℕ) × Stands p s a x

    in_loop : (c k s : ℕ) (v : Standing Step) (x : Instr) → slice_get (in_turn S.plain) c ≡ Some v → slice_get (block S.pairs v) k ≡ Some x → v.it.sequence ≡ s → StandsIn s x
    in_loop c k s v x e h same = let t = there S c k v x e h in subst (λ (n : ℕ). StandsIn n x) same (t.at, t.stands)

    takes_full_there : StandsIn r.sequence (Suc1 q)
    takes_full_there =
        let f = first_one (reads_for r) S.plain known.reads_it in
        let v = turn_at [] S.plain f.at f.it f.stands in
        let t = from_turn [] S.plain f.at v.0 v.1 in
        let same : v.0.it ≡ f.it = same_Some v.0.it f.it (sym t.stands ∙ f.stands) in
        let reading : reads_for r v.0.it ≡ true = ap (reads_for r) same ∙ f.passes in
        let none : not (list_any (reads_for r) v.0.before) ≡ true = ap (λ (l : List Step). not (list_any (reads_for r) l)) t.before_is ∙ ap not f.alone in
        in_loop f.at (full_taken S.pairs v.0 q) r.sequence v.0 (Suc1 q) v.1
        (full_taken_there S.pairs v.0 q (record { reader = r; stands = known.stands; passes = both_true reading none })) (sequence_read v.0.it reading)

    signals_empty_there : StandsIn r.sequence (Pre0 q)
    signals_empty_there =
        let f = last_one (reads_for r) S.plain known.reads_it in
        let v = turn_at [] S.plain f.at f.it f.stands in
        let t = from_turn [] S.plain f.at v.0 v.1 in
        let same : v.0.it ≡ f.it = same_Some v.0.it f.it (sym t.stands ∙ f.stands) in
        let reading : reads_for r v.0.it ≡ true = ap (reads_for r) same ∙ f.passes in
        let none : not (list_any (reads_for r) v.0.after) ≡ true = ap (λ (l : List Step). not (list_any (reads_for r) l)) t.after_is ∙ ap not f.alone in
        in_loop f.at (empty_signalled S.pairs v.0 q) r.sequence v.0 (Pre0 q) v.1
        (empty_signalled_there S.pairs v.0 q (record { reader = r; stands = known.stands; passes = both_true reading none })) (sequence_read v.0.it reading)

    takes_empty_there : StandsIn (writer_of p r.buffer) (Suc0 q)
    takes_empty_there = in_loop w.entry.block_number (empty_taken S.pairs w.entry.it q) (writer_of p r.buffer) w.entry.it
        (Suc0 q) w.entry.is_it (empty_taken_there S.pairs w.entry.it q fills) w.entry.sequence

    signals_full_there : StandsIn (writer_of p r.buffer) (Pre1 q)
    signals_full_there = in_loop w.entry.block_number (full_signalled S.pairs w.entry.it q) (writer_of p r.buffer) w.entry.it
        (Pre1 q) w.entry.is_it (full_signalled_there S.pairs w.entry.it q fills) w.entry.sequence

    -- where it is looked for
    only_at : (test : Instr → Bool) (s : ℕ) (x : Instr) → ((y : Instr) → test y ≡ true → y ≡ x) → test x ≡ true
        → ((s a t b : ℕ) → Stands p s a x → Stands p t b x → (s ≡ t) × (a ≡ b)) → StandsIn s x → IsOnly p s (position_or_len test (turn p s)) x
    only_at test s x is t one e =
        let f = first_in p test s e.0 x e.1 t in
        let h : Stands p s (position_or_len test (turn p s)) x = f.stands ∙ ap (λ (y : Instr). Some y) (is f.it f.passes) in
        record { stands = h; only = λ u b k. one u b s (position_or_len test (turn p s)) k h }

    abbrev te : ℕ
    te = position_or_len (takes_empty q) (turn p (writer_of p r.buffer))

    abbrev sf : ℕ
    sf = position_or_len (signals_full q) (turn p (writer_of p r.buffer))

    abbrev tf : ℕ
    tf = position_or_len (takes_full q) (turn p r.sequence)

    abbrev se : ℕ
    se = position_or_len (signals_empty q) (turn p r.sequence)

    take_empty : IsOnly p (writer_of p r.buffer) te (Suc0 q)
    take_empty = only_at (takes_empty q) (writer_of p r.buffer) (Suc0 q) (passing.empty_taken q) (eq-eqb q q refl) one_empty_taken takes_empty_there

    signal_full : IsOnly p (writer_of p r.buffer) sf (Pre1 q)
    signal_full = only_at (signals_full q) (writer_of p r.buffer) (Pre1 q) (passing.full_signalled q) (eq-eqb q q refl) one_full_signalled signals_full_there

    take_full : IsOnly p r.sequence tf (Suc1 q)
    take_full = only_at (takes_full q) r.sequence (Suc1 q) (passing.full_taken q) (eq-eqb q q refl) one_full_taken takes_full_there

    signal_empty : IsOnly p r.sequence se (Pre0 q)
    signal_empty = only_at (signals_empty q) r.sequence (Pre0 q) (passing.empty_signalled q) (eq-eqb q q refl) one_empty_signalled signals_empty_there

    -- the places in the block
    empty_first : empty_taken S.pairs w.entry.it q < middle S.pairs w.entry.it
    empty_first = lines.empty_before_middle S.pairs w.entry.it q fills

    before_write : te < written_at p r.buffer
    before_write = let h = empty_taken_in (writer_of p r.buffer) te take_empty.stands in
        earlier_here S (writer_of p r.buffer) te (written_at p r.buffer) (Suc0 q) w.instr h.entry w.entry
        (inr (h.number, (let a = h.inner in let b = w.core.inner in let c = empty_first in omega arith)))

    after_write : written_at p r.buffer < sf
    after_write = let h = full_signalled_in (writer_of p r.buffer) sf signal_full.stands in
        earlier_here S (writer_of p r.buffer) (written_at p r.buffer) sf w.instr (Pre1 q) w.entry h.entry (inr (sym h.number, (let a = h.inner in let b = w.core.inner in omega arith)))

    full_first : place_in (order S) (writer_of p r.buffer) sf < place_in (order S) r.sequence tf
    full_first =
        let h = full_signalled_in (writer_of p r.buffer) sf signal_full.stands in
        let k = full_taken_in r.sequence tf take_full.stands in
        let x = reads_of r.buffer k.entry.it.it.instr (and_parts (nat_eq k.entry.it.it.sequence r.sequence) (reads r.buffer k.entry.it.it.instr) k.reads).1 in
        let z = read_block r.buffer w k.entry.block_number x.0 k.entry.it.it k.entry.around.stands x.1 in
        before_of S (writer_of p r.buffer) sf r.sequence tf (Pre1 q) (Suc1 q) h.entry k.entry (inl (let a = h.number in omega arith))

    reads_between : (a k : ℕ) (x : Instr) → Stands p r.sequence a x → ReadsAt x k r.buffer → (tf < a) × (a < se)
    reads_between a k x e v =
        let h = here S r.sequence a x e in
        let t = of_reads r.buffer k x v in
        let c = core_of S r.sequence a x h (reads_plain r.buffer x t) in
        let reading : reads_for r (step r.sequence x) ≡ true = both_true (eq-eqb r.sequence r.sequence refl) t in
        (after h c reading (full_taken_in r.sequence tf take_full.stands), before h c reading (empty_signalled_in r.sequence se signal_empty.stands))
      where
        after : (h : Here S r.sequence a x) → Core S r.sequence a x h → reads_for r (step r.sequence x) ≡ true → InRead r.sequence tf (Suc1 q) first_places steps_before → tf < a
        after h c t f = earlier_here S r.sequence tf a (Suc1 q) x f.entry h (by (cases_lt f.entry.block_number h.block_number))
          where
            by : (f.entry.block_number < h.block_number) ⊎ (h.block_number ≤ f.entry.block_number)
                → (f.entry.block_number < h.block_number) ⊎ ((f.entry.block_number ≡ h.block_number) × (f.entry.inner < h.inner))
            by (inl l) = inl l
            by (inr l) = elim (cases_eq h.block_number f.entry.block_number) [
              | inl same ↦ (let it = lines.same_block S.pairs S.plain S.program S.prologues S.seqs S.codes_are S.low r.sequence tf r.sequence a (Suc1 q) x f.entry h (sym same) in
                  let low = lines.full_before_middle S.pairs f.entry.it q
                  (record {
                    reader = r;
                    stands = known.stands;
                    passes =
                        both_true f.reads (ap not (ap (list_any (reads_for r)) f.entry.around.before_is ∙ f.alone));
                  }) in
                  inr (sym same, (let i = f.inner in let j = c.inner in let m = ap (λ (v : Standing Step). middle S.pairs v) it in omega arith)))
              | inr other ↦ absurd (not_before h.block_number f.entry.block_number (step r.sequence x) (omega arith) c.stands t f.alone)
            ]

        before : (h : Here S r.sequence a x) → Core S r.sequence a x h → reads_for r (step r.sequence x) ≡ true → InRead r.sequence se (Pre0 q) last_places steps_after → a < se
        before h c t f = earlier_here S r.sequence a se x (Pre0 q) h f.entry (by (cases_lt h.block_number f.entry.block_number))
          where
            by : (h.block_number < f.entry.block_number) ⊎ (f.entry.block_number ≤ h.block_number)
                → (h.block_number < f.entry.block_number) ⊎ ((h.block_number ≡ f.entry.block_number) × (h.inner < f.entry.inner))
            by (inl l) = inl l
            by (inr l) = elim (cases_eq h.block_number f.entry.block_number) [
              | inl same ↦ (let it = lines.same_block S.pairs S.plain S.program S.prologues S.seqs S.codes_are S.low r.sequence a r.sequence se x (Pre0 q) h f.entry same in
                  inr (same, (let i = f.inner in let j = c.inner in let m = ap (λ (v : Standing Step). middle S.pairs v) it in omega arith)))
              | inr other ↦ absurd (not_after h.block_number f.entry.block_number (step r.sequence x) (omega arith) c.stands t f.alone)
            ]

  pub is_pair : (q : ℕ) → q < length p.pairs → IsPair p (order S) (places p) q
  is_pair q h =
      let l : q < length S.pairs = (let z = ap (λ (l : List ℕ). length l) S.pair_operators in let y = length-map S.pairs (λ (r : Reader). operator_in (slice_get S.copies r.buffer)) in omega arith) in
      let k = of_pair q l in
      let w = written (reader p q).buffer k.below in
      record {
        take_empty = take_empty q (reader p q) k w;
        signal_full = signal_full q (reader p q) k w;
        take_full = take_full q (reader p q) k w;
        signal_empty = signal_empty q (reader p q) k w;
        before_write = before_write q (reader p q) k w;
        after_write = after_write q (reader p q) k w;
        full_first = full_first q (reader p q) k w;
        reads = reads_between q (reader p q) k w;
      }

  -- the pairs stand on the operators of their buffers
  buffer_operator : (b : ℕ) (c : Copy) → slice_get S.copies b ≡ Some c → operator_of p b ≡ Some c.operator
  buffer_operator b c e = rw (S.buffers_are b c e) refl

  pub pairs_numbered : map (λ o. Some o) p.pairs ≡ map (λ r. operator_of p r.buffer) (readers p)
  pairs_numbered =
      ap (λ (l : List ℕ). map (λ o. Some o) l) S.pair_operators
      ∙ map-map (λ (o : ℕ). Some o) (λ (r : Reader). operator_in (slice_get S.copies r.buffer)) S.pairs
      ∙ map_same (λ (r : Reader). Some (operator_in (slice_get S.copies r.buffer))) (λ (r : Reader). operator_of p r.buffer) S.pairs
      (λ q r e. let k = of_reader q r e in let c = get_some S.copies r.buffer k.below in
      ap (λ (o : Option Copy). Some (operator_in o)) c.1 ∙ sym (buffer_operator r.buffer c.0 c.1))
      ∙ ap (λ (l : List Reader). map (λ (r : Reader). operator_of p r.buffer) l) (sym readers_are)

  -- The prologues.
  opening_is : (s n : ℕ) → n ≤ length S.pairs → blocks (signals_of p s) n ≡ flat_map (λ q. repeated (Pre0 q) S.many) (pairs_where (take n S.pairs) (λ r. nat_eq r.sequence s))
  opening_is s zero h = refl
  opening_is s (suc n) h = by (get_some S.pairs n h) (opening_is s n (omega arith))
    where
      one_more : (r : Reader) (b : Bool) → b ≡ nat_eq r.sequence s → depth_of p r.buffer ≡ S.many
          → repeated (Pre0 n) (cond b (depth_of p r.buffer) 0) ≡ flat_map (λ q. repeated (Pre0 q) S.many) (cond b (n ∷ []) [])
      one_more r true e d = ap (repeated (Pre0 n)) d ∙ sym (append-nil (repeated (Pre0 n) S.many))
      one_more r false e d = refl

      by : (r : Reader) × (slice_get S.pairs n ≡ Some r) → blocks (signals_of p s) n ≡ flat_map (λ q. repeated (Pre0 q) S.many) (pairs_where (take n S.pairs) (λ r. nat_eq r.sequence s))
          → blocks (signals_of p s) (suc n) ≡ flat_map (λ q. repeated (Pre0 q) S.many) (pairs_where (take (suc n) S.pairs) (λ r. nat_eq r.sequence s))
      by (r, e) ih =
          let here : signals_of p s n ≡ repeated (Pre0 n) (cond (nat_eq r.sequence s) (depth_of p r.buffer) 0) =
          ap (λ (x : Reader). repeated (Pre0 n) (cond (nat_eq x.sequence s) (depth_of p x.buffer) 0)) (reader_of n r e) in
          let c = get_some S.copies r.buffer (of_reader n r e).below in
          let deep : depth_of p r.buffer ≡ S.many = ap depth_in (S.buffers_are r.buffer c.0 c.1) ∙ S.guarded n r e in
          let long : length (take n S.pairs) ≡ n = length-take-le n S.pairs (omega arith) in
          let rest : pairs_where (take (suc n) S.pairs) (λ r. nat_eq r.sequence s) ≡ pairs_where (take n S.pairs) (λ r. nat_eq r.sequence s) ++ cond (nat_eq r.sequence s) (n ∷ []) []
          = ap (λ (l : List Reader). pairs_where l (λ r. nat_eq r.sequence s)) (take_next S.pairs n r e) ∙ numbers-append (λ (r : Reader). nat_eq r.sequence s) 0 (take n S.pairs) (r ∷ [])
          ∙ ap (λ (k : ℕ). pairs_where (take n S.pairs) (λ r. nat_eq r.sequence s) ++ cond (nat_eq r.sequence s) (k ∷ []) []) (let z : 0 + length (take n S.pairs) ≡ n = omega arith in z) in
          (λ i. ih i ++ (here ∙ one_more r (nat_eq r.sequence s) refl deep) i)
          ∙ sym (flat_map-append (λ q. repeated (Pre0 q) S.many) (pairs_where (take n S.pairs) (λ r. nat_eq r.sequence s)) (cond (nat_eq r.sequence s) (n ∷ []) []))
          ∙ ap (flat_map (λ q. repeated (Pre0 q) S.many)) (sym rest)

  pub opens : (s : ℕ) → s < length p.seqs → prologue p s ≡ opening_of p s
  opens s h =
      Rattle.sequence_build_laws.proofs.Loops.prologue_is p (flat_map (steps_at S.pairs) (in_turn S.plain)) S.prologues S.seqs S.codes_are
      (lines.serial_low S.pairs S.plain S.program S.prologues S.seqs S.codes_are S.low) s h
      ∙ S.opened s
      ∙ ap (λ (l : List Reader). flat_map (λ q. repeated (Pre0 q) S.many) (pairs_where l (λ r. nat_eq r.sequence s))) (sym (take_all (length S.pairs) S.pairs (omega arith)))
      ∙ sym (opening_is s (length S.pairs) (omega arith))
      ∙ ap (λ (l : List Reader). blocks (signals_of p s) (length l)) (sym readers_are)
