-- The pairs that are found are the readers of the program, each with the places of its first read, its last read and its write.
use Rattle.std.proofs.Common.{
  ◌≡◌,
  ℕ,
  zero,
  suc,
  ◌+◌,
  ◌<◌,
  Bool,
  true,
  false,
  ◌&&◌,
  not,
  cond,
  nat_eq,
  List,
  [],
  ◌∷◌,
  ◌++◌,
  length,
  map,
  Option,
  Some,
  None,
  refl,
  sym,
  ap,
  subst,
  inl,
  inr,
  arith,
  ◌∙◌,
  eq-eqb,
  Vec,
  Global,
}
use Rattle.std.specs.Prelude.{slice_get, is_some}
use Rattle.std.specs.List.{list_any}
use Rattle.std.proofs.lemmas.Bool.{false≢true, eqb-true, cases_Bool, and_parts}
use Rattle.std.proofs.lemmas.Option.{same_Some}
use Rattle.std.proofs.lemmas.List.{map-append}
use Rattle.sequence_build_laws.proofs.Copies.{same_bool}
use Rattle.sequence_build_laws.specs.declared.Instr.{Instr}
use Rattle.sequence_build_laws.specs.declared.SeqCode.{SeqCode}
use Rattle.sequence_build_laws.specs.declared.Program.{Program}
use Rattle.sequence_build_laws.specs.Blocks.{blocks}
use Rattle.sequence_build_laws.specs.Instructions.{reads, writes, Reader, readers_from, readers}
use Rattle.sequence_build_laws.proofs.Reading.{any_at, any_of}
use Rattle.sequence_build_laws.proofs.Guards.{in_blocks}
use Rattle.sequence_build.specs.declared.uses.Use.{Use}
use Rattle.sequence_build.specs.declared.uses.Place.{Place}
use Rattle.sequence_build.specs.declared.pairs.Pair.{Pair}
use Rattle.sequence_build.specs.Uses.{use_of, uses_at, write_at, uses_by, write_by}
use Rattle.sequence_build.specs.Pairs.{is_in, pairs_with, pairs_below, pairs_at, plain_pairs}
use Rattle.sequence_build.specs.Around.{is_at}
use Rattle.sequence_build.proofs.Sequencing.{all_uses, uses_from_none, write_found, write_there}
use Rattle.sequence_build.proofs.Places.{first_from, last_from}
use Rattle.sequence_build.proofs.Deepening.{reader_of}

readers_same : (b s : ℕ) (w : Option Place) (qs : List SeqCode) → ((i : ℕ) (q : SeqCode) → slice_get qs i ≡ Some q → is_in w (s + i) ≡ list_any (writes b) q.turn)
    → map reader_of (pairs_with b w (all_uses (reads b) s qs)) ≡ readers_from s qs b
readers_same b s w [] h = refl
readers_same b s w (q ∷ qs) h =
    by (list_any (reads b) q.turn) (list_any (writes b) q.turn) (ap (is_in w) (let z : s ≡ s + 0 = omega arith in z) ∙ h 0 q refl)
    (readers_same b (suc s) w qs (λ i r e. ap (is_in w) (let z : suc s + i ≡ s + suc i = omega arith in z) ∙ h (suc i) r e))
  where
    u : Use
    u = use_of s (first_from (reads b) 0 q.turn) (last_from (reads b) 0 0 q.turn)

    rest : List Pair
    rest = pairs_with b w (all_uses (reads b) (suc s) qs)

    by : (r v : Bool) → is_in w s ≡ v → map reader_of (pairs_with b w (all_uses (reads b) (suc s) qs)) ≡ readers_from (suc s) qs b
        → map reader_of (pairs_with b w (cond r (use_of s (first_from (reads b) 0 q.turn) (last_from (reads b) 0 0 q.turn) ∷ []) [] ++ all_uses (reads b) (suc s) qs))
        ≡ cond (r && not v) (record { buffer = b; sequence = s } ∷ readers_from (suc s) qs b) (readers_from (suc s) qs b)
    by false v e h = h
    by true true e h =
        (λ i. map reader_of (cond (e i) (pairs_with b w (all_uses (reads b) (suc s) qs))
        (record { buffer = b; reader = s; first = first_from (reads b) 0 q.turn; last = last_from (reads b) 0 0 q.turn; write = w }
        ∷ pairs_with b w (all_uses (reads b) (suc s) qs)))) ∙ h
    by true false e h =
        (λ i. map reader_of (cond (e i) (pairs_with b w (all_uses (reads b) (suc s) qs))
        (record { buffer = b; reader = s; first = first_from (reads b) 0 q.turn; last = last_from (reads b) 0 0 q.turn; write = w }
        ∷ pairs_with b w (all_uses (reads b) (suc s) qs))))
        ∙ ap (λ (l : List Reader). record { buffer = b; sequence = s } ∷ l) h

blocks-same : {A : Type 0} (f g : ℕ → List A) (n : ℕ) → ((b : ℕ) → b < n → f b ≡ g b) → blocks f n ≡ blocks g n
blocks-same f g zero h = refl
blocks-same f g (suc n) h = let front = blocks-same f g n (λ b l. h b (omega arith)) in let back = h n (omega arith) in λ i. front i ++ back i

map-blocks : {A B : Type 0} (k : A → B) (f : ℕ → List A) (n : ℕ) → map k (blocks f n) ≡ blocks (λ b. map k (f b)) n
map-blocks k f zero = refl
map-blocks k f (suc n) = map-append k (blocks f n) (f n) ∙ ap (λ (l : List _). l ++ map k (f n)) (map-blocks k f n)

-- of a use
record OfUse (b s : ℕ) (qs : List SeqCode) (u : Use) : Type 0 where
  number : ℕ
  code : SeqCode
  is_code : slice_get qs number ≡ Some code
  sequence : u.sequence ≡ s + number
  reads_it : list_any (reads b) code.turn ≡ true
  first : u.first ≡ first_from (reads b) 0 code.turn
  last : u.last ≡ last_from (reads b) 0 0 code.turn

of_use : (b s : ℕ) (qs : List SeqCode) (k : ℕ) (u : Use) → slice_get (all_uses (reads b) s qs) k ≡ Some u → OfUse b s qs u
of_use b s [] k u e = absurd cc
of_use b s (q ∷ qs) k u e = by (list_any (reads b) q.turn) refl k e (λ j d. of_use b (suc s) qs j u d)
  where
    next : OfUse b (suc s) qs u → OfUse b s (q ∷ qs) u
    next r = record { number = suc r.number; code = r.code; is_code = r.is_code; sequence = (let z = r.sequence in omega arith); reads_it = r.reads_it; first = r.first; last = r.last }

    by : (r : Bool) → list_any (reads b) q.turn ≡ r → (k : ℕ)
        → slice_get (cond r (use_of s (first_from (reads b) 0 q.turn) (last_from (reads b) 0 0 q.turn) ∷ []) [] ++ all_uses (reads b) (suc s) qs) k ≡ Some u
        → ((j : ℕ) → slice_get (all_uses (reads b) (suc s) qs) j ≡ Some u → OfUse b (suc s) qs u) → OfUse b s (q ∷ qs) u
    by true t zero e r = let same = same_Some (use_of s (first_from (reads b) 0 q.turn) (last_from (reads b) 0 0 q.turn)) u e in
        record {
          number = 0;
          code = q;
          is_code = refl;
          sequence =
              (let z = ap (λ (v : Use). v.sequence) (sym same) in omega arith);
          reads_it = t;
          first =
              ap (λ (v : Use). v.first) (sym same);
          last = ap (λ (v : Use). v.last) (sym same);
        }
    by true t (suc k) e r = next (r k e)
    by false t k e r = next (r k e)

of_pairs : (b : ℕ) (w : Option Place) (us : List Use) (k : ℕ) (x : Pair) → slice_get (pairs_with b w us) k ≡ Some x
    → (j : ℕ) × (u : Use) × (slice_get us j ≡ Some u) × (record { buffer = b; reader = u.sequence; first = u.first; last = u.last; write = w } ≡ x)
of_pairs b w [] k x e = absurd cc
of_pairs b w (u ∷ us) k x e = by (is_in w u.sequence) k e (λ j d. of_pairs b w us j x d)
  where
    by : (t : Bool) (k : ℕ) → slice_get (cond t (pairs_with b w us) (record { buffer = b; reader = u.sequence; first = u.first; last = u.last; write = w } ∷ pairs_with b w us)) k ≡ Some x
        → ((j : ℕ) → slice_get (pairs_with b w us) j ≡ Some x → (i : ℕ) × (v : Use) × (slice_get us i ≡ Some v)
        × (record { buffer = b; reader = v.sequence; first = v.first; last = v.last; write = w } ≡ x))
        → (i : ℕ) × (v : Use) × (slice_get (u ∷ us) i ≡ Some v) × (record { buffer = b; reader = v.sequence; first = v.first; last = v.last; write = w } ≡ x)
    by true k e r = let h = r k e in (suc h.0, h.1, h.2, h.3)
    by false zero e r = (0, u, refl, same_Some _ x e)
    by false (suc k) e r = let h = r k e in (suc h.0, h.1, h.2, h.3)

-- each buffer is written by one instruction at most
abbrev pub WritesOnce : List SeqCode → Type 0
WritesOnce qs = (b s a t c : ℕ) (q r : SeqCode) (x y : Instr) → slice_get qs s ≡ Some q → slice_get q.turn a ≡ Some x → slice_get qs t ≡ Some r → slice_get r.turn c ≡ Some y
    → writes b x ≡ true → writes b y ≡ true → (s ≡ t) × (a ≡ c)

module _ (p : Program) where
  -- of a pair
  pub record OfPair (x : Pair) : Type 0 where
    pub code : SeqCode
    pub is_code : slice_get p.seqs x.reader ≡ Some code
    pub reads_it : list_any (reads x.buffer) code.turn ≡ true
    pub first : x.first ≡ first_from (reads x.buffer) 0 code.turn
    pub last : x.last ≡ last_from (reads x.buffer) 0 0 code.turn
    pub write : x.write ≡ write_by (writes x.buffer) 0 p.seqs None

  pub of_pair : (k : ℕ) (x : Pair) → slice_get (plain_pairs p) k ≡ Some x → OfPair x
  of_pair k x e =
      let h = in_blocks (pairs_at p) (length p.buffers) k x e in
      let d = of_pairs h.block (write_by (writes h.block) 0 p.seqs None) (uses_by (reads h.block) 0 p.seqs []) h.at x h.stands in
      let u = of_use h.block 0 p.seqs d.0 d.1 (ap (λ (l : List Use). slice_get l d.0) (sym (uses_from_none (reads h.block) p.seqs)) ∙ d.2) in
      subst OfPair d.3 (record {
        code = u.code;
        is_code = ap (slice_get p.seqs) (let z = u.sequence in omega arith) ∙ u.is_code;
        reads_it = u.reads_it;
        first = u.first;
        last = u.last;
        write = refl;
      })

  module _ (once : WritesOnce p.seqs) where
    -- what is noted of a write
    pub written_is : (b s a : ℕ) (q : SeqCode) (x : Instr) → slice_get p.seqs s ≡ Some q → slice_get q.turn a ≡ Some x → writes b x ≡ is_at (write_by (writes b) 0 p.seqs None) s a
    written_is b s a q x e h = by (write_by (writes b) 0 p.seqs None) refl
      where
        by : (w : Option Place) → write_by (writes b) 0 p.seqs None ≡ w → writes b x ≡ is_at w s a
        by None d = elim (cases_Bool (writes b x)) [
          | inl t ↦ absurd (false≢true (ap is_some (sym d) ∙ write_there (writes b) 0 p.seqs None s a x q e h t))
          | inr t ↦ t
        ]
        by (Some z) d = elim (write_found (writes b) 0 p.seqs None z d) [
          | inl n ↦ absurd cc
          | inr f ↦ same_bool (writes b x) (nat_eq z.sequence s && nat_eq z.at a)
              (λ t. let same = once b s a f.number z.at q f.code x f.instr e h f.is_code f.stands t f.passes in
              let n = f.sequence in let i = same.0 in let j = same.1 in
              (λ k. eq-eqb z.sequence s (omega arith) k && eq-eqb z.at a (omega arith) k))
              (λ t. let parts = and_parts (nat_eq z.sequence s) (nat_eq z.at a) t in
              let m = eqb-true z.sequence s parts.0 in let l = eqb-true z.at a parts.1 in let n = f.sequence in
              let number : s ≡ f.number = omega arith in
              let code : q ≡ f.code = same_Some q f.code (sym e ∙ ap (slice_get p.seqs) number ∙ f.is_code) in
              let instr : x ≡ f.instr = same_Some x f.instr (sym h ∙ (λ i. slice_get (code i).turn (sym l i)) ∙ f.stands) in
              ap (writes b) instr ∙ f.passes)
        ]

    pub writer_is : (b s : ℕ) (q : SeqCode) → slice_get p.seqs s ≡ Some q → is_in (write_by (writes b) 0 p.seqs None) s ≡ list_any (writes b) q.turn
    writer_is b s q e = by (write_by (writes b) 0 p.seqs None) refl
      where
        by : (w : Option Place) → write_by (writes b) 0 p.seqs None ≡ w → is_in w s ≡ list_any (writes b) q.turn
        by None d = elim (cases_Bool (list_any (writes b) q.turn)) [
          | inl t ↦ (let k = any_of (writes b) q.turn t in absurd (false≢true (ap is_some (sym d) ∙ write_there (writes b) 0 p.seqs None s k.0 k.1 q e k.2 k.3)))
          | inr t ↦ sym t
        ]
        by (Some z) d = elim (write_found (writes b) 0 p.seqs None z d) [
          | inl n ↦ absurd cc
          | inr f ↦ same_bool (nat_eq z.sequence s) (list_any (writes b) q.turn)
              (λ t. let m = eqb-true z.sequence s t in let n = f.sequence in let number : s ≡ f.number = omega arith in
              let code : f.code ≡ q = same_Some f.code q (sym f.is_code ∙ ap (slice_get p.seqs) (sym number) ∙ e) in
              any_at (writes b) q.turn z.at f.instr (ap (λ (c : SeqCode). slice_get c.turn z.at) (sym code) ∙ f.stands) f.passes)
              (λ t. let k = any_of (writes b) q.turn t in
              let same = once b s k.0 f.number z.at q f.code k.1 f.instr e k.2 f.is_code f.stands k.3 f.passes in
              let n = f.sequence in let i = same.0 in eq-eqb z.sequence s (omega arith))
        ]

    pub readers_are : map reader_of (plain_pairs p) ≡ readers p
    readers_are =
        map-blocks reader_of (pairs_at p) (length p.buffers)
        ∙ blocks-same (λ b. map reader_of (pairs_at p b)) (readers_from 0 p.seqs) (length p.buffers) (λ b l.
        ap (λ (us : List Use). map reader_of (pairs_with b (write_by (writes b) 0 p.seqs None) us)) (uses_from_none (reads b) p.seqs)
        ∙ readers_same b 0 (write_by (writes b) 0 p.seqs None) p.seqs (λ i q e. ap (is_in (write_by (writes b) 0 p.seqs None)) (let z : 0 + i ≡ i = omega arith in z) ∙ writer_is b i q e))

-- the pairs of tables that say what each buffer's uses are
pub below_is : (p : Program) (uses : List (Vec Use Global)) (writers : List (Option Place)) (n : ℕ) → n ≡ length p.buffers
    → ((b : ℕ) → b < length p.buffers → uses_at uses b ≡ uses_by (reads b) 0 p.seqs []) → ((b : ℕ) → b < length p.buffers → write_at writers b ≡ write_by (writes b) 0 p.seqs None)
    → pairs_below uses writers n ≡ plain_pairs p
below_is p uses writers n e h k =
    ap (pairs_below uses writers) e
    ∙ blocks-same (λ b. pairs_with b (write_at writers b) (uses_at uses b)) (pairs_at p) (length p.buffers) (λ b l. λ i. pairs_with b (k b l i) (h b l i))
