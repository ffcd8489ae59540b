-- What an instruction reads and writes, and which sequences wait for a buffer.
use Rattle.std.proofs.Common.{◌≡◌, ℕ, zero, suc, ◌+◌, ◌<◌, Bool, true, false, cond, nat_eq, List, [], ◌∷◌, ◌++◌, length, Some, refl, sym, ap, inl, inr, arith, ◌∙◌, eq-eqb}
use Rattle.std.specs.Prelude.{slice_get}
use Rattle.std.specs.List.{list_any}
use Rattle.std.proofs.lemmas.Bool.{false≢true, eqb-true, cases_eq, or_cases, or_left, or_right}
use Rattle.std.proofs.lemmas.Option.{same_Some}
use Rattle.executive_program.specs.declared.program.Instr.{Instr}
use Rattle.executive_program.specs.declared.program.Instr.TheVariants.{Call, Send, Recv}
use Rattle.executive_program.specs.declared.program.SeqCode.{SeqCode}
use Rattle.executive_program.specs.Blocks.{blocks, repeated}
use Rattle.executive_program.specs.Instructions.{reads, writes, Reader, waits_for, readers_from}
use Rattle.executive_program.specs.WellFormed.{WritesAt, ReadsAt}

-- some element of a list passes a test
pub any_at : {A : Type 0} (p : A → Bool) (xs : List A) (i : ℕ) (x : A) → slice_get xs i ≡ Some x → p x ≡ true → list_any p xs ≡ true
any_at p [] i x e t = absurd cc
any_at p (y ∷ xs) zero x e t = or_left (p y) (list_any p xs) (ap p (same_Some y x e) ∙ t)
any_at p (y ∷ xs) (suc i) x e t = or_right (p y) (list_any p xs) (any_at p xs i x e t)

pub any_of : {A : Type 0} (p : A → Bool) (xs : List A) → list_any p xs ≡ true → (i : ℕ) × (x : A) × (slice_get xs i ≡ Some x) × (p x ≡ true)
any_of p [] h = absurd (false≢true h)
any_of p (y ∷ xs) h = elim (or_cases (p y) (list_any p xs) h) [ inl t ↦ (0, y, refl, t) | inr t ↦ (let r = any_of p xs t in (suc r.0, r.1, r.2, r.3)) ]

-- what an instruction reads and writes, by place
pub reads_of : (b : ℕ) (x : Instr) → reads b x ≡ true → (k : ℕ) × ReadsAt x k b
reads_of b (Call v ins outs) h = let q = any_of (λ n. nat_eq n b) ins h in (q.0, q.2 ∙ ap (λ (n : ℕ). Some n) (eqb-true q.1 b q.3))
reads_of b (Send n o) h = (0, (eqb-true n b h, refl))
reads_of b _ h = absurd (false≢true h)

pub of_reads : (b k : ℕ) (x : Instr) → ReadsAt x k b → reads b x ≡ true
of_reads b k (Call v ins outs) h = any_at (λ n. nat_eq n b) ins k b h (eq-eqb b b refl)
of_reads b k (Send n o) h = eq-eqb n b h.0
of_reads b k _ h = absurd h

pub writes_of : (b : ℕ) (x : Instr) → writes b x ≡ true → (k : ℕ) × WritesAt x k b
writes_of b (Call v ins outs) h = let q = any_of (λ n. nat_eq n b) outs h in (q.0, q.2 ∙ ap (λ (n : ℕ). Some n) (eqb-true q.1 b q.3))
writes_of b (Recv n o) h = (0, (eqb-true n b h, refl))
writes_of b _ h = absurd (false≢true h)

pub of_writes : (b k : ℕ) (x : Instr) → WritesAt x k b → writes b x ≡ true
of_writes b k (Call v ins outs) h = any_at (λ n. nat_eq n b) outs k b h (eq-eqb b b refl)
of_writes b k (Recv n o) h = eq-eqb n b h.0
of_writes b k _ h = absurd h

-- entry i of the readers of buffer b, of which the first sequence has number s
pub record Waits (qs : List SeqCode) (s b : ℕ) (x : Reader) : Type 0 where
  pub at : ℕ
  pub code : SeqCode
  pub stands : slice_get qs at ≡ Some code
  pub waits : waits_for b code ≡ true
  pub is : x ≡ record { buffer = b; sequence = s + at }

pub reader_is : (b s t : ℕ) → s ≡ t → ◌≡◌ {A = Reader} (record { buffer = b; sequence = s }) (record { buffer = b; sequence = t })
reader_is b s t e = ap (λ (n : ℕ). record { buffer = b; sequence = n }) e

pub from_readers : (s : ℕ) (qs : List SeqCode) (b i : ℕ) (x : Reader) → slice_get (readers_from s qs b) i ≡ Some x → Waits qs s b x
from_readers s [] b i x e = absurd cc
from_readers s (q ∷ qs) b i x e = by (waits_for b q) refl i e (λ i. from_readers (suc s) qs b i x)
  where
    rest : Waits qs (suc s) b x → Waits (q ∷ qs) s b x
    rest r = record { at = suc r.at; code = r.code; stands = r.stands; waits = r.waits; is = r.is ∙ reader_is b (suc s + r.at) (s + suc r.at) (omega arith) }

    by : (t : Bool) → waits_for b q ≡ t → (i : ℕ) → slice_get (cond t (record { buffer = b; sequence = s } ∷ readers_from (suc s) qs b) (readers_from (suc s) qs b)) i ≡ Some x
        → ((i : ℕ) → slice_get (readers_from (suc s) qs b) i ≡ Some x → Waits qs (suc s) b x) → Waits (q ∷ qs) s b x
    by true t zero e r = record { at = 0; code = q; stands = refl; waits = t; is = sym (same_Some _ x e) ∙ reader_is b s (s + 0) (omega arith) }
    by true t (suc i) e r = rest (r i e)
    by false t i e r = rest (r i e)

pub to_readers : (s : ℕ) (qs : List SeqCode) (b k : ℕ) (q : SeqCode) → slice_get qs k ≡ Some q → waits_for b q ≡ true → (i : ℕ)
    × (slice_get (readers_from s qs b) i ≡ Some (record { buffer = b; sequence = s + k }))
to_readers s [] b k q e h = absurd cc
to_readers s (y ∷ ys) b zero q e h = let t : waits_for b y ≡ true = ap (waits_for b) (same_Some y q e) ∙ h in
    (0, rw t (ap (λ (r : Reader). Some r) (reader_is b s (s + 0) (omega arith))))
to_readers s (y ∷ ys) b (suc k) q e h = by (waits_for b y) (to_readers (suc s) ys b k q e h)
  where
    by : (t : Bool) → (i : ℕ) × (slice_get (readers_from (suc s) ys b) i ≡ Some (record { buffer = b; sequence = suc s + k }))
        → (i : ℕ) × (slice_get (cond t (record { buffer = b; sequence = s } ∷ readers_from (suc s) ys b) (readers_from (suc s) ys b)) i ≡ Some (record { buffer = b; sequence = s + suc k }))
    by true r = (suc r.0, r.1 ∙ ap (λ (r : Reader). Some r) (reader_is b (suc s + k) (s + suc k) (omega arith)))
    by false r = (r.0, r.1 ∙ ap (λ (r : Reader). Some r) (reader_is b (suc s + k) (s + suc k) (omega arith)))

before : {A : Type 0} (xs ys : List A) (i : ℕ) (x : A) → slice_get xs i ≡ Some x → slice_get (xs ++ ys) i ≡ Some x
before [] ys i x e = absurd cc
before (y ∷ xs) ys zero x e = e
before (y ∷ xs) ys (suc i) x e = before xs ys i x e

past : {A : Type 0} (xs ys : List A) (i : ℕ) (x : A) → slice_get ys i ≡ Some x → slice_get (xs ++ ys) (length xs + i) ≡ Some x
past [] ys i x e = ap (slice_get ys) (let z : 0 + i ≡ i = omega arith in z) ∙ e
past (y ∷ xs) ys i x e = ap (slice_get (y ∷ (xs ++ ys))) (let z : length (y ∷ xs) + i ≡ suc (length xs + i) = omega arith in z) ∙ past xs ys i x e

-- what stands in a block stands in the list of all blocks
pub in_all : {A : Type 0} (f : ℕ → List A) (n b k : ℕ) (x : A) → b < n → slice_get (f b) k ≡ Some x → (i : ℕ) × (slice_get (blocks f n) i ≡ Some x)
in_all f zero b k x l e = absurd (omega arith)
in_all f (suc n) b k x l e = elim (cases_eq b n) [
  | inl q ↦ (length (blocks f n) + k, past (blocks f n) (f n) k x (ap (λ (m : ℕ). slice_get (f m) k) (sym q) ∙ e))
  | inr q ↦ (let r = in_all f n b k x (omega arith) e in (r.0, before (blocks f n) (f n) r.0 x r.1))
]

pub from_repeated : {A : Type 0} (x : A) (n i : ℕ) (y : A) → slice_get (repeated x n) i ≡ Some y → y ≡ x
from_repeated x zero i y e = absurd cc
from_repeated x (suc n) zero y e = sym (same_Some x y e)
from_repeated x (suc n) (suc i) y e = from_repeated x n i y e
