-- The signals of one pair more are passed, or the prologue is not that which its sequence has.
use Rattle.std.proofs.Common.{
  ◌≡◌,
  ◌≢◌,
  ℕ,
  zero,
  suc,
  ◌+◌,
  ◌<◌,
  ◌≤◌,
  ◌⊎◌,
  Bool,
  true,
  false,
  cond,
  List,
  [],
  ◌∷◌,
  ◌++◌,
  length,
  take,
  drop,
  replicate,
  refl,
  sym,
  ap,
  subst,
  inl,
  inr,
  arith,
  ◌∙◌,
  length-append,
  length-drop,
  append_assoc,
  eq-eqb,
  append-nil,
}
use Rattle.std.specs.Prelude.{slice_index, slice_set, nat_le}
use Rattle.std.specs.List.{list_all}
use Rattle.std.specs.Cmp.Derive.{both_true}
use Rattle.std.proofs.lemmas.Bool.{false≢true, and_parts, cases_eq, cases_lt, leb-true, le-leb, eqb-true, ne_eqb}
use Rattle.std.proofs.lemmas.List.{take_all}
use Rattle.std.proofs.Math.ListN.{length-set}
use Rattle.executive_program.specs.declared.program.Instr.{Instr}
use Rattle.executive_program.specs.declared.program.Instr.TheVariants.{Pre0}
use Rattle.executive_program.specs.declared.program.Program.{Program}
use Rattle.executive_program.specs.Blocks.{blocks, repeated}
use Rattle.executive_program.specs.Instructions.{depth_of, prologue, readers}
use Rattle.executive_program.specs.Places.{opening_signals, reader, signals_empty, signals_of, AreOpened}
use Rattle.executive_program.proofs.Passing.{empty_signalled}
use Rattle.program_walks.specs.Walks.{all_below}
use Rattle.program_walks.proofs.ListTests.{below_of, of_below}
use Rattle.program_tables.specs.Openings.{IsPassed, is_at_end, opens_next}

-- lists that begin alike
take_none : {A : Type 0} (k : ℕ) → ◌≡◌ {A = List A} (take k []) []
take_none zero = refl
take_none (suc k) = refl

none : {A : Type 0} (k n : ℕ) → ◌≡◌ {A = List A} (take k []) (take n [])
none k n = take_none k ∙ sym (take_none n)

take_more : {A : Type 0} (c n : ℕ) (xs : List A) → take (c + n) xs ≡ take c xs ++ take n (drop c xs)
take_more zero n xs = ap (λ (k : ℕ). take k xs) (let z : 0 + n ≡ n = omega arith in z)
take_more (suc c) n [] = none (suc c + n) n
take_more (suc c) n (x ∷ xs) = ap (λ (k : ℕ). take k (x ∷ xs)) (let z : suc c + n ≡ suc (c + n) = omega arith in z) ∙ ap (λ ys. x ∷ ys) (take_more c n xs)

drop_append : {A : Type 0} (xs ys : List A) → drop (length xs) (xs ++ ys) ≡ ys
drop_append [] ys = refl
drop_append (x ∷ xs) ys = drop_append xs ys

take_append : {A : Type 0} (xs ys : List A) → take (length xs) (xs ++ ys) ≡ xs
take_append [] ys = refl
take_append (x ∷ xs) ys = ap (λ zs. x ∷ zs) (take_append xs ys)

-- what a slice of a list of numbers gives back
pub lent : (n : ℕ) (xs ys : List ℕ) → n ≡ length xs → take n (xs ++ ys) ≡ xs
lent n xs ys e = ap (λ (k : ℕ). take k (xs ++ ys)) e ∙ take_append xs ys

length_take : {A : Type 0} (c : ℕ) (xs : List A) → c ≤ length xs → length (take c xs) ≡ c
length_take zero xs l = refl
length_take (suc c) [] l = absurd (omega arith)
length_take (suc c) (x ∷ xs) l = ap (λ (k : ℕ). suc k) (length_take c xs (omega arith))

-- signals of one pair
signals_are : (q n : ℕ) (xs : List Instr) → opens_next q n xs ≡ true → take n xs ≡ repeated (Pre0 q) n
signals_are q n xs h = by n xs (leb-true n (length xs) (and_parts (nat_le n (length xs)) (list_all (signals_empty q) (take n xs)) h).0)
    (and_parts (nat_le n (length xs)) (list_all (signals_empty q) (take n xs)) h).1
  where
    by : (n : ℕ) (xs : List Instr) → n ≤ length xs → list_all (signals_empty q) (take n xs) ≡ true → take n xs ≡ repeated (Pre0 q) n
    by zero xs l e = refl
    by (suc n) [] l e = absurd (omega arith)
    by (suc n) (x ∷ xs) l e =
        let r = and_parts (signals_empty q x) (list_all (signals_empty q) (take n xs)) e in
        let one = empty_signalled q x r.0 in
        let rest = by n xs (omega arith) r.1 in
        λ i. one i ∷ rest i

repeated_length : (x : Instr) (n : ℕ) → length (repeated x n) ≡ n
repeated_length x zero = refl
repeated_length x (suc n) = ap (λ (k : ℕ). suc k) (repeated_length x n)

are_signals : (q n : ℕ) (rest : List Instr) → opens_next q n (repeated (Pre0 q) n ++ rest) ≡ true
are_signals q n rest = both_true
    (le-leb n (length (repeated (Pre0 q) n ++ rest)) (let a = length-append (repeated (Pre0 q) n) rest in let b = repeated_length (Pre0 q) n in omega arith))
    (ap (list_all (signals_empty q)) (ap (λ (k : ℕ). take k (repeated (Pre0 q) n ++ rest)) (sym (repeated_length (Pre0 q) n)) ∙ take_append (repeated (Pre0 q) n) rest) ∙ each n)
  where
    each : (n : ℕ) → list_all (signals_empty q) (repeated (Pre0 q) n) ≡ true
    each zero = refl
    each (suc n) = both_true (eq-eqb q q refl) (each n)

-- all blocks begin with the first ones
begins : {A : Type 0} (f : ℕ → List A) (n m : ℕ) → n ≤ m → (rest : List A) × (blocks f m ≡ blocks f n ++ rest)
begins f n zero l = ([], ap (blocks f) (let z : 0 ≡ n = omega arith in z) ∙ sym (append-nil (blocks f n)))
begins f n (suc m) l = elim (cases_lt m n) [
  | inl h ↦ ([], ap (blocks f) (let z : suc m ≡ n = omega arith in z) ∙ sym (append-nil (blocks f n)))
  | inr h ↦ (let r = begins f n m h in (r.0 ++ f m, ap (λ xs. xs ++ f m) r.1 ∙ append_assoc (blocks f n) r.0 (f m)))
]

module _ (p : Program) (q : ℕ) where
  -- how often sequence s signals for pair q
  own : (s : ℕ) → (reader p q).sequence ≡ s → opening_signals p s q ≡ depth_of p (reader p q).buffer
  own s e = ap (λ (b : Bool). cond b (depth_of p (reader p q).buffer) 0) (eq-eqb (reader p q).sequence s e)

  other : (s : ℕ) → (reader p q).sequence ≢ s → opening_signals p s q ≡ 0
  other s h = ap (λ (b : Bool). cond b (depth_of p (reader p q).buffer) 0) (ne_eqb (reader p q).sequence s h)

  module _ (passed : List ℕ) (h : IsPassed p q passed) where
    rest_of : (s : ℕ) → List Instr
    rest_of s = drop (slice_index passed s) (prologue p s)

    others_same : (s : ℕ) → s < length p.seqs → (reader p q).sequence ≢ s → take (slice_index passed s) (prologue p s) ≡ blocks (signals_of p s) (q + 1)
    others_same s l n =
        h.signals s l ∙ sym (append-nil (blocks (signals_of p s) q)) ∙ ap (λ (k : ℕ). blocks (signals_of p s) q ++ repeated (Pre0 q) k) (sym (other s n))
        ∙ ap (blocks (signals_of p s)) (let z : suc q ≡ q + 1 = omega arith in z)

    -- a reader that is no sequence has no prologue
    pub passes_none : length passed ≤ (reader p q).sequence → IsPassed p (q + 1) passed
    passes_none l = record { many = h.many; within = h.within; signals = λ s k. others_same s k (λ e. let m = h.many in absurd (omega arith)) }

    pub passes : (s : ℕ) → (reader p q).sequence ≡ s → s < length passed
        → opens_next q (depth_of p (reader p q).buffer) (drop (slice_index passed s) (prologue p s)) ≡ true
        → IsPassed p (q + 1) (slice_set passed s (slice_index passed s + depth_of p (reader p q).buffer))
    passes s e l o = record {
      many = length-set passed s (slice_index passed s + depth_of p (reader p q).buffer) ∙ h.many;
      within = λ t k. within t k (cases_eq t s);
      signals = λ t k. signals t k (cases_eq t s);
    }
      where
        at_s : slice_index (slice_set passed s (slice_index passed s + depth_of p (reader p q).buffer)) s ≡ slice_index passed s + depth_of p (reader p q).buffer
        at_s = set_same passed s (slice_index passed s + depth_of p (reader p q).buffer) l
          where
            set_same : (xs : List ℕ) (i v : ℕ) → i < length xs → slice_index (slice_set xs i v) i ≡ v
            set_same [] i v l = absurd (omega arith)
            set_same (x ∷ xs) zero v l = refl
            set_same (x ∷ xs) (suc i) v l = set_same xs i v (omega arith)

        at_other : (t : ℕ) → t ≢ s → slice_index (slice_set passed s (slice_index passed s + depth_of p (reader p q).buffer)) t ≡ slice_index passed t
        at_other t n = set_other passed s t (slice_index passed s + depth_of p (reader p q).buffer) n
          where
            set_other : (xs : List ℕ) (i j v : ℕ) → j ≢ i → slice_index (slice_set xs i v) j ≡ slice_index xs j
            set_other [] i j v h = refl
            set_other (x ∷ xs) zero zero v h = absurd (h refl)
            set_other (x ∷ xs) zero (suc j) v h = refl
            set_other (x ∷ xs) (suc i) zero v h = refl
            set_other (x ∷ xs) (suc i) (suc j) v h = set_other xs i j v (λ e. h (ap (λ (n : ℕ). suc n) e))

        few : depth_of p (reader p q).buffer ≤ length (drop (slice_index passed s) (prologue p s))
        few = leb-true (depth_of p (reader p q).buffer) (length (drop (slice_index passed s) (prologue p s)))
            (and_parts (nat_le (depth_of p (reader p q).buffer) (length (drop (slice_index passed s) (prologue p s))))
            (list_all (signals_empty q) (take (depth_of p (reader p q).buffer) (drop (slice_index passed s) (prologue p s)))) o).0

        low : s < length p.seqs
        low = let m = h.many in omega arith

        within : (t : ℕ) → t < length p.seqs → (t ≡ s) ⊎ (t ≡ s → ⊥) → slice_index (slice_set passed s (slice_index passed s + depth_of p (reader p q).buffer)) t ≤ length (prologue p t)
        within t k (inl same) = let a = ap (slice_index (slice_set passed s (slice_index passed s + depth_of p (reader p q).buffer))) same
            ∙ at_s in let b = ap (λ (u : ℕ). length (prologue p u)) same in let c = few in let d = h.within s low in
            let n = length-drop (slice_index passed s) (prologue p s) in omega arith
        within t k (inr n) = let a = at_other t n in let b = h.within t k in omega arith

        signals : (t : ℕ) → t < length p.seqs → (t ≡ s) ⊎ (t ≡ s → ⊥)
            → take (slice_index (slice_set passed s (slice_index passed s + depth_of p (reader p q).buffer)) t) (prologue p t) ≡ blocks (signals_of p t) (q + 1)
        signals t k (inl same) =
            let P : ℕ → Type 0 = λ u. take (slice_index (slice_set passed s (slice_index passed s + depth_of p (reader p q).buffer)) u) (prologue p u) ≡ blocks (signals_of p u) (q + 1) in
            subst P (sym same)
            (ap (λ (n : ℕ). take n (prologue p s)) at_s ∙ take_more (slice_index passed s) (depth_of p (reader p q).buffer) (prologue p s)
            ∙ (λ i. h.signals s low i ++ signals_are q (depth_of p (reader p q).buffer) (drop (slice_index passed s) (prologue p s)) o i)
            ∙ ap (λ (n : ℕ). blocks (signals_of p s) q ++ repeated (Pre0 q) n) (sym (own s e))
            ∙ ap (blocks (signals_of p s)) (let z : suc q ≡ q + 1 = omega arith in z))
        signals t k (inr n) = ap (λ (m : ℕ). take m (prologue p t)) (at_other t n) ∙ others_same t k (λ f. n (sym f ∙ e))

    -- where they do not follow, the prologue is another one
    pub stops : (s : ℕ) → (reader p q).sequence ≡ s → s < length passed → q < length (readers p)
        → opens_next q (depth_of p (reader p q).buffer) (drop (slice_index passed s) (prologue p s)) ≡ false → AreOpened p → ⊥
    stops s e l k o all =
        let m = h.many in
        let low : s < length p.seqs = omega arith in
        let b = begins (signals_of p s) (suc q) (length (readers p)) (omega arith) in
        let whole : prologue p s ≡ blocks (signals_of p s) q ++ (repeated (Pre0 q) (opening_signals p s q) ++ b.0) = all s low ∙ b.1
        ∙ append_assoc (blocks (signals_of p s) q) (repeated (Pre0 q) (opening_signals p s q)) b.0 in
        let many : slice_index passed s
        ≡ length (blocks (signals_of p s) q) = sym (length_take (slice_index passed s) (prologue p s) (h.within s low))
        ∙ ap (λ (xs : List Instr). length xs) (h.signals s low) in
        let rest : drop (slice_index passed s) (prologue p s) ≡ repeated (Pre0 q) (opening_signals p s q)
        ++ b.0 = (λ i. drop (many i) (whole i)) ∙ drop_append (blocks (signals_of p s) q) (repeated (Pre0 q) (opening_signals p s q) ++ b.0) in
        false≢true (sym o ∙ (λ i. opens_next q (sym (own s e) i) (rest i)) ∙ are_signals q (opening_signals p s q) b.0)

-- at the start nothing is passed
pub none_passed : (p : Program) (n : ℕ) (passed : List ℕ) → n ≡ length p.seqs → passed ≡ replicate n 0 → IsPassed p 0 passed
none_passed p n passed e f = record {
  many = ap (λ (xs : List ℕ). length xs) f ∙ zeros n ∙ e;
  within = λ s l. let z = at s in omega arith;
  signals = λ s l. ap (λ (k : ℕ). take k (prologue p s)) (at s);
}
  where
    zeros : (n : ℕ) → length {A = ℕ} (replicate n 0) ≡ n
    zeros zero = refl
    zeros (suc n) = ap (λ (k : ℕ). suc k) (zeros n)

    none : (n s : ℕ) → slice_index (replicate n 0) s ≡ 0
    none zero s = refl
    none (suc n) zero = refl
    none (suc n) (suc s) = none n s

    at : (s : ℕ) → slice_index passed s ≡ 0
    at s = ap (λ (xs : List ℕ). slice_index xs s) f ∙ none n s

-- where all was passed, each prologue is that which its sequence has, and only there
pub all_opened : (p : Program) (passed : List ℕ) (n : ℕ) → n ≡ length (readers p) → IsPassed p n passed → all_below (is_at_end p passed) (length p.seqs) ≡ true → AreOpened p
all_opened p passed n e h o s l =
    let same = eqb-true (slice_index passed s) (length (prologue p s)) (below_of (is_at_end p passed) (length p.seqs) o s l) in
    sym (take_all (slice_index passed s) (prologue p s) (omega arith)) ∙ h.signals s l ∙ ap (blocks (signals_of p s)) e

pub not_opened : (p : Program) (passed : List ℕ) (n : ℕ) → n ≡ length (readers p) → IsPassed p n passed → all_below (is_at_end p passed) (length p.seqs) ≡ false → AreOpened p → ⊥
not_opened p passed n e h o all = false≢true (sym o ∙ of_below (is_at_end p passed) (length p.seqs) (λ s l.
    let a = length_take (slice_index passed s) (prologue p s) (h.within s l) in
    let b = ap (λ (xs : List Instr). length xs) (h.signals s l ∙ ap (blocks (signals_of p s)) e ∙ sym (all s l)) in
    eq-eqb (slice_index passed s) (length (prologue p s)) (omega arith)))
