-- The test of prologues is true exactly where each is that which its sequence has.
use Rattle.std.proofs.Common.{◌≡◌, ◌≢◌, ℕ, zero, suc, ◌+◌, ◌<◌, ◌≤◌, Bool, true, ◌&&◌, cond, List, [], ◌∷◌, ◌++◌, map, length, refl, sym, ap, subst, eq-eqb, arith, ◌∙◌, inl, inr}
use Rattle.std.specs.Prelude.{slice_get, nat_le, nat_lt, Option, Some, None}
use Rattle.std.specs.List.{count_by}
use Rattle.std.specs.Cmp.Derive.{both_true}
use Rattle.std.proofs.lemmas.Bool.{false≢true, and_parts, cases_lt, eqb-true, ltb-true, lt-ltb, leb-true, le-leb, ne_eqb}
use Rattle.std.proofs.lemmas.List.{length-map}
use Rattle.std.proofs.lemmas.List.Sums.{sum_by-append, sum_by-cons}
use Rattle.std.proofs.lemmas.Option.{slice_get_within}
use Rattle.executive_program.specs.declared.program.Instr.{Instr}
use Rattle.executive_program.specs.declared.program.Instr.TheVariants.{Pre0}
use Rattle.executive_program.specs.declared.program.SeqCode.{SeqCode}
use Rattle.executive_program.specs.declared.program.Program.{Program}
use Rattle.executive_program.specs.Blocks.{blocks, repeated}
use Rattle.executive_program.specs.Instructions.{Reader, prologue, prologue_of, readers}
use Rattle.executive_program.specs.Places.{opening_of, opening_signals, reader, reader_or, signals_empty}
use Rattle.executive_program.specs.WellFormed.{operator_of}
use Rattle.program_walks.specs.Walks.{all_at, passed}
use Rattle.program_walks.specs.Opened.{are_opened, opens, rise, rises, signals_for, signals_right}
use Rattle.program_walks.proofs.Passing.{all_passed, passed_all}
use Rattle.program_walks.proofs.ListTests.{all_here, all_there, from_zero, to_zero}
use Rattle.program_walks.proofs.Readings.{same_numbers}

-- how often a list signals the empty semaphore of pair q
abbrev count : ℕ → List Instr → ℕ
count q xs = count_by (signals_empty q) xs

-- the count of one more instruction, of two lists, and of the signals of one pair
count_cons : (q : ℕ) (x : Instr) (xs : List Instr) → count q (x ∷ xs) ≡ cond (signals_empty q x) 1 0 + count q xs
count_cons q x xs = sum_by-cons (λ (x : Instr). cond (signals_empty q x) 1 0) x xs

count_both : (q : ℕ) (xs ys : List Instr) → count q (xs ++ ys) ≡ count q xs + count q ys
count_both q xs ys = sum_by-append (λ (x : Instr). cond (signals_empty q x) 1 0) xs ys

count_one : (q : ℕ) (xs : List Instr) → count q (Pre0 q ∷ xs) ≡ suc (count q xs)
count_one q xs =
    let e = count_cons q (Pre0 q) xs ∙ ap (λ (b : Bool). cond b 1 0 + count q xs) (same_numbers q) in
    omega (arith, e)

count_none : (q r : ℕ) (xs : List Instr) → r ≢ q → count q (Pre0 r ∷ xs) ≡ count q xs
count_none q r xs n =
    let e = count_cons q (Pre0 r) xs ∙ ap (λ (b : Bool). cond b 1 0 + count q xs) (ne_eqb r q n) in
    omega (arith, e)

count_same : (q k : ℕ) → count q (repeated (Pre0 q) k) ≡ k
count_same q zero = refl
count_same q (suc k) = count_one q (repeated (Pre0 q) k) ∙ ap (λ (n : ℕ). suc n) (count_same q k)

count_other : (q r k : ℕ) → r ≢ q → count q (repeated (Pre0 r) k) ≡ 0
count_other q r zero n = refl
count_other q r (suc k) n = count_none q r (repeated (Pre0 r) k) n ∙ count_other q r k n

-- the parts of a list of signals in ascending order
rise_parts : (n l q : ℕ) (xs : List Instr) → rises n l (Pre0 q ∷ xs) ≡ true → (l ≤ q) × (q < n) × (rises n q xs ≡ true)
rise_parts n l q xs h =
    let most = and_parts (nat_le l q && nat_lt q n) (rises n q xs) h in
    let first = and_parts (nat_le l q) (nat_lt q n) most.0 in
    (leb-true l q first.0, ltb-true q n first.1, most.1)

rise_whole : (n l q : ℕ) (xs : List Instr) → l ≤ q → q < n → rises n q xs ≡ true → rises n l (Pre0 q ∷ xs) ≡ true
rise_whole n l q xs low high rest = both_true (both_true (le-leb l q low) (lt-ltb q n high)) rest

rise_lower : (n l m : ℕ) (xs : List Instr) → l ≤ m → rises n m xs ≡ true → rises n l xs ≡ true
rise_lower n l m [] e h = refl
rise_lower n l m (Pre0 q ∷ xs) e h = let r = rise_parts n m q xs h in rise_whole n l q xs (omega (arith, e, r.0)) r.1 r.2
rise_lower n l m (_ ∷ xs) e h = absurd (false≢true h)

-- signals of pairs below n have none of a pair from n on
none_above : (n l : ℕ) (xs : List Instr) → rises n l xs ≡ true → (q : ℕ) → n ≤ q → count q xs ≡ 0
none_above n l [] h q e = refl
none_above n l (Pre0 r ∷ xs) h q e =
    let parts = rise_parts n l r xs h in
    count_none q r xs (λ same. omega (arith, same, parts.1, e)) ∙ none_above n r xs parts.2 q e
none_above n l (_ ∷ xs) h q e = absurd (false≢true h)

-- the signals of the last pair stand at the end
last_is : (n : ℕ) (xs : List Instr) → rises (suc n) n xs ≡ true → xs ≡ repeated (Pre0 n) (length xs)
last_is n [] h = refl
last_is n (Pre0 q ∷ xs) h =
    let parts = rise_parts (suc n) n q xs h in
    let same : q ≡ n = omega (arith, parts.0, parts.1) in
    let rest = last_is n xs (subst (λ (k : ℕ). rises (suc n) k xs ≡ true) same parts.2) in
    λ i. Pre0 (same i) ∷ rest i
last_is n (_ ∷ xs) h = absurd (false≢true h)

split : (n l : ℕ) (xs : List Instr) → rises (suc n) l xs ≡ true → (ys : List Instr) × (k : ℕ) × (xs ≡ ys ++ repeated (Pre0 n) k) × (rises n l ys ≡ true)
split n l [] h = ([], 0, refl, refl)
split n l (Pre0 q ∷ xs) h =
    let parts = rise_parts (suc n) l q xs h in
    let rest = split n q xs parts.2 in
    elim (cases_lt q n) [
      | inl before ↦ (Pre0 q ∷ rest.0, rest.1, ap (λ (zs : List Instr). Pre0 q ∷ zs) rest.2, rise_whole n l q rest.0 parts.0 before rest.3)
      | inr here ↦ ([], length (Pre0 q ∷ xs), last_is n (Pre0 q ∷ xs) (rise_whole (suc n) n q xs here parts.1 parts.2), refl)
    ]
split n l (_ ∷ xs) h = absurd (false≢true h)

-- signals of pairs below m, and then of pairs from m on, ascend
rise_both : (n l m : ℕ) (xs ys : List Instr) → rises m l xs ≡ true → l ≤ m → m ≤ n → rises n m ys ≡ true → rises n l (xs ++ ys) ≡ true
rise_both n l m [] ys h e f g = rise_lower n l m ys e g
rise_both n l m (Pre0 q ∷ xs) ys h e f g =
    let parts = rise_parts m l q xs h in
    rise_whole n l q (xs ++ ys) parts.0 (omega (arith, parts.1, f)) (rise_both n q m xs ys parts.2 (omega (arith, parts.1)) f g)
rise_both n l m (_ ∷ xs) ys h e f g = absurd (false≢true h)

rise_same : (n k : ℕ) → rises (suc n) n (repeated (Pre0 n) k) ≡ true
rise_same n zero = refl
rise_same n (suc k) = rise_whole (suc n) n n (repeated (Pre0 n) k) (omega arith) (omega arith) (rise_same n k)

-- the signals of each pair below n, as often as this
module _ (often : ℕ → ℕ) where
  abbrev signals : ℕ → List Instr
  signals n = blocks (λ q. repeated (Pre0 q) (often q)) n

  -- signals that ascend and are as many of each pair are these
  risen : (n : ℕ) (xs : List Instr) → rises n 0 xs ≡ true → ((q : ℕ) → q < n → count q xs ≡ often q) → xs ≡ signals n
  risen zero [] h c = refl
  risen zero (Pre0 q ∷ xs) h c = absurd (omega (arith, (rise_parts 0 0 q xs h).1))
  risen zero (_ ∷ xs) h c = absurd (false≢true h)
  risen (suc n) xs h c =
      let s = split n 0 xs h in
      let both = λ (q : ℕ). ap (count q) s.2 ∙ count_both q s.0 (repeated (Pre0 n) s.1) in
      let many : s.1 ≡ often n = omega (arith, both n, none_above n 0 s.0 s.3 n (omega arith), count_same n s.1, c n (omega arith)) in
      let rest = risen n s.0 s.3 (λ q l. omega (arith, both q, count_other q n s.1 (λ same. omega (arith, same, l)), c q (omega (arith, l)))) in
      s.2 ∙ (ap (λ (ys : List Instr). ys ++ repeated (Pre0 n) s.1) rest ∙ ap (λ (k : ℕ). signals n ++ repeated (Pre0 n) k) many)

  -- these ascend, and are as many of each pair
  signals_rise : (n : ℕ) → rises n 0 (signals n) ≡ true
  signals_rise zero = refl
  signals_rise (suc n) = rise_both (suc n) 0 n (signals n) (repeated (Pre0 n) (often n)) (signals_rise n) (omega arith) (omega arith) (rise_same n (often n))

  signals_count : (n q : ℕ) → q < n → count q (signals n) ≡ often q
  signals_count zero q l = absurd (omega arith)
  signals_count (suc n) q l =
      let both = count_both q (signals n) (repeated (Pre0 n) (often n)) in
      both ∙ elim (cases_lt q n) [
        | inl low ↦ (let before = signals_count n q low in
            let other = count_other q n (often n) (λ same. omega (arith, same, low)) in
            omega (arith, before, other))
        | inr here ↦ (let same : n ≡ q = omega (arith, l, here) in
            let none = none_above n 0 (signals n) (signals_rise n) q here in
            let last = subst (λ (k : ℕ). count q (repeated (Pre0 k) (often k)) ≡ often q) (sym same) (count_same q (often q)) in
            omega (arith, none, last))
      ]

-- a place within a list has an element
there : {X : Type 0} (xs : List X) (i : ℕ) → i < length xs → (x : X) × (slice_get xs i ≡ Some x)
there [] i l = absurd (omega arith)
there (x ∷ xs) zero l = (x, refl)
there (x ∷ xs) (suc i) l = there xs i (omega (arith, l))

module _ (p : Program) where
  -- the reader of a pair decides how often its semaphore is signalled
  signals_at : (s q : ℕ) (x : Reader) → slice_get (readers p) q ≡ Some x → opening_signals p s q ≡ signals_for p x s
  signals_at s q x e = ap (λ (y : Reader). signals_for p y s) (let same : reader p q ≡ x = ap reader_or e in same)

  pub opened_of : are_opened p ≡ true → (s : ℕ) → s < length p.seqs → prologue p s ≡ opening_of p s
  opened_of h s l = by (passed (opens p) 0 (readers p)) refl h
    where
      by : (o : Option ℕ) → passed (opens p) 0 (readers p) ≡ o → rise p o ≡ true → prologue p s ≡ opening_of p s
      by None e h = absurd (false≢true h)
      by (Some n) e h =
          let all = passed_all (opens p) 0 n (readers p) e in
          let q = there p.seqs s l in
          let many : n ≡ length (readers p) = omega (arith, all.1) in
          let rising = all_here (λ (q : SeqCode). rises n 0 q.prologue) p.seqs h s q.0 q.1 in
          ap prologue_of q.1
          ∙ (risen (opening_signals p s) n q.0.prologue rising (λ k below.
          let x = there (readers p) k (omega (arith, below, many)) in
          let opened = from_zero (opens p) (readers p) all.0 k x.0 x.1 in
          let signalled = (and_parts (nat_lt k (length p.pairs)) (all_at (signals_right p k x.0) 0 p.seqs) opened).1 in
          eqb-true (count k q.0.prologue) (signals_for p x.0 s) (from_zero (signals_right p k x.0) p.seqs signalled s q.0 q.1) ∙ sym (signals_at s k x.0 x.1))
          ∙ ap (λ (k : ℕ). signals (opening_signals p s) k) many)

  pub of_opened : map (λ o. Some o) p.pairs ≡ map (λ (r : Reader). operator_of p r.buffer) (readers p) → ((s : ℕ) → s < length p.seqs → prologue p s ≡ opening_of p s) → are_opened p ≡ true
  of_opened numbered h =
      let many : length p.pairs ≡ length (readers p) = sym (length-map p.pairs (λ o. Some o))
      ∙ ap (λ (os : List (Option ℕ)). length os) numbered ∙ length-map (readers p) (λ (r : Reader). operator_of p r.buffer) in
      let here : (s : ℕ) (q : SeqCode) → slice_get p.seqs s ≡ Some q → q.prologue ≡ opening_of p s = λ s q e. sym (ap prologue_of e) ∙ h s (slice_get_within p.seqs s q e) in
      let opened : all_at (opens p) 0 (readers p) ≡ true =
      to_zero (opens p) (readers p) (λ k x e.
      let below = slice_get_within (readers p) k x e in
      both_true (lt-ltb k (length p.pairs) (omega (arith, many, below)))
      (to_zero (signals_right p k x) p.seqs (λ s q i.
      eq-eqb (count k q.prologue) (signals_for p x s)
      (ap (count k) (here s q i) ∙ (signals_count (opening_signals p s) (length (readers p)) k below ∙ signals_at s k x e))))) in
      ap (rise p) (all_passed (opens p) 0 (readers p) opened)
      ∙ all_there (λ (q : SeqCode). rises (0 + length (readers p)) 0 q.prologue) p.seqs (λ s q i.
      subst (λ (xs : List Instr). rises (0 + length (readers p)) 0 xs ≡ true) (sym (here s q i))
      (subst (λ (n : ℕ). rises n 0 (opening_of p s) ≡ true) (let z : length (readers p) ≡ 0 + length (readers p) = omega arith in z) (signals_rise (opening_signals p s) (length (readers p)))))
