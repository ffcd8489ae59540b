-- Tests over the places that name a number, and the first of them.
use Rattle.std.proofs.Common.{◌≡◌, ℕ, suc, ◌+◌, Bool, true, false, ◌&&◌, ◌||◌, not, cond, nat_eq, List, [], ◌∷◌, ◌++◌, Option, Some, None, refl, sym, ap, subst, arith, ◌∙◌}
use Rattle.std.specs.Prelude.{slice_get}
use Rattle.std.specs.List.{filter, list_all, list_any, position_or_len}
use Rattle.std.proofs.lemmas.List.Elements.{filter-append}
use Rattle.std.proofs.lemmas.List.Folds.{list_all-append}
use Rattle.program_tables.specs.declared.mark_table.Mark.{Mark}
use Rattle.executive_program.specs.declared.program.Instr.{Instr}
use Rattle.executive_program.specs.declared.program.SeqCode.{SeqCode}
use Rattle.executive_program.specs.declared.program.Program.{Program}
use Rattle.executive_program.specs.Instructions.{turn, turn_of}
use Rattle.executive_program.specs.Places.{sequence_where}
use Rattle.program_walks.specs.Walks.{all_at, every, implies}
use Rattle.program_tables.specs.declared.roles.Role.{Role}
use Rattle.program_tables.specs.Marks.{named, names, marks_at, marks_in, marks_from, marks_of}

abbrev pub of_number : ℕ → Mark → Bool
of_number n m = nat_eq m.number n

module _ (f : ℕ → ℕ → ℕ → Bool) (n : ℕ) where
  abbrev test : Mark → Bool
  test m = f m.sequence m.at m.port

  kept_at : (s a k : ℕ) (ns : List ℕ) → list_all test (filter (of_number n) (marks_at s a k ns)) ≡ all_at (λ j c. implies (nat_eq c n) (f s a j)) k ns
  kept_at s a k [] = refl
  kept_at s a k (c ∷ cs) = by (nat_eq c n) (kept_at s a (k + 1) cs)
    where
      by : (b : Bool) → list_all test (filter (of_number n) (marks_at s a (k + 1) cs)) ≡ all_at (λ j c. implies (nat_eq c n) (f s a j)) (k + 1) cs
          → list_all test (cond b (record { number = c; sequence = s; at = a; port = k } ∷ filter (of_number n) (marks_at s a (k + 1) cs)) (filter (of_number n) (marks_at s a (k + 1) cs)))
          ≡ (implies b (f s a k) && all_at (λ j c. implies (nat_eq c n) (f s a j)) (k + 1) cs)
      by true e = ap (λ z. f s a k && z) e
      by false e = e

  kept_in : (role : Role) (s a : ℕ) (xs : List Instr) → list_all test (filter (of_number n) (marks_in role s a xs))
      ≡ all_at (λ b x. all_at (λ j c. implies (nat_eq c n) (f s b j)) 0 (named role x)) a xs
  kept_in role s a [] = refl
  kept_in role s a (x ∷ xs) =
      let one = kept_at s a 0 (named role x) in
      let rest = kept_in role s (a + 1) xs in
      ap (list_all test) (filter-append (of_number n) (marks_at s a 0 (named role x)) (marks_in role s (a + 1) xs))
      ∙ list_all-append test (filter (of_number n) (marks_at s a 0 (named role x))) (filter (of_number n) (marks_in role s (a + 1) xs))
      ∙ (λ i. one i && rest i)

  kept_from : (role : Role) (s : ℕ) (qs : List SeqCode) → list_all test (filter (of_number n) (marks_from role s qs))
      ≡ all_at (λ t (q : SeqCode). all_at (λ b x. all_at (λ j c. implies (nat_eq c n) (f t b j)) 0 (named role x)) 0 q.turn) s qs
  kept_from role s [] = refl
  kept_from role s (q ∷ qs) =
      let one = kept_in role s 0 q.turn in
      let rest = kept_from role (s + 1) qs in
      ap (list_all test) (filter-append (of_number n) (marks_in role s 0 q.turn) (marks_from role (s + 1) qs))
      ∙ list_all-append test (filter (of_number n) (marks_in role s 0 q.turn)) (filter (of_number n) (marks_from role (s + 1) qs))
      ∙ (λ i. one i && rest i)

  -- a test at each place, with the number of the entry
  pub all_marks : (p : Program) (role : Role) → list_all (λ (m : Mark). f m.sequence m.at m.port) (marks_of p role n)
      ≡ every p (λ s a x. all_at (λ j c. implies (nat_eq c n) (f s a j)) 0 (named role x))
  all_marks p role = kept_from role 0 p.seqs

whole : (b : Bool) (n k : ℕ) (ns : List ℕ) → all_at (λ j c. implies (nat_eq c n) b) k ns ≡ implies (list_any (λ c. nat_eq c n) ns) b
whole b n k [] = refl
whole b n k (c ∷ cs) = by (nat_eq c n) (list_any (λ c. nat_eq c n) cs) b (whole b n (k + 1) cs)
  where
    by : (t u d : Bool) → all_at (λ j c. implies (nat_eq c n) d) (k + 1) cs ≡ implies u d → (implies t d && all_at (λ j c. implies (nat_eq c n) d) (k + 1) cs) ≡ implies (t || u) d
    by true true true e = e
    by true false true e = e
    by true u false e = refl
    by false u d e = e

-- a test at each place
pub all_stands : (f : ℕ → ℕ → Bool) (n : ℕ) (p : Program) (role : Role) → list_all (λ (m : Mark). f m.sequence m.at) (marks_of p role n) ≡ every p (λ s a x. implies (names role n x) (f s a))
all_stands f n p role = all_marks (λ s a k. f s a) n p role ∙ ap (every p) (λ i s a x. whole (f s a) n 0 (named role x) i)

-- the first of these places, if one is found
abbrev pub IsFirst : List Mark → Bool → ℕ → ℕ → ℕ → Type 0
IsFirst [] found s a k = found ≡ false
IsFirst (m ∷ ms) found s a k = (found ≡ true) × (m.sequence ≡ s) × (m.at ≡ a) × (m.port ≡ k)

moved : (ms : List Mark) (found : Bool) (s a k t b j : ℕ) → IsFirst ms found s a k → s ≡ t → a ≡ b → k ≡ j → IsFirst ms found t b j
moved [] found s a k t b j h e d c = h
moved (m ∷ ms) found s a k t b j h e d c = (h.0, h.1 ∙ e, h.2 ∙ d, h.3 ∙ c)

joined : (xs ys : List Mark) (f g : Bool) (s a k t b j : ℕ) → IsFirst xs f s a k → IsFirst ys g t b j → IsFirst (xs ++ ys) (f || g) (cond f s t) (cond f a b) (cond f k j)
joined [] ys true g s a k t b j h d = absurd cc
joined [] ys false g s a k t b j h d = d
joined (m ∷ ms) ys true g s a k t b j h d = (refl, h.1, h.2, h.3)
joined (m ∷ ms) ys false g s a k t b j h d = absurd cc

abbrev pub named_in : Role → Option Instr → List ℕ
named_in role None = []
named_in role (Some x) = named role x

module _ (role : Role) (n : ℕ) where
  abbrev place : List ℕ → ℕ
  place ns = position_or_len (λ c. nat_eq c n) ns

  first_at : (s a k : ℕ) (ns : List ℕ) → IsFirst (filter (of_number n) (marks_at s a k ns)) (list_any (λ c. nat_eq c n) ns) s a (k + position_or_len (λ c. nat_eq c n) ns)
  first_at s a k [] = refl
  first_at s a k (c ∷ cs) = by (nat_eq c n) (first_at s a (k + 1) cs)
    where
      by : (b : Bool) → IsFirst (filter (of_number n) (marks_at s a (k + 1) cs)) (list_any (λ c. nat_eq c n) cs) s a (k + 1 + position_or_len (λ c. nat_eq c n) cs)
          → IsFirst (cond b (record { number = c; sequence = s; at = a; port = k } ∷ filter (of_number n) (marks_at s a (k + 1) cs)) (filter (of_number n) (marks_at s a (k + 1) cs)))
          (b || list_any (λ c. nat_eq c n) cs) s a (k + cond (not b) (1 + position_or_len (λ c. nat_eq c n) cs) 0)
      by true h = (refl, refl, refl, omega arith)
      by false h = moved (filter (of_number n) (marks_at s a (k + 1) cs)) (list_any (λ c. nat_eq c n) cs) s a
          (k + 1 + position_or_len (λ c. nat_eq c n) cs) s a (k + (1 + position_or_len (λ c. nat_eq c n) cs)) h refl refl (omega arith)

  -- which of the numbers of the first instruction that names it
  abbrev pub port_in : List Instr → ℕ
  port_in xs = position_or_len (λ c. nat_eq c n) (named_in role (slice_get xs (position_or_len (names role n) xs)))

  pub first_in : (s a : ℕ) (xs : List Instr) → IsFirst (filter (of_number n) (marks_in role s a xs)) (list_any (names role n) xs) s (a + position_or_len (names role n) xs) (port_in xs)
  first_in s a [] = refl
  first_in s a (x ∷ xs) = first_here (first_in s (a + 1) xs)
    where
      both : IsFirst (filter (of_number n) (marks_in role s (a + 1) xs)) (list_any (names role n) xs) s (a + 1 + position_or_len (names role n) xs) (port_in xs)
          → IsFirst (filter (of_number n) (marks_at s a 0 (named role x)) ++ filter (of_number n) (marks_in role s (a + 1) xs)) (names role n x || list_any (names role n) xs)
          (cond (names role n x) s s) (cond (names role n x) a (a + 1 + position_or_len (names role n) xs)) (cond (names role n x) (0 + place (named role x)) (port_in xs))
      both rest = joined (filter (of_number n) (marks_at s a 0 (named role x))) (filter (of_number n) (marks_in role s (a + 1) xs))
          (names role n x) (list_any (names role n) xs) s a (0 + place (named role x)) s (a + 1 + position_or_len (names role n) xs) (port_in xs)
          (first_at s a 0 (named role x)) rest

      by : (b : Bool) (ms : List Mark)
          → IsFirst ms (b || list_any (names role n) xs) (cond b s s) (cond b a (a + 1 + position_or_len (names role n) xs))
          (cond b (0 + place (named role x)) (port_in xs))
          → IsFirst ms (b || list_any (names role n) xs) s (a + cond (not b) (1 + position_or_len (names role n) xs) 0)
          (place (named_in role (slice_get (x ∷ xs) (cond (not b) (1 + position_or_len (names role n) xs) 0))))
      by true ms h = moved ms true s a (0 + place (named role x)) s (a + 0) (place (named role x)) h refl (omega arith) (omega arith)
      by false ms h = moved ms (list_any (names role n) xs) s (a + 1 + position_or_len (names role n) xs) (port_in xs) s
          (a + (1 + position_or_len (names role n) xs))
          (place (named_in role (slice_get (x ∷ xs) (1 + position_or_len (names role n) xs)))) h refl (omega arith)
          (ap (λ (i : ℕ). place (named_in role (slice_get (x ∷ xs) i))) (let one : suc (position_or_len (names role n) xs) ≡ 1 + position_or_len (names role n) xs = omega arith in one))

      first_here : IsFirst (filter (of_number n) (marks_in role s (a + 1) xs)) (list_any (names role n) xs) s
          (a + 1 + position_or_len (names role n) xs) (port_in xs)
          → IsFirst (filter (of_number n) (marks_in role s a (x ∷ xs))) (list_any (names role n) (x ∷ xs)) s
          (a + position_or_len (names role n) (x ∷ xs)) (port_in (x ∷ xs))
      first_here rest = by (names role n x) (filter (of_number n) (marks_in role s a (x ∷ xs)))
          (let P : List Mark → Type 0 = λ ms. IsFirst ms (names role n x || list_any (names role n) xs) (cond (names role n x) s s)
          (cond (names role n x) a (a + 1 + position_or_len (names role n) xs)) (cond (names role n x) (0 + place (named role x)) (port_in xs)) in
          subst P (sym (filter-append (of_number n) (marks_at s a 0 (named role x)) (marks_in role s (a + 1) xs))) (both rest))

  abbrev has_one : SeqCode → Bool
  has_one q = list_any (names role n) q.turn

  abbrev there : List SeqCode → List Instr
  there qs = turn_of (slice_get qs (position_or_len has_one qs))

  first_from : (s : ℕ) (qs : List SeqCode)
      → IsFirst (filter (of_number n) (marks_from role s qs)) (list_any has_one qs) (s + position_or_len has_one qs)
      (position_or_len (names role n) (there qs)) (port_in (there qs))
  first_from s [] = refl
  first_from s (q ∷ qs) = whole_list (first_from (s + 1) qs)
    where
      both : IsFirst (filter (of_number n) (marks_from role (s + 1) qs)) (list_any has_one qs) (s + 1 + position_or_len has_one qs) (position_or_len (names role n) (there qs)) (port_in (there qs))
          → IsFirst (filter (of_number n) (marks_in role s 0 q.turn) ++ filter (of_number n) (marks_from role (s + 1) qs)) (has_one q || list_any has_one qs)
          (cond (has_one q) s (s + 1 + position_or_len has_one qs))
          (cond (has_one q) (0 + position_or_len (names role n) q.turn) (position_or_len (names role n) (there qs)))
          (cond (has_one q) (port_in q.turn) (port_in (there qs)))
      both rest = joined (filter (of_number n) (marks_in role s 0 q.turn)) (filter (of_number n) (marks_from role (s + 1) qs)) (has_one q)
          (list_any has_one qs) s (0 + position_or_len (names role n) q.turn) (port_in q.turn) (s + 1 + position_or_len has_one qs)
          (position_or_len (names role n) (there qs)) (port_in (there qs))
          (first_in s 0 q.turn) rest

      by : (b : Bool) (ms : List Mark)
          → IsFirst ms (b || list_any has_one qs) (cond b s (s + 1 + position_or_len has_one qs))
          (cond b (0 + position_or_len (names role n) q.turn) (position_or_len (names role n) (there qs))) (cond b (port_in q.turn) (port_in (there qs)))
          → IsFirst ms (b || list_any has_one qs) (s + cond (not b) (1 + position_or_len has_one qs) 0)
          (position_or_len (names role n) (turn_of (slice_get (q ∷ qs) (cond (not b) (1 + position_or_len has_one qs) 0))))
          (port_in (turn_of (slice_get (q ∷ qs) (cond (not b) (1 + position_or_len has_one qs) 0))))
      by true ms h = moved ms true s (0 + position_or_len (names role n) q.turn) (port_in q.turn) (s + 0) (position_or_len (names role n) q.turn) (port_in q.turn) h (omega arith) (omega arith) refl
      by false ms h =
          let one : suc (position_or_len has_one qs) ≡ 1 + position_or_len has_one qs = omega arith in
          moved ms (list_any has_one qs) (s + 1 + position_or_len has_one qs) (position_or_len (names role n) (there qs)) (port_in (there qs)) (s + (1 + position_or_len has_one qs))
          (position_or_len (names role n) (turn_of (slice_get (q ∷ qs) (1 + position_or_len has_one qs)))) (port_in (turn_of (slice_get (q ∷ qs) (1 + position_or_len has_one qs)))) h (omega arith)
          (ap (λ (i : ℕ). position_or_len (names role n) (turn_of (slice_get (q ∷ qs) i))) one) (ap (λ (i : ℕ). port_in (turn_of (slice_get (q ∷ qs) i))) one)

      whole_list : IsFirst (filter (of_number n) (marks_from role (s + 1) qs)) (list_any has_one qs) (s + 1 + position_or_len has_one qs)
          (position_or_len (names role n) (there qs)) (port_in (there qs))
          → IsFirst (filter (of_number n) (marks_from role s (q ∷ qs))) (list_any has_one (q ∷ qs)) (s + position_or_len has_one (q ∷ qs))
          (position_or_len (names role n) (there (q ∷ qs))) (port_in (there (q ∷ qs)))
      whole_list rest = by (has_one q) (filter (of_number n) (marks_from role s (q ∷ qs)))
          (let P : List Mark → Type 0 = λ ms. IsFirst ms (has_one q || list_any has_one qs)
          (cond (has_one q) s (s + 1 + position_or_len has_one qs))
          (cond (has_one q) (0 + position_or_len (names role n) q.turn) (position_or_len (names role n) (there qs)))
          (cond (has_one q) (port_in q.turn) (port_in (there qs))) in
          subst P (sym (filter-append (of_number n) (marks_in role s 0 q.turn) (marks_from role (s + 1) qs))) (both rest))

  -- the first place is that of the first instruction that names it, in the first sequence that has one
  pub first_is : (p : Program) → IsFirst (marks_of p role n) (list_any has_one p.seqs) (sequence_where p has_one)
      (position_or_len (names role n) (turn p (sequence_where p has_one))) (port_in (turn p (sequence_where p has_one)))
  first_is p = moved (marks_of p role n) (list_any has_one p.seqs) (0 + position_or_len has_one p.seqs)
      (position_or_len (names role n) (there p.seqs)) (port_in (there p.seqs)) (position_or_len has_one p.seqs)
      (position_or_len (names role n) (there p.seqs)) (port_in (there p.seqs))
      (first_from 0 p.seqs) (omega arith) refl refl
