-- The tables of communications tell their numbers and their places.
use Rattle.std.proofs.Common.{◌≡◌, ℕ, zero, suc, ◌+◌, ◌<◌, Bool, true, false, cond, List, [], ◌∷◌, length, map, take, Some, None, refl, sym, ap, arith, ◌∙◌}
use Rattle.std.specs.Prelude.{slice_get, slice_index}
use Rattle.std.specs.List.{count_by}
use Rattle.std.proofs.lemmas.List.Sums.{sum_by-cons}
use Rattle.executive_program.specs.declared.program.Instr.{Instr}
use Rattle.executive_program.specs.declared.program.SeqCode.{SeqCode}
use Rattle.executive_program.specs.declared.program.Program.{Program}
use Rattle.executive_program.specs.Instructions.{is_communication, communications, number_or, turn, turn_of}
use Rattle.executive_program.specs.Places.{communication_at}
use Rattle.program_tables.specs.Communications.{numbers_from, places_from, numbers_of, places_of}

counted : (y : Instr) (zs : List Instr) → count_by is_communication (y ∷ zs) ≡ cond (is_communication y) 1 0 + count_by is_communication zs
counted y zs = sum_by-cons (λ x. cond (is_communication x) 1 0) y zs

pub number_of : (t : ℕ) (xs : List Instr) (a : ℕ) → a < length xs → slice_index (numbers_from t xs) a ≡ t + count_by is_communication (take a xs)
number_of t [] a l = absurd (omega arith)
number_of t (x ∷ xs) zero l = let z : t ≡ t + 0 = omega arith in z
number_of t (x ∷ xs) (suc a) l =
    let rest = number_of (t + cond (is_communication x) 1 0) xs a (omega arith) in
    let one = counted x (take a xs) in
    omega arith

pub place_of : (a : ℕ) (xs : List Instr) (t : ℕ) → number_or (a + length xs) (slice_get (places_from a xs) t) ≡ a + communication_at xs t
place_of a [] t = refl
place_of a (x ∷ xs) zero = by (is_communication x) (place_of (a + 1) xs zero)
  where
    by : (b : Bool) → number_or (a + 1 + length xs) (slice_get (places_from (a + 1) xs) zero) ≡ a + 1 + communication_at xs zero
        → number_or (a + length (x ∷ xs)) (slice_get (cond b (a ∷ places_from (a + 1) xs) (places_from (a + 1) xs)) zero) ≡ a + cond b 0 (suc (communication_at xs zero))
    by true e = omega arith
    by false e = ap (λ (n : ℕ). number_or n (slice_get (places_from (a + 1) xs) zero))
        (let z : a + length (x ∷ xs) ≡ a + 1 + length xs = omega arith in z) ∙ e
        ∙ (let z : a + 1 + communication_at xs zero ≡ a + suc (communication_at xs zero) = omega arith in z)
place_of a (x ∷ xs) (suc t) = by (is_communication x) (λ k. place_of (a + 1) xs k)
  where
    by : (b : Bool) → ((k : ℕ) → number_or (a + 1 + length xs) (slice_get (places_from (a + 1) xs) k) ≡ a + 1 + communication_at xs k)
        → number_or (a + length (x ∷ xs)) (slice_get (cond b (a ∷ places_from (a + 1) xs) (places_from (a + 1) xs)) (suc t)) ≡ a + suc (communication_at xs (cond b t (suc t)))
    by true e = ap (λ (n : ℕ). number_or n (slice_get (places_from (a + 1) xs) t))
        (let z : a + length (x ∷ xs) ≡ a + 1 + length xs = omega arith in z) ∙ e t
        ∙ (let z : a + 1 + communication_at xs t ≡ a + suc (communication_at xs t) = omega arith in z)
    by false e = ap (λ (n : ℕ). number_or n (slice_get (places_from (a + 1) xs) (suc t)))
        (let z : a + length (x ∷ xs) ≡ a + 1 + length xs = omega arith in z) ∙ e (suc t)
        ∙ (let z : a + 1 + communication_at xs (suc t) ≡ a + suc (communication_at xs (suc t)) = omega arith in z)

row_there : {A : Type 0} (f : SeqCode → A) (qs : List SeqCode) (s : ℕ) (row : A) → slice_get (map f qs) s ≡ Some row → (q : SeqCode) × (slice_get qs s ≡ Some q) × (f q ≡ row)
row_there f [] s row e = absurd cc
row_there f (q ∷ qs) zero row e = let same : f q ≡ row = cc in (q, refl, same)
row_there f (q ∷ qs) (suc s) row e = row_there f qs s row e

row_none : {A : Type 0} (f : SeqCode → A) (qs : List SeqCode) (s : ℕ) → slice_get (map f qs) s ≡ None → slice_get qs s ≡ None
row_none f [] s e = refl
row_none f (q ∷ qs) zero e = absurd cc
row_none f (q ∷ qs) (suc s) e = row_none f qs s e

-- by the rows
pub number_told : (p : Program) (s a : ℕ) (row : List ℕ) → slice_get (numbers_of p) s ≡ Some row → a < length (turn p s) → slice_index row a ≡ communications p s a
number_told p s a row e l =
    let r = row_there (λ (q : SeqCode). numbers_from 0 q.turn) p.seqs s row e in
    let t : turn p s ≡ r.0.turn = ap turn_of r.1 in
    let low : a < length r.0.turn = let m = ap (λ (xs : List Instr). length xs) t in omega arith in
    ap (λ (xs : List ℕ). slice_index xs a) (sym r.2) ∙ number_of 0 r.0.turn a low
    ∙ (let z : 0 + count_by is_communication (take a r.0.turn) ≡ count_by is_communication (take a r.0.turn) = omega arith in z)
    ∙ ap (λ (xs : List Instr). count_by is_communication (take a xs)) (sym t)

pub no_number : (p : Program) (s a : ℕ) → slice_get (numbers_of p) s ≡ None → a < length (turn p s) → 0 ≡ communications p s a
no_number p s a e l = let t : turn p s ≡ [] = ap turn_of (row_none (λ (q : SeqCode). numbers_from 0 q.turn) p.seqs s e) in let m = ap (λ (xs : List Instr). length xs) t in absurd (omega arith)

pub place_told : (p : Program) (s t : ℕ) (row : List ℕ) → slice_get (places_of p) s ≡ Some row → number_or (length (turn p s)) (slice_get row t) ≡ communication_at (turn p s) t
place_told p s t row e =
    let r = row_there (λ (q : SeqCode). places_from 0 q.turn) p.seqs s row e in
    let same : turn p s ≡ r.0.turn = ap turn_of r.1 in
    let here = place_of 0 r.0.turn t in
    (λ i. number_or (length (same i)) (slice_get (sym r.2 i) t))
    ∙ ap (λ (n : ℕ). number_or n (slice_get (places_from 0 r.0.turn) t)) (let z : length r.0.turn ≡ 0 + length r.0.turn = omega arith in z) ∙ here
    ∙ (let z : 0 + communication_at r.0.turn t ≡ communication_at r.0.turn t = omega arith in z) ∙ ap (λ (xs : List Instr). communication_at xs t) (sym same)

pub no_place : (p : Program) (s t : ℕ) → slice_get (places_of p) s ≡ None → 0 ≡ communication_at (turn p s) t
no_place p s t e = ap (λ (xs : List Instr). communication_at xs t) (sym (ap turn_of (row_none (λ (q : SeqCode). places_from 0 q.turn) p.seqs s e)))
