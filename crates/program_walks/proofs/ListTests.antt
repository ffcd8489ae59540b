-- A test of all elements is true exactly where it passes at each.
use Rattle.std.proofs.Common.{◌≡◌, ℕ, zero, suc, ◌+◌, ◌<◌, Bool, true, false, not, List, [], ◌∷◌, length, get_or, refl, sym, subst, arith, add-zero, zero-add, ◌∙◌}
use Rattle.std.specs.Prelude.{slice_get, Option, Some, None}
use Rattle.std.specs.List.{list_all, range_with_len}
use Rattle.std.specs.Cmp.Derive.{both_true}
use Rattle.std.proofs.lemmas.Bool.{false≢true, and_parts}
use Rattle.std.proofs.lemmas.List.FromFn.{get_or-range_with_len, length-range_with_len}
use Rattle.std.proofs.lemmas.List.Sums.{AllPass-from_list_all, list_all-from_AllPass}
use Rattle.executive_program.specs.declared.program.Instr.{Instr}
use Rattle.executive_program.specs.declared.program.SeqCode.{SeqCode}
use Rattle.executive_program.specs.declared.program.Program.{Program}
use Rattle.executive_program.specs.Instructions.{turn_of}
use Rattle.executive_program.specs.WellFormed.{Stands}
use Rattle.program_walks.specs.Walks.{all_at, all_below, every, implies}

pub all_here : {X : Type 0} (test : X → Bool) (xs : List X) → list_all test xs ≡ true → (i : ℕ) (x : X) → slice_get xs i ≡ Some x → test x ≡ true
all_here test [] h i x e = absurd (cc)
all_here test (y ∷ ys) h zero x e =
    let same : y ≡ x = cc in
    subst (λ z. test z ≡ true) same (and_parts (test y) (list_all test ys) h).0
all_here test (y ∷ ys) h (suc i) x e = all_here test ys (and_parts (test y) (list_all test ys) h).1 i x e

pub all_there : {X : Type 0} (test : X → Bool) (xs : List X) → ((i : ℕ) (x : X) → slice_get xs i ≡ Some x → test x ≡ true) → list_all test xs ≡ true
all_there test [] h = refl
all_there test (y ∷ ys) h = both_true (h zero y refl) (all_there test ys (λ i x e. h (suc i) x e))

pub at_of : {X : Type 0} (test : ℕ → X → Bool) (n : ℕ) (xs : List X) → all_at test n xs ≡ true → (i : ℕ) (x : X) → slice_get xs i ≡ Some x → test (n + i) x ≡ true
at_of test n [] h i x e = absurd (cc)
at_of test n (y ∷ ys) h zero x e =
    let same : y ≡ x = cc in
    rw add-zero (subst (λ z. test n z ≡ true) same (and_parts (test n y) (all_at test (n + 1) ys) h).0)
at_of test n (y ∷ ys) h (suc i) x e =
    subst (λ (k : ℕ). test k x ≡ true) (let k : n + 1 + i ≡ n + suc i = omega arith in k) (at_of test (n + 1) ys (and_parts (test n y) (all_at test (n + 1) ys) h).1 i x e)

pub of_at : {X : Type 0} (test : ℕ → X → Bool) (n : ℕ) (xs : List X) → ((i : ℕ) (x : X) → slice_get xs i ≡ Some x → test (n + i) x ≡ true) → all_at test n xs ≡ true
of_at test n [] h = refl
of_at test n (y ∷ ys) h =
    both_true (subst (λ (k : ℕ). test k y ≡ true) (add-zero n) (h zero y refl))
    (of_at test (n + 1) ys (λ i x e. subst (λ (k : ℕ). test k x ≡ true) (let k : n + suc i ≡ n + 1 + i = omega arith in k) (h (suc i) x e)))

pub from_zero : {X : Type 0} (test : ℕ → X → Bool) (xs : List X) → all_at test 0 xs ≡ true → (i : ℕ) (x : X) → slice_get xs i ≡ Some x → test i x ≡ true
from_zero test xs h i x e = subst (λ (k : ℕ). test k x ≡ true) (zero-add i) (at_of test 0 xs h i x e)

pub to_zero : {X : Type 0} (test : ℕ → X → Bool) (xs : List X) → ((i : ℕ) (x : X) → slice_get xs i ≡ Some x → test i x ≡ true) → all_at test 0 xs ≡ true
to_zero test xs h = of_at test 0 xs (λ i x e. subst (λ (k : ℕ). test k x ≡ true) (sym (zero-add i)) (h i x e))

-- it is false where it fails at one
pub fails_at : {X : Type 0} (test : ℕ → X → Bool) (xs : List X) (k : ℕ) (x : X) → slice_get xs k ≡ Some x → test k x ≡ false → all_at test 0 xs ≡ false
fails_at test xs k x e f = by (all_at test 0 xs) refl
  where
    by : (b : Bool) → all_at test 0 xs ≡ b → b ≡ false
    by true h = absurd (false≢true (sym f ∙ from_zero test xs h k x e))
    by false h = refl

pub below_of : (test : ℕ → Bool) (n : ℕ) → all_below test n ≡ true → (k : ℕ) → k < n → test k ≡ true
below_of test n h k l =
    let in_range : k < length (range_with_len 0 n) = omega (arith, length-range_with_len 0 n) in
    let place : get_or (range_with_len 0 n) k 0 ≡ k = get_or-range_with_len 0 n k 0 l ∙ zero-add k in
    subst (λ (k : ℕ). test k ≡ true) place (AllPass-from_list_all test (range_with_len 0 n) h k 0 in_range)

pub of_below : (test : ℕ → Bool) (n : ℕ) → ((k : ℕ) → k < n → test k ≡ true) → all_below test n ≡ true
of_below test n h =
    list_all-from_AllPass test (range_with_len 0 n) (λ k d l.
    let lt : k < n = omega (arith, l, length-range_with_len 0 n) in
    let place : get_or (range_with_len 0 n) k d ≡ k = get_or-range_with_len 0 n k d lt ∙ zero-add k in
    subst (λ (v : ℕ). test v ≡ true) (sym place) (h k lt))

pub not_true : (b : Bool) → (b ≡ true → ⊥) → not b ≡ true
not_true true h = absurd (h refl)
not_true false h = refl

pub implied : (a b : Bool) → implies a b ≡ true → a ≡ true → b ≡ true
implied true b h e = h
implied false b h e = absurd (cc)

pub implying : (a b : Bool) → (a ≡ true → b ≡ true) → implies a b ≡ true
implying true b h = h refl
implying false b h = refl

module _ (p : Program) where
  -- of each instruction
  pub stands_of : (test : Instr → Bool) → list_all (λ (q : SeqCode). list_all test q.turn) p.seqs ≡ true → (s a : ℕ) (x : Instr) → Stands p s a x → test x ≡ true
  stands_of test h s a x e = by (slice_get p.seqs s) refl e
    where
      by : (o : Option SeqCode) → slice_get p.seqs s ≡ o → slice_get (turn_of o) a ≡ Some x → test x ≡ true
      by None i e = absurd (cc)
      by (Some q) i e = all_here test q.turn (all_here (λ (q : SeqCode). list_all test q.turn) p.seqs h s q i) a x e

  pub of_stands : (test : Instr → Bool) → ((s a : ℕ) (x : Instr) → Stands p s a x → test x ≡ true) → list_all (λ (q : SeqCode). list_all test q.turn) p.seqs ≡ true
  of_stands test h =
      all_there (λ (q : SeqCode). list_all test q.turn) p.seqs (λ s q i.
      all_there test q.turn (λ a x e. h s a x (subst (λ (o : Option SeqCode). slice_get (turn_of o) a ≡ Some x) (sym i) e)))

  -- of each instruction with its sequence and its place
  pub every_of : (test : ℕ → ℕ → Instr → Bool) → every p test ≡ true → (s a : ℕ) (x : Instr) → Stands p s a x → test s a x ≡ true
  every_of test h s a x e = by (slice_get p.seqs s) refl e
    where
      by : (o : Option SeqCode) → slice_get p.seqs s ≡ o → slice_get (turn_of o) a ≡ Some x → test s a x ≡ true
      by None i e = absurd (cc)
      by (Some q) i e = from_zero (test s) q.turn (from_zero (λ s (q : SeqCode). all_at (test s) 0 q.turn) p.seqs h s q i) a x e

  pub of_every : (test : ℕ → ℕ → Instr → Bool) → ((s a : ℕ) (x : Instr) → Stands p s a x → test s a x ≡ true) → every p test ≡ true
  of_every test h =
      to_zero (λ s (q : SeqCode). all_at (test s) 0 q.turn) p.seqs (λ s q i.
      to_zero (test s) q.turn (λ a x e. h s a x (subst (λ (o : Option SeqCode). slice_get (turn_of o) a ≡ Some x) (sym i) e)))
