-- Where a loop is after as many of its micro-steps, and the next one there.
use Rattle.std.proofs.Common.{◌≡◌, ℕ, ◌+◌, ◌-◌, ◌*◌, ◌/◌, ◌%◌, ◌<◌, ◌≤◌, ◌⊎◌, inl, inr, false, List, [], ◌∷◌, length, None, refl, sym, ap, arith, ◌∙◌}
use Rattle.std.specs.Prelude.{slice_get}
use Rattle.std.specs.Bool.{◌==◌}
use Rattle.std.proofs.lemmas.Bool.{cases_lt, lt-ltb, le-ltb}
use Rattle.std.proofs.lemmas.Nat.{div-mul-add, mod-mul-add, div_below, le-div}
use Rattle.executive_program.specs.declared.expand.SeqSteps.{SeqSteps}
use Rattle.executive_program.specs.declared.steps.MicroStep.{MicroStep}
use Rattle.executive_program.specs.Expanded.{next_in}

module _ (made reaction len place : ℕ) (below : place < len) (e : reaction * len + place ≡ made) where
  pub place_is : place ≡ made % len
  place_is = sym (mod-mul-add reaction len place below) ∙ ap (λ (n : ℕ). n % len) e

  pub reaction_is : reaction ≡ made / len
  reaction_is = sym (div-mul-add reaction len place below) ∙ ap (λ (n : ℕ). n / len) e

pub has_some : (xs : List MicroStep) → false ≡ (length xs == 0) → 0 < length xs
has_some [] e = absurd cc
has_some (x ∷ xs) e = omega arith

module _ (prologue turn : List MicroStep) (reactions n : ℕ) (after : length prologue ≤ n) (some : 0 < length turn) where
  abbrev here : SeqSteps
  here = record { prologue = prologue; turn = turn }

  abbrev all : ℕ
  all = length prologue + reactions * length turn

  in_turn : (n - length prologue) / length turn < reactions → slice_get turn ((n - length prologue) % length turn) ≡ next_in reactions here n
  in_turn l = by (cases_lt n all)
    where
      by : (n < all) ⊎ (all ≤ n) → slice_get turn ((n - length prologue) % length turn) ≡ next_in reactions here n
      by (inl b) = rw (lt-ltb n all b) (rw (le-ltb n (length prologue) after) refl)
      by (inr b) = let d = le-div reactions (n - length prologue) (length turn) some (omega (arith, b, after)) in absurd (omega (arith, d, l))

  past : reactions ≤ (n - length prologue) / length turn → None ≡ next_in reactions here n
  past l = by (cases_lt n all)
    where
      by : (n < all) ⊎ (all ≤ n) → None ≡ next_in reactions here n
      by (inl b) = let d = div_below (n - length prologue) (length turn) reactions some (omega (arith, b, after)) in absurd (omega (arith, d, l))
      by (inr b) = rw (le-ltb n all b) refl

  -- the same of the micro-steps as the code has them
  module _ (q : SeqSteps) (prologue_is : prologue ≡ q.prologue) (turn_is : turn ≡ q.turn) (place reaction : ℕ)
      (place_at : place ≡ (n - length prologue) % length turn) (reaction_at : reaction ≡ (n - length prologue) / length turn) where
    same : next_in reactions here n ≡ next_in reactions q n
    same = λ i. next_in reactions (record { prologue = prologue_is i; turn = turn_is i }) n

    pub due_in_turn : reaction < reactions → slice_get turn place ≡ next_in reactions q n
    due_in_turn l = ap (slice_get turn) place_at ∙ in_turn (omega (arith, l, reaction_at)) ∙ same

    pub none_due : reactions ≤ reaction → None ≡ next_in reactions q n
    none_due l = past (omega (arith, l, reaction_at)) ∙ same
