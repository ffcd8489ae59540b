-- The number of a step, its reaction and its place in the turn.
use Rattle.std.proofs.Common.{◌≡◌, ℕ, suc, ◌+◌, ◌-◌, ◌*◌, ◌/◌, ◌%◌, ◌<◌, ◌≤◌, length, ap, arith, ◌∙◌}
use Rattle.std.proofs.lemmas.Nat.{div-add-mod', div-mul-add, mod-mul-add}
use Rattle.std.proofs.Math.Nat.{mul-le-mul_right}
use native.Mathlib.Nat.{suc-mul}
use Rattle.interleavings.specs.Sites.{Code, reaction_at, place_at, number_of}

module _ {A : Type 0} (c : Code A) where
  pub reaction_number : (k a : ℕ) → a < length c.turn → reaction_at c (number_of c k a) ≡ k
  reaction_number k a h = let e : number_of c k a - length c.prologue ≡ k * length c.turn + a = omega arith in
      ap (λ (y : ℕ). y / length c.turn) e ∙ div-mul-add k (length c.turn) a h

  pub place_number : (k a : ℕ) → a < length c.turn → place_at c (number_of c k a) ≡ a
  place_number k a h = let e : number_of c k a - length c.prologue ≡ k * length c.turn + a = omega arith in
      ap (λ (y : ℕ). y % length c.turn) e ∙ mod-mul-add k (length c.turn) a h

  pub row_below : (i j : ℕ) → i < j → i * length c.turn + length c.turn ≤ j * length c.turn
  row_below i j h = let m : suc i * length c.turn ≤ j * length c.turn = mul-le-mul_right (length c.turn) h in omega (arith, suc-mul i (length c.turn))

  pub number_split : (n : ℕ) → length c.prologue ≤ n → n ≡ number_of c (reaction_at c n) (place_at c n)
  number_split n f = let e : (n - length c.prologue) / length c.turn * length c.turn + (n - length c.prologue) % length c.turn
      ≡ n - length c.prologue = div-add-mod' (n - length c.prologue) (length c.turn) in omega arith
