-- The depth of a program's buffers.
use Rattle.std.proofs.Common.{◌≡◌, ℕ, zero, suc, ◌≤◌, List, [], ◌∷◌, Some, refl, ap, arith}
use Rattle.std.specs.Prelude.{slice_get}
use Rattle.std.proofs.lemmas.Option.{same_Some}
use Rattle.sequence_build_laws.specs.declared.Buffer.{Buffer}
use Rattle.self_timed.specs.Depths.{deepest}

pub deepest_one : (bs : List Buffer) → 1 ≤ deepest bs
deepest_one [] = omega arith
deepest_one (b ∷ bs) = let z = deepest_one bs in omega arith

pub deepest_above : (bs : List Buffer) (k : ℕ) (b : Buffer) → slice_get bs k ≡ Some b → b.depth ≤ deepest bs
deepest_above [] k b e = absurd cc
deepest_above (d ∷ bs) zero b e = let z = ap (λ (x : Buffer). x.depth) (same_Some d b e) in omega arith
deepest_above (d ∷ bs) (suc k) b e = let z = deepest_above bs k b e in omega arith

pub deepest_below : (bs : List Buffer) (bound : ℕ) → 1 ≤ bound → ((k : ℕ) (b : Buffer) → slice_get bs k ≡ Some b → b.depth ≤ bound) → deepest bs ≤ bound
deepest_below [] bound l h = l
deepest_below (b ∷ bs) bound l h = let x = h 0 b refl in let y = deepest_below bs bound l (λ k d e. h (suc k) d e) in omega arith
