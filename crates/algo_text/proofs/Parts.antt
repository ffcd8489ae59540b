-- What it says that a line may follow.
use Rattle.std.proofs.Common.{◌≡◌, ℕ, ◌≤◌, ◌&&◌, Bool, true, false, nat_lt, nat_le, refl, arith}
use Rattle.algo_text.specs.declared.part.Part.{Part}
use Rattle.algo_text.specs.Parts.{rank, admits}

both_hold : (a b : Bool) → (a && b) ≡ true → (a ≡ true) × (b ≡ true)
both_hold true true h = (refl, refl)
both_hold true false h = cc
both_hold false b h = cc

some : (m : ℕ) → nat_lt 0 m ≡ true → 1 ≤ m
some m h = grind arith

at_least : (m n : ℕ) → nat_le m n ≡ true → m ≤ n
at_least m n h = grind arith

pub admitted : (last next : Part) → admits last next ≡ true → (1 ≤ rank last) × (rank last ≤ rank next)
admitted last next h =
    let tests = both_hold (nat_lt 0 (rank last)) (nat_le (rank last) (rank next)) h in
    (some (rank last) tests.0, at_least (rank last) (rank next) tests.1)
