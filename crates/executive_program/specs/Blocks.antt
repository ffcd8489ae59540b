-- A list made of blocks, one after the other.
use Rattle.std.specs.Prelude.{ℕ, zero, suc, cond, nat_lt, List, [], ◌∷◌, ◌++◌}
use Rattle.interleavings.specs.Owners.{sum_below}

-- The blocks with the numbers 0 to n - 1, one after another.
abbrev pub blocks : {A : Type 0} → (ℕ → List A) → ℕ → List A
blocks f zero = []
blocks f (suc n) = blocks f n ++ f n

-- Of n blocks of lengths f: the one in which place l stands.
abbrev pub block_at : (ℕ → ℕ) → ℕ → ℕ → ℕ
block_at f zero l = 0
block_at f (suc n) l = cond (nat_lt l (sum_below f n)) (block_at f n l) n

-- A list with n times x.
abbrev pub repeated : {A : Type 0} → A → ℕ → List A
repeated x zero = []
repeated x (suc n) = x ∷ repeated x n
