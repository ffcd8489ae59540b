-- Tests of all elements of a list, and of all instructions of a program.
use Rattle.std.specs.Prelude.{ℕ, ◌+◌, Bool, true, false, ◌&&◌, cond, nat_eq, List, [], ◌∷◌, Option, Some, None}
use Rattle.std.specs.List.{list_all, range_with_len}
use Rattle.executive_program.specs.declared.program.Instr.{Instr}
use Rattle.executive_program.specs.declared.program.Program.{Program}

-- the test passes for each number below n
abbrev pub all_below : (ℕ → Bool) → ℕ → Bool
all_below test n = list_all test (range_with_len 0 n)

-- the test passes at each element with its place, of which the first is n
abbrev pub all_at : {X : Type 0} → (ℕ → X → Bool) → ℕ → List X → Bool
all_at test n [] = true
all_at test n (x ∷ xs) = test n x && all_at test (n + 1) xs

-- the place after the list, of which the first element has place n, if the test passes at each element with its place
abbrev pub passed : {X : Type 0} → (ℕ → X → Bool) → ℕ → List X → Option ℕ
passed test n [] = Some n
passed test n (x ∷ xs) = cond (test n x) (passed test (n + 1) xs) None

-- the test passes at each instruction with its sequence and its place
abbrev pub every : Program → (ℕ → ℕ → Instr → Bool) → Bool
every p test = all_at (λ s q. all_at (test s) 0 q.turn) 0 p.seqs

-- If a is true, then b is; it is false only if a is true and b is false.
abbrev pub implies : Bool → Bool → Bool
implies a b = cond a b true

-- the number that stands there is b
abbrev pub names : Option ℕ → ℕ → Bool
names None b = false
names (Some c) b = nat_eq c b
