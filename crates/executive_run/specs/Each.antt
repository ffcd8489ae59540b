-- Lists that are told place by place.
use Rattle.std.specs.Prelude.{◌≡◌, ℕ, List, Some, slice_get}

-- each of these passes the test of its place
abbrev pub Each : {X : Type 0} → (ℕ → X → Type 0) → List X → Type 0
Each {X} here xs = (k : ℕ) (x : X) → slice_get xs k ≡ Some x → here k x
