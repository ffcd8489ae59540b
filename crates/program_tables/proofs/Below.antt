-- A test of each number below a bound, by a loop.
use Rattle.std.proofs.Common.{◌≡◌, ℕ, ◌<◌, Bool, true, false, refl, sym, ◌∙◌}
use Rattle.std.proofs.lemmas.Bool.{false≢true}
use Rattle.program_walks.specs.Walks.{all_below}
use Rattle.program_walks.proofs.ListTests.{below_of, of_below}

-- one fails
pub one_fails : (test : ℕ → Bool) (n k : ℕ) → k < n → test k ≡ false → false ≡ all_below test n
one_fails test n k l e = by (all_below test n) refl
  where
    by : (b : Bool) → all_below test n ≡ b → false ≡ all_below test n
    by true h = absurd (false≢true (sym e ∙ below_of test n h k l))
    by false h = sym h

-- all pass
pub all_pass : (test : ℕ → Bool) (n : ℕ) → ((k : ℕ) → k < n → test k ≡ true) → true ≡ all_below test n
all_pass test n h = sym (of_below test n h)
