-- Who makes the events that others wait for: one sequence for each
-- test, and families of tests whose events come in one order.
use Rattle.std.specs.Prelude.{◌≡◌, ℕ, zero, suc, ◌+◌, ◌/◌, ◌%◌, ◌<◌, Bool}
use Rattle.interleavings.specs.Precedence.{Event, event}
use Rattle.interleavings.specs.Sites.{Site, step_at, hit, IsSite, nth}
use Rattle.interleavings.specs.System.{System, Micro}

-- one sequence owns a test: it holds at one site of that sequence, and nowhere else
pub record Owner : Type 0 where
  pub sequence : ℕ
  pub site : Site

-- Owner o owns the test p if its sequence is one of the system, p holds in the code of this
-- sequence at the owner's site only, and p holds at no step of another sequence.
pub record IsOwned {P : Type 0} (w : System P) (p : Micro → Bool) (o : Owner) : Type 0 where
  pub here : o.sequence < w.sequences
  pub site : IsSite p (w.codes o.sequence) o.site
  pub alone : (s n : ℕ) → (s ≡ o.sequence → ⊥) → hit p (step_at (w.codes s) n) ≡ 0

abbrev pub nth_of : {P : Type 0} → System P → Owner → ℕ → Event
nth_of w o j = event o.sequence (nth (w.codes o.sequence) o.site j)

-- This is the sum of f over all numbers below n, so 0 if n is 0.
abbrev pub sum_below : (ℕ → ℕ) → ℕ → ℕ
sum_below f zero = 0
sum_below f (suc n) = sum_below f n + f n

-- The events of a family: in each reaction one for each member, in order.
abbrev pub nth_in : {P : Type 0} → System P → ℕ → (ℕ → Owner) → ℕ → Event
nth_in w size owner a = nth_of w (owner (a % size)) (a / size)

module _ {P : Type 0} (w : System P) where
  -- These tests, at least one, make up the test `all`: each is owned and holds in no prologue, and
  -- a step passes `all` if and only if it passes one of them, and then only one.
  pub record IsFamily (size : ℕ) (all : Micro → Bool) (one : ℕ → Micro → Bool) (owner : ℕ → Owner) : Type 0 where
    pub some : 0 < size
    pub owned : (i : ℕ) → i < size → IsOwned w (one i) (owner i)
    pub late : (i : ℕ) → i < size → (owner i).site.early ≡ 0
    pub covers : (s n : ℕ) → hit all (step_at (w.codes s) n) ≡ sum_below (λ i. hit (one i) (step_at (w.codes s) n)) size
