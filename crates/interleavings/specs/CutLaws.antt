-- The laws of consistent cuts.
use Rattle.std.specs.Prelude.{ℕ, ◌<◌, Bool}
use Rattle.interleavings.specs.Precedence.{Precedence, IsSerial, IsConsistent, IsReady, one_more}
use Rattle.interleavings.specs.Sites.{Code, Site, IsSite, passes, nth}

-- Nothing made is a consistent cut, and so is one more event that is ready.
pub record CutsAreConsistent : Type 0 where
  pub opening : (p : Precedence) → IsConsistent p (λ _. 0)
  pub one_more : (p : Precedence) (c : ℕ → ℕ) (s : ℕ) → IsConsistent p c → IsReady p c s → IsConsistent p (one_more c s)

-- In a consistent cut some sequence is ready until all events are made.
abbrev pub MakesProgress : Type 0
MakesProgress = (p : Precedence) (c : ℕ → ℕ) → IsSerial p → IsConsistent p c
    → (s : ℕ) → s < p.sequences → c s < p.full s → (t : ℕ) × (t < p.sequences) × IsReady p c t

-- Of a test that holds at one site: more than j of the first n steps passed it
-- exactly where the step at which it holds for the j-th time is one of them.
abbrev pub CountsPasses : Type 0
CountsPasses = (p : ℕ → Bool) (c : Code ℕ) (x : Site) → IsSite p c x → (n j : ℕ) →
    (j < passes p c n → nth c x j < n) × (nth c x j < n → j < passes p c n)
