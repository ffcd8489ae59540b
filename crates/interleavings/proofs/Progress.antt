-- In consistent counts a ready sequence is enabled, so some sequence is enabled until all is done; and each next micro-step finds what is its own.
use Rattle.std.proofs.Common.{◌≡◌, ℕ, ◌<◌, ◌≤◌, ◌⊎◌, inl, inr, true, Some, refl, eq-eqb}
use Rattle.std.proofs.lemmas.Bool.{le-leb, cases_lt, lt-ltb, le-ltb}
use Rattle.std.proofs.lemmas.Option.{none-some}
use Rattle.interleavings.specs.Sites.{step_at}
use Rattle.interleavings.specs.Precedence.{Precedence, IsReady}
use Rattle.interleavings.specs.System.{System, Micro, take, see, sub, signal, await, advance, load, store, stores, total, told, enabled_by, next, full, round_number}
use Rattle.interleavings.specs.Laws.{Finds}
use Rattle.interleavings.proofs.Told.{latest_is, IsSoundAt}

module _ {P : Type 0} (w : System P) (p : Precedence) (stored : ℕ → ℕ → Rattle.std.specs.Prelude.ℤ) (owned : ℕ → ℕ → P) (c : ℕ → ℕ) (s : ℕ) where
  pub enabled_at : (m : Micro) → IsSoundAt w p c s m → IsReady p c s → enabled_by w (told w stored owned c) s (Some m) ≡ true
  enabled_at (take x) o r = eq-eqb _ 1 (o.1 r)
  enabled_at (see x) o r = le-leb 1 _ (o.1 r)
  enabled_at (sub x) o r = refl
  enabled_at (signal x) o r = refl
  enabled_at (await m i b) o r = o.1 r
  enabled_at (advance m i) o r = refl
  enabled_at (load y i) o r = refl
  enabled_at (store y i) o r = refl

  pub finds_at : (m : Micro) → IsSoundAt w p c s m → Finds w stored owned c s m
  finds_at (take x) o = tt
  finds_at (see x) o = tt
  finds_at (sub x) o = o.1
  finds_at (signal x) o = tt
  finds_at (await m i b) o = tt
  finds_at (advance m i) o = tt
  finds_at (load y i) o = latest_is w (stored y) (w.depth y) (round_number w s (c s) y i) (total w (stores y) c) o.1 o.2
  finds_at (store y i) o = o.1

-- a sequence that has a next micro-step is there, and not at its end
pub next_is : {P : Type 0} (w : System P) (c : ℕ → ℕ) (s : ℕ) (m : Micro) → next w c s ≡ Some m → (s < w.sequences) × (c s < full w s) × (step_at (w.codes s) (c s) ≡ Some m)
next_is w c s m e = by (cases_lt s w.sequences) (cases_lt (c s) (full w s))
  where
    by : (s < w.sequences) ⊎ (w.sequences ≤ s) → (c s < full w s) ⊎ (full w s ≤ c s) → (s < w.sequences) × (c s < full w s) × (step_at (w.codes s) (c s) ≡ Some m)
    by (inl h) (inl l) = (h, l, (let q = e in rw (lt-ltb s w.sequences h, lt-ltb (c s) (full w s) l) at q))
    by (inl h) (inr l) = absurd (none-some m (let q = e in rw (lt-ltb s w.sequences h, le-ltb (c s) (full w s) l) at q))
    by (inr h) l = absurd (none-some m (let q = e in rw (le-ltb s w.sequences h) at q))
