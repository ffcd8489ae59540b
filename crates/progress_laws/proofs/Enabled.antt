-- A sequence that is enabled is one of the program, and has more micro-steps to make.
use Rattle.std.proofs.Common.{◌≡◌, ℕ, ◌<◌, ◌≤◌, ◌⊎◌, inl, inr, true, false, length, None, refl, sym, ap, ◌∙◌}
use Rattle.std.proofs.lemmas.Bool.{cases_lt, lt-ltb, le-ltb}
use Rattle.phase_laws.specs.Job.{JobData}
use Rattle.phase_laws.specs.Core.{Core, count, full, next, enabled_by, is_enabled}

module _ (j : JobData) (z : Core) where
  -- a sequence that has made all, or that is not there, is not enabled
  pub off_past : (s : ℕ) → length j.program.seqs ≤ s → is_enabled j z s ≡ false
  off_past s l = let e : next j z s ≡ None = rw (le-ltb s (length j.program.seqs) l) refl in ap (enabled_by j z s) e

  pub off_done : (s : ℕ) → s < length j.program.seqs → full j s ≤ count z s → is_enabled j z s ≡ false
  off_done s l d = let e : next j z s ≡ None = rw (lt-ltb s (length j.program.seqs) l, le-ltb (count z s) (full j s) d) refl in ap (enabled_by j z s) e

  -- one that is enabled is there, and has more to make
  pub enabled_there : (s : ℕ) → is_enabled j z s ≡ true → s < length j.program.seqs
  enabled_there s on = by (cases_lt s (length j.program.seqs))
    where
      by : (s < length j.program.seqs) ⊎ (length j.program.seqs ≤ s) → s < length j.program.seqs
      by (inl l) = l
      by (inr l) = let e : false ≡ true = sym (off_past s l) ∙ on in absurd cc

  pub enabled_pending : (s : ℕ) → is_enabled j z s ≡ true → count z s < full j s
  enabled_pending s on = by (cases_lt (count z s) (full j s))
    where
      by : (count z s < full j s) ⊎ (full j s ≤ count z s) → count z s < full j s
      by (inl l) = l
      by (inr l) = let e : false ≡ true = sym (off_done s (enabled_there s on) l) ∙ on in absurd cc
