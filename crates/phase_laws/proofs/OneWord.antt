-- A sequence is enabled by the one word that its next micro-step looks at.
use Rattle.std.proofs.Common.{◌≡◌, ℕ, ◌*◌, ◌+◌, cond, ltb, length, Option, Some, None, refl, ap, ◌∙◌}
use Rattle.std.specs.Prelude.{nat_eq, nat_le}
use Rattle.executive_program.specs.Sites.{step_at, reaction_at}
use Rattle.executive_program.specs.System.{turn_reached}
use Rattle.executive_program.specs.declared.steps.MicroStep.{MicroStep}
use Rattle.executive_program.specs.declared.steps.MicroStep.TheVariants.{Take, See, Lower, Signal, Await, Advance, Load, Store}
use Rattle.executive_program.specs.Steps.{steps}
use Rattle.semaphore_core.specs.Job.{JobData}
use Rattle.semaphore_core.specs.Core.{Core, full, next, reaction, enabled_in, enabled_by}
use Rattle.phase_laws.specs.OneWord.{HaveSameWord, looked_at, looked_at_by, EnabledByOneWord}

-- in one reaction
same_in : (z y : Core) (k : ℕ) (m : MicroStep) → HaveSameWord z y (looked_at m) → enabled_in z k m ≡ enabled_in y k m
same_in z y k (Take x) e = ap (λ (w : ℕ). nat_eq w 1) e
same_in z y k (See x) e = ap (λ (w : ℕ). nat_le 1 w) e
same_in z y k (Await m i n exact) e = ap (λ (w : ℕ). turn_reached exact w (k * n + i)) e
same_in z y k (Lower x) e = refl
same_in z y k (Signal x) e = refl
same_in z y k (Advance m) e = refl
same_in z y k (Load x then) e = refl
same_in z y k (Store x what) e = refl

same_by : (z y : Core) (j : JobData) (s : ℕ) (o : Option MicroStep) → reaction j z s ≡ reaction j y s → HaveSameWord z y (looked_at_by o) → enabled_by j z s o ≡ enabled_by j y s o
same_by z y j s None k e = refl
same_by z y j s (Some m) k e = ap (λ (i : ℕ). enabled_in z i m) k ∙ same_in z y (reaction j y s) m e

pub enabled_by_one_word : EnabledByOneWord
enabled_by_one_word j z y s c e = same_by z y j s (next j z s) (ap (reaction_at (steps j.program s)) c) e ∙ ap (enabled_by j y s) next_same
  where
    next_same : next j z s ≡ next j y s
    next_same = λ i. cond (ltb s (length j.program.seqs)) (cond (ltb (c i) (full j s)) (step_at (steps j.program s) (c i)) None) None
