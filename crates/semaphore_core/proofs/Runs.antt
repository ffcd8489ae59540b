-- Runs: one more entry is one more step, a step leads from what is reached to what is reached, and a number that names no sequence changes nothing.
use Rattle.std.proofs.Common.{◌≡◌, ℕ, ◌<◌, ◌≤◌, ◌+◌, Bool, true, cond, List, [], ◌∷◌, ◌++◌, take, length, get_or, Option, Some, refl, sym, ap, subst, ◌∙◌}
use Rattle.std.proofs.lemmas.Bool.{le-ltb}
use Rattle.std.proofs.lemmas.List.{take_more}
use Rattle.semaphore_core.specs.Job.{JobData}
use Rattle.executive_program.specs.declared.steps.MicroStep.{MicroStep}
use Rattle.semaphore_core.specs.Core.{Core, opening, next, reaction, enabled_in, enabled_by, done_in, done_by, step, run_from, IsReached}
use Rattle.semaphore_core.specs.Held.{Held}

module _ (j : JobData) where
  pub step_past : (z : Core) (s : ℕ) → length j.program.seqs ≤ s → step j z s ≡ z
  step_past z s h = rw (le-ltb s (length j.program.seqs) h) refl

  pub run_more : (z : Core) (list : List ℕ) (s : ℕ) → run_from j z (list ++ s ∷ []) ≡ step j (run_from j z list) s
  run_more z [] s = refl
  run_more z (x ∷ xs) s = run_more (step j z x) xs s

  -- from a state that is reached a step leads to one
  pub step_reached : (z : Core) (s : ℕ) → IsReached j z → IsReached j (step j z s)
  step_reached z s r = (r.0 ++ s ∷ [], run_more (opening j) r.0 s ∙ ap (λ (y : Core). step j y s) r.1)

  -- a micro-step that is enabled is the step
  pub step_is : (z : Core) (s : ℕ) (m : MicroStep) → next j z s ≡ Some m → enabled_in z (reaction j z s) m ≡ true → step j z s ≡ done_in j z s (reaction j z s) m
  step_is z s m is on = ap (λ (o : Option MicroStep). cond (enabled_by j z s o) (done_by j z s o) z) is ∙ ap (λ (b : Bool). cond b (done_in j z s (reaction j z s) m) z) on

  -- when that is made the state is reached, in its own reaction
  pub done_reached : (z : Core) (s k : ℕ) (m : MicroStep) → next j z s ≡ Some m → k ≡ reaction j z s → enabled_in z k m ≡ true → IsReached j z → IsReached j (done_in j z s k m)
  done_reached z s k m is e on r = subst (λ (i : ℕ). IsReached j (done_in j z s i m)) (sym e)
      (subst (IsReached j) (step_is z s m is (subst (λ (i : ℕ). enabled_in z i m ≡ true) e on)) (step_reached z s r))

  -- the state after one more entry of a list
  pub one_more : (z h : Held) (list : List ℕ) (i : ℕ) → i < length list → z ≡ record h { core = run_from j h.core (take i list) }
      → record z { core = step j z.core (get_or list i 0) } ≡ record h { core = run_from j h.core (take (i + 1) list) }
  one_more z h list i l e = ap (λ (y : Held). record y { core = step j y.core (get_or list i 0) }) e
      ∙ ap (λ (c : Core). record h { core = c }) (sym (run_more h.core (take i list) (get_or list i 0)) ∙ ap (run_from j h.core) (sym (take_more list i 0 l)))
