-- From what counts tell to what they tell with one more micro-step.
use Rattle.std.proofs.Common.{◌≡◌, ℕ, ◌<◌, ◌≤◌, true, List, length, get_or, set, Some, sym, ap, subst, arith, ◌∙◌}
use Rattle.std.proofs.lemmas.Bool.{lt-ltb}
use mathlib.Core.Option.{some}
use lib.ListN.{get_elem?}
use Rattle.atomic_table.specs.Table.{State}
use Rattle.executive_program.specs.Sites.{step_at, reaction_at}
use Rattle.executive_program.specs.declared.steps.MicroStep.{MicroStep}
use Rattle.executive_program.specs.declared.steps.MicroStep.TheVariants.{Lower}
use Rattle.executive_program.specs.Steps.{steps}
use Rattle.phase_laws.specs.Job.{JobData}
use Rattle.phase_laws.specs.Core.{Core, run, full, next, reaction, enabled_in, enabled_by, done_in}
use Rattle.phase_laws.specs.Told.{told}
use Rattle.phase_laws.specs.Laws.{one_more, GoesOn}
use Rattle.phase_laws.proofs.Runs.{step_is}
use Rattle.word_rule.specs.declared.view.Knowledge.{Knowledge}
use Rattle.word_rule.specs.declared.view.View.{View}
use Rattle.word_rule.specs.declared.view.View.TheVariants.{Holds}
use Rattle.word_rule.specs.Words.{table_of, AreExact}
use Rattle.word_rule.specs.Views.{count_in, raised}
use Rattle.word_rule.specs.Rule.{AreTold, TellsAt}
use Rattle.word_rule.specs.Given.{IsShaped, HasRoom, RunsOnWords}
use Rattle.word_rule.proofs.Keeps.{raised_keeps}

module _ (j : JobData) (g : RunsOnWords j) (counts : List ℕ) (c : AreTold j counts) where
  abbrev pub Now : Core
  Now = told j counts

  is_run : run j c.reached.0 ≡ Now
  is_run = g.laws.told c.reached.0 ∙ ap (told j) c.reached.1

  pub shaped : IsShaped j Now
  shaped = subst (IsShaped j) is_run (g.shaped c.reached.0)

  pub room : HasRoom j Now
  room = subst (HasRoom j) is_run (g.room c.reached.0)

  pub counts_there : length counts ≡ length j.program.seqs
  counts_there = shaped.counts

  module _ (s n r : ℕ) (m : MicroStep) (counted : get_or counts s 0 ≡ n) (here : s < length j.program.seqs) (more : n < full j s)
      (next_step : step_at (steps j.program s) n ≡ Some m) (in_reaction : reaction_at (steps j.program s) n ≡ r) where
    pub next_is : next j Now s ≡ Some m
    next_is = let f : get_or counts s 0 < full j s = omega (arith, counted) in
        rw (lt-ltb s (length j.program.seqs) here, lt-ltb (get_or counts s 0) (full j s) f) (ap (step_at (steps j.program s)) counted ∙ next_step)

    pub reaction_is : reaction j Now s ≡ r
    reaction_is = ap (reaction_at (steps j.program s)) counted ∙ in_reaction

    module _ (on : enabled_in Now r m ≡ true) where
      on_here : enabled_in Now (reaction j Now s) m ≡ true
      on_here = ap (λ (k : ℕ). enabled_in Now k m) reaction_is ∙ on

      pub goes : GoesOn j counts s
      goes = g.laws.goes_on counts s c.reached (ap (enabled_by j Now s) next_is ∙ on_here)

      pub tells : told j (one_more j counts s) ≡ done_in j Now s r m
      tells = goes.tells ∙ step_is j Now s m next_is on_here ∙ ap (λ (k : ℕ). done_in j Now s k m) reaction_is

      pub new_told : AreExact (done_in j Now s r m).elements → AreTold j (one_more j counts s)
      new_told e = record { reached = goes.reached; exact = subst AreExact (sym (ap (λ (z : Core). z.elements) tells)) e }

      -- The rule after the step of a seat that drives s.
      pub stepped_keeps : (t : State (Unit {0}) View) (b : TellsAt j t counts) (id : ℕ) (k l : Knowledge) → get_elem? t.views id ≡ some (Holds k) → l.job ≡ j
          → count_in k.driven s ≡ Some n → l.driven ≡ raised k.driven s → (words : List ℕ) → words ≡ table_of (done_in j Now s r m) → AreExact (done_in j Now s r m).elements
          → TellsAt j (record { words = words; homes = t.homes; views = set t.views id (Holds l) }) (one_more j counts s)
      stepped_keeps t b id k l at job mine driven words e exact = let i : s < length counts = (let a = counts_there in omega arith) in
          raised_keeps j t counts b id k l at job s n mine driven i words (new_told exact) (e ∙ ap table_of (sym tells))

  -- a lower finds a signal
  pub finds_signal : (s n r x : ℕ) → get_or counts s 0 ≡ n → s < length j.program.seqs → n < full j s → step_at (steps j.program s) n ≡ Some (Lower x) → reaction_at (steps j.program s) n ≡ r
      → 1 ≤ get_or Now.semaphores x 0
  finds_signal s n r x counted here more next_step in_reaction = (g.reached counts c.reached).finds s (Lower x) (next_is s n r (Lower x) counted here more next_step in_reaction)
