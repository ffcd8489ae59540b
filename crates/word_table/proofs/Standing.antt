-- Where a sequence of a driver stands, from the micro-steps that are laid out and its count.
use Rattle.std.proofs.Common.{◌%◌, ◌≡◌, ℕ, zero, suc, ◌+◌, ◌*◌, ◌<◌, ◌≤◌, List, [], ◌∷◌, length, get_or, Option, Some, None, refl, sym, ap, arith, ◌∙◌}
use Rattle.executive_program.specs.Sites.{step_at, reaction_at}
use Rattle.executive_program.specs.declared.expand.SeqSteps.{SeqSteps}
use Rattle.executive_program.specs.declared.steps.MicroStep.{MicroStep}
use Rattle.executive_program.specs.Expanded.{code_of, next_in}
use Rattle.executive_program.specs.Steps.{steps}
use Rattle.word_rule.specs.Job.{JobData}
use Rattle.word_rule.specs.Core.{full}
use Rattle.word_rule.proofs.CoreStanding.{code_at, laid_out, next_at, not_past, stands_at, none_left}
use Rattle.word_rule.specs.declared.next.Next.{Next}
use Rattle.word_rule.specs.Given.{IsThere}
use Rattle.word_rule.specs.Views.{count_in}
use Rattle.word_rule.specs.Words.{word_at}
use Rattle.word_table.specs.declared.driver_parts.DriverParts.{DriverParts}
use Rattle.word_table.specs.declared.fabric_parts.FabricParts.{FabricParts}
use Rattle.word_table.specs.Answers.{HasNext}
use Rattle.word_table.specs.Parts.{IsDriver, AreFabricParts, IsOf, CanMake, driver_view}

any_default : {A : Type 0} (xs : List A) (i : ℕ) (d e : A) → i < length xs → get_or xs i d ≡ get_or xs i e
any_default [] i d e h = absurd (omega arith)
any_default (x ∷ xs) zero d e h = refl
any_default (x ∷ xs) (suc i) d e h = any_default xs i d e (omega arith)

module _ (f : FabricParts) (d : DriverParts) (s : ℕ) (is : AreFabricParts f) (o : IsOf f d) (there : s < length f.job.now.program.seqs)
    (drives : s % d.groups ≡ d.group) (code : SeqSteps) (code_is : code ≡ get_or f.steps.items s code)
    (n : ℕ) (n_at : n ≡ get_or d.counts.items s n) (N : ℕ) (reactions_are : N ≡ length f.job.now.sensors) where
  abbrev J : JobData
  J = f.job.now

  abbrev driver : IsDriver J f.table.table o.0 d
  driver = o.1

  abbrev count : ℕ
  count = (driver.all s there drives).0

  driven : count_in o.0.driven s ≡ Some count
  driven = (driver.all s there drives).1

  pub count_at : n ≡ get_or d.counts.items s 0
  count_at = n_at ∙ any_default d.counts.items s n 0 (let b = driver.counts_there in omega (arith, there, b))

  count_is : n ≡ count
  count_is = count_at ∙ driver.counted s count driven

  code_same : steps J.program s ≡ code_of code
  code_same = code_at J f.steps.items is.steps_are s there code code_is

  -- all its micro-steps, as they are laid out
  pub full_is : length code.prologue + N * length code.turn ≡ full d.job.now s
  full_is = (λ i. length (sym code_same i).prologue + reactions_are i * length (sym code_same i).turn) ∙ ap (λ (j : JobData). full j s) (sym driver.of_job)

  pub all_made : length code.prologue + N * length code.turn ≤ n → get_or d.counts.items s 0 ≡ full d.job.now s
  all_made l =
      let w = driver.within s count driven in let j = ap (λ (j : JobData). full j s) driver.of_job in omega (arith, l, w, j, full_is, count_is, count_at)

  -- its next micro-step
  module _ (r : Option MicroStep) (next_is : r ≡ next_in N code n) where
    next_here : next_at J s count ≡ r
    next_here = sym (next_is ∙ (λ i. next_in (reactions_are i) code (count_is i)) ∙ laid_out J s count f.steps.items is.steps_are there code code_is)

    pub finished : r ≡ None → get_or d.counts.items s 0 ≡ full d.job.now s
    finished e = let a = none_left J s count (next_here ∙ e) in let w = driver.within s count driven in let q : count ≡ full J s = omega (arith, a, w) in
        driver.counted s count driven ∙ q ∙ ap (λ (j : JobData). full j s) (sym driver.of_job)

    pub pending : (m : MicroStep) → r ≡ Some m → get_or d.counts.items s 0 < full d.job.now s
    pending m e =
        let l = not_past J s count m (next_here ∙ e) in let q = driver.counted s count driven in let w = ap (λ (j : JobData). full j s) driver.of_job in omega (arith, l, q, w)

    module _ (m : MicroStep) (e : r ≡ Some m) (k : ℕ) (k_at : k ≡ reaction_at (code_of code) n) where
      reaction_is : reaction_at (steps J.program s) count ≡ k
      reaction_is = sym (k_at ∙ (λ i. reaction_at (sym code_same i) (count_is i)))

      pub step_there : IsThere f.job.now m
      step_there = is.runs.there s count m (stands_at J s count m (next_here ∙ e))

      pub can_make : (word : ℕ) → word ≡ word_at f.job.now k m → CanMake f d (record { seq = s; reaction = k; word = word; step = m })
      can_make word w = record {
        knowledge = o.0;
        count = count;
        driver = driver;
        drives = driven;
        more =
            not_past J s count m (next_here ∙ e);
        next_step = stands_at J s count m (next_here ∙ e);
        in_reaction = reaction_is;
        word_is = w;
      }

-- s has a next micro-step, as contracts see it
pub has_next : (f : FabricParts) (d : DriverParts) (next : Next) → CanMake f d next → HasNext (driver_view d) next.seq next.reaction next.step
has_next f d next c = record {
  more = let q = counted in let w = ap (λ (j : JobData). full j next.seq) job in let l = c.more in omega (arith, q, w, l);
  next = (λ i. step_at (steps (job i).program next.seq) (counted i)) ∙ c.next_step;
  in_reaction = (λ i. reaction_at (steps (job i).program next.seq) (counted i)) ∙ c.in_reaction;
}
  where
    counted : get_or d.counts.items next.seq 0 ≡ c.count
    counted = c.driver.counted next.seq c.count c.drives

    job : d.job.now ≡ f.job.now
    job = c.driver.of_job
