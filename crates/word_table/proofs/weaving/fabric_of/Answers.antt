use Rattle.std.proofs.Common.{refl, subst}
use Rattle.executive_program.specs.declared.program.Program.{Program}
use Rattle.executive_program.specs.Expanded.{AreSteps}
use Rattle.word_table.proofs.weaving.fabric_of.Goals as goal

pub returns-clause-fabric : goal.returns-clause-fabric
returns-clause-fabric c = (
  record {
    runs = c.job_runs_on_words.ensures;
    key = c.in_ok-table.ensures.key;
    some = c.requires;
    steps_are = subst (λ (p : Program). AreSteps p c.in_ok-steps.steps.items) c.program.ensures.same c.in_ok-steps.ensures;
    turns = c.in_ok-turns.ensures.turns;
    starts_there = c.in_ok-turns.ensures.starts_there;
    starts = c.in_ok-turns.ensures.starts;
    words_few = c.in_ok-table.ensures.few;
    laid = c.in_ok-remains.ensures;
  },
  refl,
  refl,
)
