use Rattle.std.proofs.Common.{◌≡◌, subst, length}
use Rattle.std.specs.Prelude.{None, Some}
use Rattle.word_rule.specs.IsJob.{limit_in}
use Rattle.self_timed.specs.Sequences.{sequences}
use Rattle.self_timed.specs.WellFormed.{IsWellFormed}
use Rattle.self_timed.specs.Graph.{Graph}
use Rattle.syndex_program.proofs.Executing.{fit, given, stopped}
use Rattle.syndex_program.proofs.execution.execution_of.Goals as goal

pub returns-in-Ok-clause-makes : goal.returns-in-Ok-clause-makes
returns-in-Ok-clause-makes c = λ held.
    let within = subst (λ (f : Graph). limit_in c.args.program f (length c.args.rows.reactions) ≡ None) c.requires.same c.in-Ok.ensures.within in
    rw c.into_tree.ensures (given c.args.algorithm.tree c.args.text.archi c.args.rows c.args.program held within)

pub returns-in-Ok-clause-executed : goal.returns-in-Ok-clause-executed
returns-in-Ok-clause-executed c =
    let a = c.args.text.archi in
    let p = c.args.program in
    rw c.into_tree.ensures (record {
      flat = c.requires.same;
      has = c.requires.has;
      fits = fit c.args.algorithm.tree a c.args.rows p c.requires.has
          (subst (λ (f : Graph). IsWellFormed p f (sequences a) (length a.media)) c.requires.same c.requires.formed) c.requires.lens c.requires.few;
      limit = subst (λ (f : Graph). limit_in p f (length c.args.rows.reactions) ≡ None) c.requires.same c.in-Ok.ensures.within;
      steps = c.in-Ok.ensures.total;
    })

pub returns-in-Err-clause-makes : goal.returns-in-Err-clause-makes
returns-in-Err-clause-makes c = λ held.
    let over = subst (λ (f : Graph). limit_in c.args.program f (length c.args.rows.reactions) ≡ Some c.in-Err.limit) c.requires.same c.in-Err.ensures.limit in
    stopped c.args.algorithm.tree c.args.text.archi c.args.rows c.args.program held c.in-Err.limit over
