use Rattle.std.proofs.Common.{◌∙◌, ap}
use Rattle.std.proofs.lemmas.Result.{err_from_is_err_and}
use Rattle.syn_base.specs.Rows.{Reactions}
use Rattle.word_rule.specs.Ended.{all_acts}
use Rattle.word_rule.specs.Job.{reactions}
use Rattle.job_windows.specs.Windowed.{first_of}
use Rattle.top_plans.specs.ActNames.{actuator_names}
use Rattle.top_plans.specs.ActText.{text_from}
use Rattle.syndex_program.proofs.Going.{few_numbers, goes, wants_before, wants_behind}
use Rattle.syndex_program.proofs.Leaving.{lines_of, no_more}
use Rattle.syndex_program.specs.Left.{stage_from}
use Rattle.syndex_program.proofs.lines.Lines.next.Goals as goal

pub acts_text_from-requires-clause-lens : goal.acts_text_from-requires-clause-lens
acts_text_from-requires-clause-lens g c =
    let made = rw c.in-Ok-Some.field-0-is at c.in-Ok-Some.ensures in
    ap (λ (r : Reactions). r.lens) c.rows.ensures ∙ made.2.lens ∙ c.args.self.now.lens

pub acts_text_from-requires-clause-numbers : goal.acts_text_from-requires-clause-numbers
acts_text_from-requires-clause-numbers g c =
    let w = c.args.self.now.windows in
    let made = rw c.in-Ok-Some.field-0-is at c.in-Ok-Some.ensures in
    few_numbers c.first-first.result (first_of w.next) (reactions w.job) (all_acts w.job) c.rows.result.now.reactions c.first-first.ensures.bound
    (ap (λ (r : Reactions). r.reactions) c.rows.ensures ∙ made.2.rows ∙ made.3)

pub returns-in_ok-text-in-Ok-Some : goal.returns-in_ok-text-in-Ok-Some
returns-in_ok-text-in-Ok-Some g c =
    let w = c.args.self.now.windows in
    let main = c.args.self.now.tree.now in
    let made = rw c.in-Ok-Some.field-0-is at c.in-Ok-Some.ensures in
    let rows = ap (λ (r : Reactions). r.reactions) c.rows.ensures ∙ made.2.rows ∙ made.3 in
    goes main w c.args.driven.now c.run_next.new.driven made.0 c.go_on.new.self c.in_ok-text-in-Ok-Some.text.items c.go_on.ensures
    (c.in_ok-text-in-Ok-Some.ensures ∙ ap (λ s. text_from s (actuator_names main) c.rows.result.now.reactions) c.first-first.ensures.value
    ∙ lines_of main w.job (first_of w.next) c.rows.result.now.reactions c.args.self.now.acts rows)
    made.1

pub returns-in_err-text-in-Ok-Some : goal.returns-in_err-text-in-Ok-Some
returns-in_err-text-in-Ok-Some g c =
    let w = c.args.self.now.windows in
    let main = c.args.self.now.tree.now in
    let made = rw c.in-Ok-Some.field-0-is at c.in-Ok-Some.ensures in
    let p = err_from_is_err_and c.from_residual.result c.from_residual.ensures.1 in
    rw p.1 (wants_behind main w c.args.driven.now c.run_next.new.driven made.0 made.1)

pub returns-in-Ok-None : goal.returns-in-Ok-None
returns-in-Ok-None g c =
    let made = rw c.in-Ok-None.field-0-is at c.in-Ok-None.ensures in
    (no_more (stage_from c.args.self.now.tree.now c.args.self.now.windows.job) c.args.self.now.windows made.0, made.1)

pub returns-in-Err : goal.returns-in-Err
returns-in-Err g c = wants_before c.args.self.now.tree.now c.args.self.now.windows c.args.driven.now c.run_next.new.driven c.in-Err.ensures.0 c.in-Err.ensures.1
