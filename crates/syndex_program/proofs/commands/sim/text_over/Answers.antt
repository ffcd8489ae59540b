use Rattle.std.proofs.Common.{◌≡◌, ◌∙◌, ◌*◌, ℕ, length, sum, sym, ap}
use Rattle.compiler.specs.Executions.{output_of}
use Rattle.compiler.specs.Outputs.{excess}
use Rattle.std.specs.Prelude.{Ok, Some, None}
use Rattle.std.proofs.lemmas.Result.{err_from_is_err_and}
use Rattle.syn_base.specs.Bytes.{Bytes}
use Rattle.algo_tree.specs.Ends.{actuator_lengths}
use Rattle.top_plans.specs.Plan.{give}
use Rattle.top_plans.proofs.Makes.{gave, memory}
use Rattle.top_plans.specs.Given.{written}
use Rattle.top_plans.specs.Plans.{rows_plan}
use Rattle.top_plans.proofs.Steps.{is_above, is_within}
use Rattle.syndex_program.proofs.commands.sim.text_over.Goals as goal

pub returns-in_err-width : goal.returns-in_err-width
returns-in_err-width c =
    let p = err_from_is_err_and c.from_residual.result c.from_residual.ensures.1 in
    rw (p.1, p.2) (λ held. memory held (rows_plan c.args.tree.now c.args.rows.now))

pub returns-in-Some : goal.returns-in-Some
returns-in-Some c = λ held.
    let main = c.args.tree.now in
    let rows = c.args.rows.now in
    let counted : c.count.result * c.in_ok-width.width ≡ length rows.reactions * sum (actuator_lengths main) =
    ap (λ (n : ℕ). n * c.in_ok-width.width) c.count.ensures ∙ ap (λ (n : ℕ). length rows.reactions * n) c.in_ok-width.ensures in
    let over : excess (length rows.reactions * sum (actuator_lengths main)) ≡ Some c.in-Some.limit = sym (ap excess counted) ∙ sym c.excess.ensures ∙ c.in-Some.is in
    is_above held (excess (length rows.reactions * sum (actuator_lengths main))) c.in-Some.limit (give (written (output_of main rows.reactions))) over

pub returns-in_err-print_acts-in-None : goal.returns-in_err-print_acts-in-None
returns-in_err-print_acts-in-None c =
    let p = err_from_is_err_and c.from_residual-in_err-print_acts-in-None.result c.from_residual-in_err-print_acts-in-None.ensures.1 in
    rw (p.1, p.2) (λ held. memory held (rows_plan c.args.tree.now c.args.rows.now))

pub returns-in_ok-print_acts-in-None : goal.returns-in_ok-print_acts-in-None
returns-in_ok-print_acts-in-None c = λ held.
    let main = c.args.tree.now in
    let rows = c.args.rows.now in
    let counted : c.count.result * c.in_ok-width.width ≡ length rows.reactions * sum (actuator_lengths main) =
    ap (λ (n : ℕ). n * c.in_ok-width.width) c.count.ensures ∙ ap (λ (n : ℕ). length rows.reactions * n) c.in_ok-width.ensures in
    let within : excess (length rows.reactions * sum (actuator_lengths main)) ≡ None = sym (ap excess counted) ∙ sym c.excess.ensures ∙ c.in-None.is in
    is_within held held (excess (length rows.reactions * sum (actuator_lengths main))) (give (written (output_of main rows.reactions))) _ within
    (gave held _ _ (ap (λ (x : Bytes). Ok (written x)) c.in_ok-print_acts-in-None.ensures))
