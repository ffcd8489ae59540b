use Rattle.std.proofs.Common.{◌≡◌, ◌∙◌, ◌*◌, ℕ, length, sum, sym, ap, refl}
use Rattle.compiler.specs.Outputs.{excess}
use Rattle.std.specs.Prelude.{Ok, Some, None}
use Rattle.std.proofs.lemmas.Result.{err_from_is_err_and}
use Rattle.algo_laws.specs.Ends.{actuator_lengths}
use Rattle.sync_meaning.specs.Simulated.{simulated}
use Rattle.svg_text.specs.Plot.{plot}
use Rattle.top_plans.specs.ActNames.{actuator_names}
use Rattle.top_plans.specs.Plan.{give}
use Rattle.top_plans.proofs.Makes.{gave}
use Rattle.top_plans.specs.declared.Status.TheVariants.{Limit}
use Rattle.lab_plans.specs.Asked.{of_text}
use Rattle.lab_plans.specs.Plans.{plotted}
use Rattle.top_plans.proofs.Steps.{is_above, is_within}
use Rattle.lab_program.proofs.Carried.{no_schedule, stopped, wanted}
use Rattle.lab_program.proofs.commands.plot.plot_over.Goals as goal

pub returns-in_err-width : goal.returns-in_err-width
returns-in_err-width c =
    let p = err_from_is_err_and c.from_residual.result c.from_residual.ensures.1 in
    rw (p.1, p.2) (λ held. wanted (plotted c.args.tree.now c.args.rows.now) held _ refl)

pub returns-in-Some : goal.returns-in-Some
returns-in-Some c = λ held.
    let main = c.args.tree.now in
    let rows = c.args.rows.now in
    let counted : c.count.result * c.in_ok-width.width ≡ length rows.reactions * sum (actuator_lengths main) =
    ap (λ (n : ℕ). n * c.in_ok-width.width) c.count.ensures ∙ ap (λ (n : ℕ). length rows.reactions * n) c.in_ok-width.ensures in
    let over : excess (length rows.reactions * sum (actuator_lengths main)) ≡ Some c.in-Some.limit = sym (ap excess counted) ∙ sym c.excess.ensures ∙ c.in-Some.is in
    stopped (plotted main rows) held held (Limit c.in-Some.limit)
    (is_above held (excess (length rows.reactions * sum (actuator_lengths main))) c.in-Some.limit (give (of_text (plot (actuator_names main) (simulated main rows)))) over)

pub returns-in_err-print_plot-in-None : goal.returns-in_err-print_plot-in-None
returns-in_err-print_plot-in-None c =
    let p = err_from_is_err_and c.from_residual-in_err-print_plot-in-None.result c.from_residual-in_err-print_plot-in-None.ensures.1 in
    rw (p.1, p.2) (λ held. wanted (plotted c.args.tree.now c.args.rows.now) held _ refl)

pub returns-in_ok-print_plot-in-None : goal.returns-in_ok-print_plot-in-None
returns-in_ok-print_plot-in-None c = λ held.
    let main = c.args.tree.now in
    let rows = c.args.rows.now in
    let counted : c.count.result * c.in_ok-width.width ≡ length rows.reactions * sum (actuator_lengths main) =
    ap (λ (n : ℕ). n * c.in_ok-width.width) c.count.ensures ∙ ap (λ (n : ℕ). length rows.reactions * n) c.in_ok-width.ensures in
    let within : excess (length rows.reactions * sum (actuator_lengths main)) ≡ None = sym (ap excess counted) ∙ sym c.excess.ensures ∙ c.in-None.is in
    let asked = of_text (plot (actuator_names main) (simulated main rows)) in (
      Ok asked,
      is_within held held (excess (length rows.reactions * sum (actuator_lengths main))) (give asked) (Ok asked) within (gave held asked (Ok asked) refl),
      (no_schedule, tt, c.in_ok-print_plot-in-None.ensures),
    )
