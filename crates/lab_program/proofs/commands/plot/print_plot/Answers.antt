use Rattle.std.proofs.Common.{◌≡◌, ◌∙◌, ℕ, List, length, map, ap, subst, arith, Bor}
use Rattle.std.specs.Prelude.{IfOk}
use Rattle.std.proofs.lemmas.List.{length-map}
use Rattle.syn_base.specs.Rows.{Reactions}
use Rattle.algo_laws.specs.Ends.{actuator_lengths}
use Rattle.sync_meaning.specs.Simulated.{simulated}
use Rattle.svg_text.specs.Plot.{plot}
use Rattle.top_plans.specs.ActNames.{actuator_names}
use Rattle.top_plans.proofs.EndCounts.{as_many}
use Rattle.lab_program.proofs.commands.plot.print_plot.Goals as goal

pub plot_rows-requires : goal.plot_rows-requires
plot_rows-requires c =
    let names : length (map (λ (s : Bor (List ℕ)). s.now) c.in_ok-names.names.items) ≡ length (actuator_names c.args.tree.now) = ap length c.in_ok-names.ensures in
    let same : length (map (λ (s : Bor (List ℕ)). s.now) c.in_ok-names.names.items) ≡ length c.in_ok-names.names.items = simp length-map in
    let lens : length c.in-Ok.acts.lens ≡ length (actuator_lengths c.args.tree.now) = ap (λ (rows : Reactions). length rows.lens) c.in-Ok.ensures.taken in
    let many = as_many c.args.tree.now in
    let slice : length c.deref.result.now ≡ length c.in_ok-names.names.items = ap length c.deref.ensures.value in
    omega (arith, names, same, lens, many, slice)

pub returns : goal.returns
returns c =
    let given : map (λ (s : Bor (List ℕ)). s.now) c.deref.result.now ≡ actuator_names c.args.tree.now =
    ap (map (λ (s : Bor (List ℕ)). s.now)) c.deref.ensures.value ∙ c.in_ok-names.ensures in
    subst (λ (names : List (List ℕ)). IfOk c.plot_rows.result (λ text. text.items ≡ plot names (simulated c.args.tree.now c.args.rows.now))) given
    (subst (λ (rows : Reactions). IfOk c.plot_rows.result (λ text. text.items ≡ plot (map (λ (s : Bor (List ℕ)). s.now) c.deref.result.now) rows)) c.in-Ok.ensures.taken c.plot_rows.ensures)
