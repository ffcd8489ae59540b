use Rattle.std.proofs.Common.{◌≡◌, sym, ◌∙◌, subst}
use Rattle.std.specs.Prelude.{IfOk}
use Rattle.syn_base.specs.Rows.{Reactions}
use Rattle.sync_meaning.proofs.Same.{same_run}
use Rattle.sync_meaning.proofs.simulator.simulate.Goals as goal

pub run_flat-requires : goal.run_flat-requires
run_flat-requires c = c.requires ∙ sym c.in_ok-flat.ensures.lengths.sensors

pub returns : goal.returns
returns c =
    let told = c.in_ok-flat.ensures in
    let same = same_run c.args.tree.now c.in_ok-flat.flat _ c.args.rows.now told.kept told.lengths in
    record { taken = subst (λ (rows : Reactions). IfOk c.run_flat.result (λ taken. taken ≡ rows)) same c.run_flat.ensures }
