use Rattle.std.proofs.Common.{◌+◌, ◌∙◌, sym, subst, List}
use Rattle.algo_rules.specs.declared.ports.Ports.{Ports}
use Rattle.algo_check.specs.Tables.{IsFilling}
use Rattle.algo_check.proofs.Here.{level_is}
use Rattle.algo_check.proofs.Filling.{passed_over}
use Rattle.algo_check.proofs.tables.fill_depth.Goals as goal
use Rattle.algo_check.proofs.tables.fill_depth.Goals.{then-depth_at-depth+in_ok-fill_place, else-depth_at-depth}

pub loop-place-preserved : goal.loop-place-preserved
loop-place-preserved c =
    let ds = c.args.defs.now in
    let i = c.loop-place.place in
    let level = level_is ds c.args.levels.now.links c.args.levels.now.depths c.requires.leveled i c.loop-place-test.true in
    elim c.if-depth_at-depth.branch [
      | then-depth_at-depth+in_ok-fill_place w ↦ subst (λ (t : List Ports). IsFilling ds c.args.depth (i + 1) t) (sym w.table-is) w.in_ok-fill_place.ensures
      | else-depth_at-depth w ↦
          subst (λ (t : List Ports). IsFilling ds c.args.depth (i + 1) t) (sym w.table-is)
          (passed_over ds c.args.depth i c.loop-place.table (λ same. w.if-depth_at-depth.false (c.depth_at.ensures ∙ level ∙ same)) c.loop-place.invariant)
    ]
