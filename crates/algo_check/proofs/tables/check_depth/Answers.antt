use Rattle.std.proofs.Common.{◌<◌, ◌∙◌, sym, get_or, length, arith}
use Rattle.std.proofs.lemmas.List.{get_or_default}
use Rattle.std.proofs.lemmas.Option.{get_or_from_slice_get}
use Rattle.std.proofs.lemmas.Result.{err_from_is_err_and}
use Rattle.algo_check.proofs.Inside.{there}
use Rattle.algo_check.proofs.InOrder.{told, tells}
use Rattle.algo_check.proofs.Here.{levels_count}
use Rattle.algo_check.proofs.ByDepth.{refused, passed, other}
use Rattle.algo_check.proofs.tables.check_depth.Goals as goal
use Rattle.algo_check.proofs.tables.check_depth.Goals.{then-depth_at-depth+in_ok-check_place, else-depth_at-depth}

pub returns-in_err-check_place : goal.returns-in_err-check_place
returns-in_err-check_place c =
    let p = err_from_is_err_and c.from_residual.result c.from_residual.ensures.1 in
    let ds = c.args.defs.now in
    let levels = c.args.levels.now.depths in
    let i = c.loop-place.place in
    let has : i < length levels = omega (arith, levels_count ds c.args.levels.now.links levels c.requires.leveled, c.loop-place-test.true) in
    let d = there ds i c.loop-place-test.true in
    rw (p.1, p.2) (told (Unit {0}) _ _
    (refused ds c.args.depth ds levels i (get_or levels i 0) d.0 c.loop-place-test.true has (sym (get_or_from_slice_get ds i d.0 d.0 d.1)) (get_or_default levels i 0 (get_or levels i 0) has)
    _ _ (sym c.depth_at.ensures ∙ c.if-depth_at-depth.true) c.loop-place.invariant (tells (Unit {0}) _ _ (c.in_err-check_place.ensures d.0 d.1))))

pub loop-place-preserved : goal.loop-place-preserved
loop-place-preserved c =
    let ds = c.args.defs.now in
    let levels = c.args.levels.now.depths in
    let i = c.loop-place.place in
    let has : i < length levels = omega (arith, levels_count ds c.args.levels.now.links levels c.requires.leveled, c.loop-place-test.true) in
    let d = there ds i c.loop-place-test.true in
    elim c.if-depth_at-depth.branch [
      | then-depth_at-depth+in_ok-check_place w ↦
          passed ds c.args.depth ds levels i (get_or levels i 0) d.0 c.loop-place-test.true has (sym (get_or_from_slice_get ds i d.0 d.0 d.1)) (get_or_default levels i 0 (get_or levels i 0) has)
          _ (sym c.depth_at.ensures ∙ w.if-depth_at-depth.true) c.loop-place.invariant (w.in_ok-check_place.ensures d.0 d.1)
      | else-depth_at-depth w ↦
          other ds c.args.depth ds levels i (get_or levels i 0) d.0 c.loop-place-test.true has (sym (get_or_from_slice_get ds i d.0 d.0 d.1)) (get_or_default levels i 0 (get_or levels i 0) has)
          _ (λ same. w.if-depth_at-depth.false (c.depth_at.ensures ∙ same)) c.loop-place.invariant
    ]
