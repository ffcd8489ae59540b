use Rattle.std.proofs.Common.{List, map, ap, sym, subst, ◌∙◌}
use Rattle.std.proofs.lemmas.Result.{err_from_is_err_and}
use Rattle.algo_rules.specs.Returned.{Tells}
use Rattle.algo_rules.specs.Links.{Mention, mentions, misplaced_by}
use Rattle.algo_check.specs.Placing.{misplaced_in}
use Rattle.algo_check.proofs.Firsts.{told, tells, stops, goes}
use Rattle.algo_check.proofs.standing.check_standing.Goals as goal

pub returns-in_err-check_lines : goal.returns-in_err-check_lines
returns-in_err-check_lines c =
    let p = err_from_is_err_and c.from_residual-in_err-check_lines.result c.from_residual-in_err-check_lines.ensures.1 in
    rw (p.1, p.2) (told (Unit {0}) _ _ (stops (λ d. map (misplaced_by c.args.defs.now d.name) (mentions d)) _ _ _ c.loop-i-test.true c.index-defs-i.is c.loop-i.invariant _
    (subst (λ (ms : List Mention). Tells c.in_err-check_lines.field-0.0 (misplaced_in c.args.defs.now c.index-defs-i.result.name ms))
    (c.as_slice.ensures.value ∙ c.in_ok-mentions.ensures) (tells (Unit {0}) _ _ c.in_err-check_lines.ensures))))

pub loop-i-preserved : goal.loop-i-preserved
loop-i-preserved c = goes (λ d. map (misplaced_by c.args.defs.now d.name) (mentions d)) _ _ _ c.loop-i-test.true c.index-defs-i.is c.loop-i.invariant
    (ap (λ (ms : List Mention). misplaced_in c.args.defs.now c.index-defs-i.result.name ms) (sym (c.as_slice.ensures.value ∙ c.in_ok-mentions.ensures)) ∙ c.in_ok-check_lines.ensures)
