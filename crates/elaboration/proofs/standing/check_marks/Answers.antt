use Rattle.std.proofs.Common.{map}
use Rattle.std.proofs.lemmas.Result.{err_from_is_err_and}
use Rattle.algo_check.proofs.Firsts.{told, tells, stops, goes}
use Rattle.elaboration.specs.Marking.{bad_by}
use Rattle.elaboration.proofs.standing.check_marks.Goals as goal
use Rattle.algo_laws.specs.Periods.{references_of}

pub returns-in_err-check_def : goal.returns-in_err-check_def
returns-in_err-check_def c =
    let p = err_from_is_err_and c.from_residual.result c.from_residual.ensures.1 in
    rw (p.1, p.2) (told (Unit {0}) _ _
    (stops (λ d. map (bad_by c.args.defs.now d.name)
    (references_of d.body)) _ _ _ c.loop-i-test.true c.index-defs-i.is c.loop-i.invariant _ (tells (Unit {0}) _ _ c.in_err-check_def.ensures)))

pub loop-i-preserved : goal.loop-i-preserved
loop-i-preserved c = goes (λ d. map (bad_by c.args.defs.now d.name) (references_of d.body)) _ _ _ c.loop-i-test.true c.index-defs-i.is c.loop-i.invariant c.in_ok-check_def.ensures
