use Rattle.std.proofs.Common.{ℕ, List}
use Rattle.std.specs.Global.{Vec}
use Rattle.std.proofs.lemmas.Result.{err_from_is_err_and}
use Rattle.algo_check.proofs.Firsts.{told, tells, one_told, second_told, neither}
use Rattle.algo_check.proofs.links.checked_links.Goals as goal

pub returns-in_err-links-clause-checks : goal.returns-in_err-links-clause-checks
returns-in_err-links-clause-checks c =
    let p = err_from_is_err_and c.from_residual.result c.from_residual.ensures.1 in
    rw (p.1, p.2) (told (Vec (List ℕ)) _ _ (one_told _ _ _ (tells (Vec (List ℕ)) _ _ c.in_err-links.ensures.checks)))

pub returns-in_err-check_standing-clause-checks : goal.returns-in_err-check_standing-clause-checks
returns-in_err-check_standing-clause-checks c =
    let p = err_from_is_err_and c.from_residual-in_err-check_standing.result c.from_residual-in_err-check_standing.ensures.1 in
    rw (p.1, p.2) (told (Vec (List ℕ)) _ _ (second_told _ _ _ c.in_ok-links.ensures.checks (tells (Unit {0}) _ _ c.in_err-check_standing.ensures)))

pub returns-clause-checks : goal.returns-clause-checks
returns-clause-checks c = neither _ _ c.in_ok-links.ensures.checks c.in_ok-check_standing.ensures
