use Rattle.std.proofs.Common.{ℕ, List, map, arith}
use Rattle.std.specs.Global.{Vec}
use Rattle.std.proofs.lemmas.Grind.{common_steps}
use Rattle.std.proofs.lemmas.Result.{err_from_is_err_and}
use Rattle.algo_rules.specs.Links.{mentions}
use Rattle.algo_check.specs.Placing.{unknown_one}
use Rattle.algo_check.proofs.Firsts.{told, tells, stops, goes}
use Rattle.algo_check.proofs.links.places_of_all.Goals as goal

pub returns-in_err-places-clause-checks : goal.returns-in_err-places-clause-checks
returns-in_err-places-clause-checks c =
    let p = err_from_is_err_and c.from_residual.result c.from_residual.ensures.1 in
    rw (p.1, p.2) (told (Vec (List ℕ)) _ _
    (stops (λ d. map (unknown_one c.args.names.now) (mentions d)) _ _ _ c.loop-def-test.true c.def-item.is c.loop-def.invariant.known _
    (tells (List ℕ) _ _ c.in_err-places.ensures.checks)))

pub loop-def-preserved : goal.loop-def-preserved
loop-def-preserved c = record {
  known = goes (λ d. map (unknown_one c.args.names.now) (mentions d)) _ _ _ c.loop-def-test.true c.def-item.is c.loop-def.invariant.known c.in_ok-places.ensures.checks;
  placed = grind (arith, common_steps);
}
