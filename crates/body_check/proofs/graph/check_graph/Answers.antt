use Rattle.std.proofs.lemmas.Result.{err_from_is_err_and}
use Rattle.body_check.proofs.Inside.{are_inside}
use Rattle.body_check.proofs.InOrder.{first_checks, second_checks, third_checks}
use Rattle.body_check.proofs.graph.check_graph.Goals as goal

pub returns-in_err-check_edges : goal.returns-in_err-check_edges
returns-in_err-check_edges c =
    let p = err_from_is_err_and c.from_residual-in_err-check_edges.result c.from_residual-in_err-check_edges.ensures.1 in
    rw (p.1, p.2) (first_checks c.args.graph.now _ c.in_err-check_edges.ensures.faults)

pub returns-in_err-check_unfed : goal.returns-in_err-check_unfed
returns-in_err-check_unfed c =
    let p = err_from_is_err_and c.from_residual-in_err-check_unfed.result c.from_residual-in_err-check_unfed.ensures.1 in
    rw (p.1, p.2) (second_checks c.args.graph.now _ c.in_ok-check_edges.ensures.faults c.in_err-check_unfed.ensures)

pub check_cycles-requires-clause-inside : goal.check_cycles-requires-clause-inside
check_cycles-requires-clause-inside c = are_inside c.args.graph.now c.in_ok-check_edges.ensures.faults

pub returns : goal.returns
returns c = third_checks c.args.graph.now _ c.in_ok-check_edges.ensures.faults c.in_ok-check_unfed.ensures c.check_cycles.ensures
