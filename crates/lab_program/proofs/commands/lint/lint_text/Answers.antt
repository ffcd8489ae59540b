use Rattle.std.proofs.lemmas.Result.{err_from_is_err_and}
use Rattle.std.specs.Prelude.{option_map}
use Rattle.top_plans.specs.Status.{ending_of}
use Rattle.lab_plans.specs.Plans.{lint_behind}
use Rattle.lab_program.proofs.Carried.{stopped, went_on}
use Rattle.top_plans.proofs.Steps.{algorithm_stops}
use Rattle.lab_program.proofs.commands.lint.lint_text.Goals as goal

pub lint_of_read-requires : goal.lint_of_read-requires
lint_of_read-requires g c =
    let reads = c.in_ok-algorithm.ensures.reads in
    (c.accepted_are_well_read.ensures reads.0 c.in_ok-algorithm.algorithm.defs reads.2.says).once

pub returns-in_err-algorithm-clause-carries : goal.returns-in_err-algorithm-clause-carries
returns-in_err-algorithm-clause-carries g c =
    let H = g.S.Shelf.held in
    let p = err_from_is_err_and c.from_residual.result c.from_residual.ensures.1 in
    let status = c.in_err-algorithm.field-0.0 in
    rw (p.1, p.2) (stopped _ (H c.args.shelf.now) (H c.read_algorithm.new.shelf) status
    (algorithm_stops c.args.algorithm.now (H c.args.shelf.now) (H c.read_algorithm.new.shelf) status _ c.in_err-algorithm.ensures.reads))

pub returns-clause-carries : goal.returns-clause-carries
returns-clause-carries g c =
    let H = g.S.Shelf.held in
    went_on c.args.algorithm.now (H c.args.shelf.now) (H c.read_algorithm.new.shelf) (H c.lint_of_read.new.shelf) c.in_ok-algorithm.algorithm
    (lint_behind (option_map (λ h. h.now) c.args.architecture)) c.lint_of_read.result c.in_ok-algorithm.ensures.reads c.lint_of_read.ensures.carries
