use Rattle.std.proofs.Common.{◌≡◌, subst, sym}
use Rattle.std.specs.Prelude.{Ok}
use Rattle.std.proofs.lemmas.Result.{err_from_is_err_and}
use Rattle.algo_laws.specs.declared.Defs.{Defs}
use Rattle.algo_laws.specs.Tree.{Vertex}
use Rattle.self_timed.specs.Text.{Described, described_by}
use Rattle.self_timed.specs.Table.{Table, durations_of}
use Rattle.self_timed.specs.Graph.{Graph}
use Rattle.top_plans.specs.Plan.{give}
use Rattle.top_plans.specs.Status.{ending_of}
use Rattle.top_plans.specs.Plans.{architecture_plan}
use Rattle.lab_words.specs.View.{effort_view, subject_view}
use Rattle.lab_plans.specs.Asked.{of_schedule}
use Rattle.lab_plans.specs.Plans.{request}
use Rattle.lab_program.specs.Found.{request_of}
use Rattle.lab_program.specs.Texts.{Carries}
use Rattle.lab_program.proofs.Carried.{compiled_on, found_so, stopped, went_on}
use Rattle.top_plans.proofs.Steps.{algorithm_stops}
use Rattle.top_plans.proofs.Architectures.{architecture_stops}
use Rattle.lab_program.proofs.commands.scheduled.schedule_text.Goals as goal

pub text_of_found-requires-clause-durations : goal.text_of_found-requires-clause-durations
text_of_found-requires-clause-durations g c =
    let given = c.in_ok-problem.problem in
    let is = c.in_ok-problem.ensures.reads.2 in
    subst (λ (f : Graph). durations_of f (described_by given.text) ≡ Ok given.durations) (sym is.flattens) is.lasts

pub returns-in_err-algorithm-clause-carries : goal.returns-in_err-algorithm-clause-carries
returns-in_err-algorithm-clause-carries g c =
    let H = g.S.Shelf.held in
    let p = err_from_is_err_and c.from_residual.result c.from_residual.ensures.1 in
    let status = c.in_err-algorithm.field-0.0 in
    rw (p.1, p.2) (stopped _ (H c.args.shelf.now) (H c.read_algorithm.new.shelf) status
    (algorithm_stops c.args.algorithm.now (H c.args.shelf.now) (H c.read_algorithm.new.shelf) status _ c.in_err-algorithm.ensures.reads))

pub returns-in_err-problem-clause-carries : goal.returns-in_err-problem-clause-carries
returns-in_err-problem-clause-carries g c =
    let H = g.S.Shelf.held in
    let p = err_from_is_err_and c.from_residual-in_err-problem.result c.from_residual-in_err-problem.ensures.1 in
    let subject = subject_view c.args.subject in
    let effort = effort_view c.args.effort in
    let status = c.in_err-problem.field-0.0 in
    let main = c.in_ok-algorithm.algorithm.tree in
    rw (p.1, p.2) (
    went_on c.args.algorithm.now (H c.args.shelf.now) (H c.read_algorithm.new.shelf) (H c.read_architecture.new.shelf) c.in_ok-algorithm.algorithm
    (λ (defs : Defs) (main : Vertex). architecture_plan c.args.architecture.now main
    (λ (d : Described) (t : Table). give (of_schedule subject (request main d t effort)))) _ c.in_ok-algorithm.ensures.reads
    (stopped _ (H c.read_algorithm.new.shelf) (H c.read_architecture.new.shelf) status
    (architecture_stops main c.args.architecture.now (H c.read_algorithm.new.shelf) (H c.read_architecture.new.shelf) status _ c.in_err-problem.ensures.reads))
    )

pub returns-clause-carries : goal.returns-clause-carries
returns-clause-carries g c =
    let H = g.S.Shelf.held in
    let held = H c.read_architecture.new.shelf in
    let subject = subject_view c.args.subject in
    let effort = effort_view c.args.effort in
    let algorithm = c.in_ok-algorithm.algorithm in
    let given = c.in_ok-problem.problem in
    let result = c.text_of_found.result in
    went_on c.args.algorithm.now (H c.args.shelf.now) (H c.read_algorithm.new.shelf) held algorithm
    (λ (defs : Defs) (main : Vertex). architecture_plan c.args.architecture.now main
    (λ (d : Described) (t : Table). give (of_schedule subject (request main d t effort)))) result c.in_ok-algorithm.ensures.reads
    (compiled_on algorithm.tree c.args.architecture.now (H c.read_algorithm.new.shelf) held held given
    (λ (d : Described) (t : Table). give (of_schedule subject (request algorithm.tree d t effort))) result c.in_ok-problem.ensures.reads
    (subst (λ (f : Graph). Carries (give
    (of_schedule subject (record {
      graph = f;
      archi = given.text.archi;
      table = given.durations;
      effort =
          effort;
    }))) held held result) c.in_ok-problem.ensures.reads.2.flattens
    (found_so (of_schedule subject (request_of given effort)) held result c.text_of_found.ensures)))
