use Rattle.std.proofs.Common.{◌≡◌, subst, sym}
use Rattle.std.specs.Prelude.{Ok}
use Rattle.std.proofs.lemmas.Result.{err_from_is_err_and}
use Rattle.syn_base.specs.Bytes.{Bytes}
use Rattle.algo_laws.specs.declared.Defs.{Defs}
use Rattle.algo_laws.specs.Tree.{Vertex}
use Rattle.self_timed.specs.Table.{durations_of}
use Rattle.self_timed.specs.Graph.{Graph}
use Rattle.self_timed.specs.Text.{described_by}
use Rattle.top_plans.specs.declared.File.TheVariants.{Durations}
use Rattle.top_plans.specs.Plan.{give}
use Rattle.top_plans.specs.Run.{not_read}
use Rattle.top_plans.specs.Status.{ending_of}
use Rattle.top_plans.specs.Plans.{architecture_plan}
use Rattle.lab_words.specs.View.{effort_view, form_view}
use Rattle.lab_plans.specs.Asked.{of_dates}
use Rattle.lab_program.specs.Found.{request_of}
use Rattle.lab_program.specs.Texts.{Carries, GivesOfFound}
use Rattle.lab_program.proofs.Carried.{compiled_on, dates_behind, found_so, read_on, stopped, went_on}
use Rattle.top_plans.proofs.Steps.{algorithm_stops}
use Rattle.top_plans.proofs.Architectures.{architecture_stops}
use Rattle.lab_program.proofs.commands.dates.dates_text.Goals as goal

pub dates_of_found-requires-clause-durations : goal.dates_of_found-requires-clause-durations
dates_of_found-requires-clause-durations g c =
    let given = c.in_ok-problem.problem in
    let is = c.in_ok-problem.ensures.reads.2 in
    subst (λ (f : Graph). durations_of f (described_by given.text) ≡ Ok given.durations) (sym is.flattens) is.lasts

pub returns-in_err-algorithm-clause-carries : goal.returns-in_err-algorithm-clause-carries
returns-in_err-algorithm-clause-carries g c =
    let H = g.S.Shelf.held in
    let p = err_from_is_err_and c.from_residual.result c.from_residual.ensures.1 in
    let status = c.in_err-algorithm.field-0.0 in
    rw (p.1, p.2) (stopped _ (H c.args.shelf.now) (H c.read_algorithm.new.shelf) status
    (algorithm_stops c.args.algorithm.now (H c.args.shelf.now) (H c.read_algorithm.new.shelf) status _ c.in_err-algorithm.ensures.reads))

pub returns-in_err-problem-clause-carries : goal.returns-in_err-problem-clause-carries
returns-in_err-problem-clause-carries g c =
    let H = g.S.Shelf.held in
    let p = err_from_is_err_and c.from_residual-in_err-problem.result c.from_residual-in_err-problem.ensures.1 in
    let form = form_view c.args.extent.form in
    let n = c.args.extent.reactions in
    let effort = effort_view c.args.extent.effort in
    let status = c.in_err-problem.field-0.0 in
    let main = c.in_ok-algorithm.algorithm.tree in
    rw (p.1, p.2) (
    went_on c.args.algorithm.now (H c.args.shelf.now) (H c.read_algorithm.new.shelf) (H c.read_architecture.new.shelf) c.in_ok-algorithm.algorithm
    (λ (defs : Defs) (main : Vertex). architecture_plan c.args.architecture.now main (dates_behind form c.args.durations.now n effort main)) _ c.in_ok-algorithm.ensures.reads
    (stopped _ (H c.read_algorithm.new.shelf) (H c.read_architecture.new.shelf) status
    (architecture_stops main c.args.architecture.now (H c.read_algorithm.new.shelf) (H c.read_architecture.new.shelf) status _ c.in_err-problem.ensures.reads))
    )

pub returns-in_err-text-clause-carries : goal.returns-in_err-text-clause-carries
returns-in_err-text-clause-carries g c =
    let H = g.S.Shelf.held in
    let p = err_from_is_err_and c.from_residual-in_err-text.result c.from_residual-in_err-text.ensures.1 in
    let form = form_view c.args.extent.form in
    let n = c.args.extent.reactions in
    let effort = effort_view c.args.extent.effort in
    let algorithm = c.in_ok-algorithm.algorithm in
    rw (p.1, p.2) (
    went_on c.args.algorithm.now (H c.args.shelf.now) (H c.read_algorithm.new.shelf) (H c.read_file.new.shelf) algorithm
    (λ (defs : Defs) (main : Vertex). architecture_plan c.args.architecture.now main (dates_behind form c.args.durations.now n effort main)) _ c.in_ok-algorithm.ensures.reads
    (compiled_on algorithm.tree c.args.architecture.now (H c.read_algorithm.new.shelf) (H c.read_architecture.new.shelf) (H c.read_file.new.shelf) c.in_ok-problem.problem
    (dates_behind form c.args.durations.now n effort algorithm.tree) _ c.in_ok-problem.ensures.reads
    (stopped _ (H c.read_architecture.new.shelf) (H c.read_file.new.shelf) c.in_err-text.field-0.0 (not_read c.in_err-text.ensures.not_read)))
    )

pub returns-clause-carries : goal.returns-clause-carries
returns-clause-carries g c =
    let H = g.S.Shelf.held in
    let held = H c.read_file.new.shelf in
    let form = form_view c.args.extent.form in
    let n = c.args.extent.reactions in
    let effort = effort_view c.args.extent.effort in
    let algorithm = c.in_ok-algorithm.algorithm in
    let given = c.in_ok-problem.problem in
    let text = c.in_ok-text.text.items in
    let result = c.dates_of_found.result in
    went_on c.args.algorithm.now (H c.args.shelf.now) (H c.read_algorithm.new.shelf) held algorithm
    (λ (defs : Defs) (main : Vertex). architecture_plan c.args.architecture.now main (dates_behind form c.args.durations.now n effort main)) result c.in_ok-algorithm.ensures.reads
    (compiled_on algorithm.tree c.args.architecture.now (H c.read_algorithm.new.shelf) (H c.read_architecture.new.shelf) held given
    (dates_behind form c.args.durations.now n effort algorithm.tree) result c.in_ok-problem.ensures.reads
    (read_on Durations c.args.durations.now (H c.read_architecture.new.shelf) held text _ result c.in_ok-text.ensures.read
    (subst (λ (f : Graph). Carries (give
    (of_dates form (record {
      graph = f;
      archi = given.text.archi;
      table = given.durations;
      effort =
          effort;
    }) text n)) held held result) c.in_ok-problem.ensures.reads.2.flattens
    (found_so (of_dates form (request_of given effort) text n) held result
    (subst (λ (b : Bytes). GivesOfFound (of_dates form (request_of given effort) b n) result) c.deref.ensures.value c.dates_of_found.ensures)))))
