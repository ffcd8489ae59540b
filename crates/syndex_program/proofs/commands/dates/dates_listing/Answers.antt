use Rattle.std.proofs.Common.{◌≡◌, subst, sym}
use Rattle.std.specs.Prelude.{Ok, Err}
use Rattle.std.proofs.lemmas.Result.{err_from_is_err_and}
use Rattle.syn_base.specs.Bytes.{Bytes}
use Rattle.algo_text.specs.declared.definition.Defs.{Defs}
use Rattle.algo_tree.specs.Tree.{Vertex}
use Rattle.self_timed.specs.Table.{durations_of}
use Rattle.self_timed.specs.Graph.{Graph}
use Rattle.self_timed.specs.Text.{described_by}
use Rattle.top_plans.specs.Run.{Makes, not_read, was_read}
use Rattle.top_plans.proofs.Makes.{memory}
use Rattle.top_plans.specs.Status.{ending_of}
use Rattle.top_plans.specs.Plans.{architecture_plan}
use Rattle.syndex_program.specs.Dates.{dated_in}
use Rattle.top_plans.specs.Reads.{text_in}
use Rattle.top_plans.proofs.Architectures as architecture
use Rattle.syndex_program.proofs.Dated.{behind_architecture}
use Rattle.top_plans.proofs.Steps.{algorithm_stops, went_on}
use Rattle.syndex_program.proofs.commands.dates.dates_listing.Goals as goal

pub find_schedule-requires : goal.find_schedule-requires
find_schedule-requires g c =
    let given = c.in_ok-problem.problem in
    let is = c.in_ok-problem.ensures.reads.2 in
    subst (λ (f : Graph). durations_of f (described_by given.text) ≡ Ok given.durations) (sym is.flattens) is.lasts

pub returns-in_err-algorithm-clause-makes : goal.returns-in_err-algorithm-clause-makes
returns-in_err-algorithm-clause-makes g c =
    let H = g.S.Shelf.held in
    let p = err_from_is_err_and c.from_residual.result c.from_residual.ensures.1 in
    rw (p.1, p.2) (algorithm_stops c.args.algorithm.now (H c.args.shelf.now) (H c.read_algorithm.new.shelf) c.in_err-algorithm.field-0.0 _ c.in_err-algorithm.ensures.reads)

pub returns-in_err-problem-clause-makes : goal.returns-in_err-problem-clause-makes
returns-in_err-problem-clause-makes g c =
    let H = g.S.Shelf.held in
    let p = err_from_is_err_and c.from_residual-in_err-problem.result c.from_residual-in_err-problem.ensures.1 in
    rw (p.1, p.2) (
    went_on c.args.algorithm.now (H c.args.shelf.now) (H c.read_algorithm.new.shelf) (H c.read_architecture.new.shelf) c.in_ok-algorithm.algorithm
    (λ (defs : Defs) (main : Vertex). architecture_plan c.args.architecture.now main (behind_architecture c.args.durations.now c.args.reactions main)) (Err (ending_of c.in_err-problem.field-0.0))
    c.in_ok-algorithm.ensures.reads
    (architecture.architecture_stops c.in_ok-algorithm.algorithm.tree c.args.architecture.now (H c.read_algorithm.new.shelf)
    (H c.read_architecture.new.shelf) c.in_err-problem.field-0.0 _ c.in_err-problem.ensures.reads)
    )

pub returns-in_err-schedule-clause-makes : goal.returns-in_err-schedule-clause-makes
returns-in_err-schedule-clause-makes g c =
    let H = g.S.Shelf.held in
    let p = err_from_is_err_and c.from_residual-in_err-schedule.result c.from_residual-in_err-schedule.ensures.1 in
    let algorithm = c.in_ok-algorithm.algorithm in
    let next = behind_architecture c.args.durations.now c.args.reactions in
    rw (p.1, p.2) (
    went_on c.args.algorithm.now (H c.args.shelf.now) (H c.read_algorithm.new.shelf) (H c.read_architecture.new.shelf) algorithm
    (λ (defs : Defs) (main : Vertex). architecture_plan c.args.architecture.now main (next main)) _ c.in_ok-algorithm.ensures.reads
    (architecture.went_on algorithm.tree c.args.architecture.now (H c.read_algorithm.new.shelf) (H c.read_architecture.new.shelf) (H c.read_architecture.new.shelf) c.in_ok-problem.problem
    (next algorithm.tree) _ c.in_ok-problem.ensures.reads (memory (H c.read_architecture.new.shelf) _))
    )

pub returns-in_err-text-clause-makes : goal.returns-in_err-text-clause-makes
returns-in_err-text-clause-makes g c =
    let H = g.S.Shelf.held in
    let algorithm = c.in_ok-algorithm.algorithm in
    let p = err_from_is_err_and c.from_residual-in_err-text.result c.from_residual-in_err-text.ensures.1 in
    rw (p.1, p.2) (
    went_on c.args.algorithm.now (H c.args.shelf.now) (H c.read_algorithm.new.shelf) (H c.read_file.new.shelf) algorithm
    (λ (defs : Defs) (main : Vertex). architecture_plan c.args.architecture.now main (behind_architecture c.args.durations.now c.args.reactions main)) (Err (ending_of c.in_err-text.field-0.0))
    c.in_ok-algorithm.ensures.reads
    (architecture.went_on algorithm.tree c.args.architecture.now (H c.read_algorithm.new.shelf) (H c.read_architecture.new.shelf) (H c.read_file.new.shelf) c.in_ok-problem.problem
    (behind_architecture c.args.durations.now c.args.reactions algorithm.tree) (Err (ending_of c.in_err-text.field-0.0)) c.in_ok-problem.ensures.reads
    (not_read c.in_err-text.ensures.not_read))
    )

pub returns-clause-makes : goal.returns-clause-makes
returns-clause-makes g c =
    let H = g.S.Shelf.held in
    let held = H c.read_file.new.shelf in
    let algorithm = c.in_ok-algorithm.algorithm in
    let given = c.in_ok-problem.problem in
    let made = text_in c.date_reactions.result in
    let n = c.args.reactions in
    went_on c.args.algorithm.now (H c.args.shelf.now) (H c.read_algorithm.new.shelf) held algorithm
    (λ (defs : Defs) (main : Vertex). architecture_plan c.args.architecture.now main (behind_architecture c.args.durations.now n main)) made c.in_ok-algorithm.ensures.reads
    (architecture.went_on algorithm.tree c.args.architecture.now (H c.read_algorithm.new.shelf) (H c.read_architecture.new.shelf) held given
    (behind_architecture c.args.durations.now n algorithm.tree) made c.in_ok-problem.ensures.reads
    (was_read held c.in_ok-text.text.items c.in_ok-text.ensures.read
    (subst (λ (f : Graph). Makes held held (dated_in c.in_ok-text.text.items f given.text.archi given.durations n) made) c.in_ok-problem.ensures.reads.2.flattens
    (subst (λ (b : Bytes). Makes held held (dated_in b given.flat given.text.archi given.durations n) made) c.deref.ensures.value (c.date_reactions.ensures held)))))
