use Rattle.std.proofs.Common.{◌≡◌, ◌≤◌, length, refl, subst, sym}
use Rattle.std.proofs.lemmas.Result.{err_from_is_err_and}
use Rattle.syn_base.specs.Bytes.{Bytes}
use Rattle.self_timed.specs.Graph.{Graph}
use Rattle.top_plans.specs.Shelf.{file_bound}
use Rattle.top_plans.specs.declared.File.TheVariants.{Code}
use Rattle.top_plans.specs.FlatOf.{flat_of}
use Rattle.top_plans.specs.Run.{not_read}
use Rattle.top_plans.specs.Status.{ending_of}
use Rattle.compiler.proofs.Sizes.{few_lines}
use Rattle.lab_plans.specs.Plans.{why_behind, why_behind_text, why_of_code}
use Rattle.lab_program.specs.Texts.{Carries}
use Rattle.lab_program.proofs.Carried.{described_on, read_on, stopped, wanted, went_on}
use Rattle.top_plans.proofs.Steps.{algorithm_stops}
use Rattle.top_plans.proofs.Architectures.{description_stops}
use Rattle.lab_program.proofs.commands.why.why_text.Goals as goal

pub answer_of-requires : goal.answer_of-requires
answer_of-requires g c = few_lines c.deref.result.now (subst (λ (t : Bytes). length t ≤ file_bound) (sym c.deref.ensures.value) c.in_ok-text.ensures.read.0.0)

pub returns-in_err-algorithm-clause-carries : goal.returns-in_err-algorithm-clause-carries
returns-in_err-algorithm-clause-carries g c =
    let H = g.S.Shelf.held in
    let p = err_from_is_err_and c.from_residual.result c.from_residual.ensures.1 in
    let status = c.in_err-algorithm.field-0.0 in
    rw (p.1, p.2) (stopped _ (H c.args.shelf.now) (H c.read_algorithm.new.shelf) status
    (algorithm_stops c.args.algorithm.now (H c.args.shelf.now) (H c.read_algorithm.new.shelf) status _ c.in_err-algorithm.ensures.reads))

pub returns-in_err-described-clause-carries : goal.returns-in_err-described-clause-carries
returns-in_err-described-clause-carries g c =
    let H = g.S.Shelf.held in
    let p = err_from_is_err_and c.from_residual-in_err-described.result c.from_residual-in_err-described.ensures.1 in
    let status = c.in_err-described.field-0.0 in
    rw (p.1, p.2) (
    went_on c.args.algorithm.now (H c.args.shelf.now) (H c.read_algorithm.new.shelf) (H c.read_description.new.shelf) c.in_ok-algorithm.algorithm
    (why_behind c.args.architecture.now c.args.code.now) _ c.in_ok-algorithm.ensures.reads
    (stopped _ (H c.read_algorithm.new.shelf) (H c.read_description.new.shelf) status
    (description_stops c.args.architecture.now (H c.read_algorithm.new.shelf) (H c.read_description.new.shelf) status _ c.in_err-described.ensures.reads)))

pub returns-in_err-flat-clause-carries : goal.returns-in_err-flat-clause-carries
returns-in_err-flat-clause-carries g c =
    let H = g.S.Shelf.held in
    let held = H c.read_description.new.shelf in
    let p = err_from_is_err_and c.from_residual-in_err-flat.result c.from_residual-in_err-flat.ensures.1 in
    let algorithm = c.in_ok-algorithm.algorithm in
    rw (p.1, p.2) (
    went_on c.args.algorithm.now (H c.args.shelf.now) (H c.read_algorithm.new.shelf) held algorithm
    (why_behind c.args.architecture.now c.args.code.now) _ c.in_ok-algorithm.ensures.reads
    (described_on c.args.architecture.now (H c.read_algorithm.new.shelf) held held c.in_ok-described.described
    (why_behind_text c.args.code.now algorithm.tree) _ c.in_ok-described.ensures.reads (wanted _ held _ refl)))

pub returns-in_err-text-clause-carries : goal.returns-in_err-text-clause-carries
returns-in_err-text-clause-carries g c =
    let H = g.S.Shelf.held in
    let p = err_from_is_err_and c.from_residual-in_err-text.result c.from_residual-in_err-text.ensures.1 in
    let algorithm = c.in_ok-algorithm.algorithm in
    rw (p.1, p.2) (
    went_on c.args.algorithm.now (H c.args.shelf.now) (H c.read_algorithm.new.shelf) (H c.read_file.new.shelf) algorithm
    (why_behind c.args.architecture.now c.args.code.now) _ c.in_ok-algorithm.ensures.reads
    (described_on c.args.architecture.now (H c.read_algorithm.new.shelf) (H c.read_description.new.shelf) (H c.read_file.new.shelf) c.in_ok-described.described
    (why_behind_text c.args.code.now algorithm.tree) _ c.in_ok-described.ensures.reads
    (stopped _ (H c.read_description.new.shelf) (H c.read_file.new.shelf) c.in_err-text.field-0.0 (not_read c.in_err-text.ensures.not_read))))

pub returns-clause-carries : goal.returns-clause-carries
returns-clause-carries g c =
    let H = g.S.Shelf.held in
    let held = H c.read_file.new.shelf in
    let algorithm = c.in_ok-algorithm.algorithm in
    let archi = c.in_ok-described.described.archi in
    let text = c.in_ok-text.text.items in
    let result = c.answer_of.result in
    let of_text = subst (λ (b : Bytes). Carries (why_of_code c.in_ok-flat.flat archi b) held held result) c.deref.ensures.value (c.answer_of.ensures held) in
    went_on c.args.algorithm.now (H c.args.shelf.now) (H c.read_algorithm.new.shelf) held algorithm
    (why_behind c.args.architecture.now c.args.code.now) result c.in_ok-algorithm.ensures.reads
    (described_on c.args.architecture.now (H c.read_algorithm.new.shelf) (H c.read_description.new.shelf) held c.in_ok-described.described
    (why_behind_text c.args.code.now algorithm.tree) result c.in_ok-described.ensures.reads
    (read_on Code c.args.code.now (H c.read_description.new.shelf) held text (why_of_code (flat_of algorithm.tree) archi) result c.in_ok-text.ensures.read
    (subst (λ (f : Graph). Carries (why_of_code f archi text) held held result) c.in_ok-flat.ensures of_text)))
