use Rattle.std.proofs.Common.{◌≡◌, ◌≤◌, ◌∙◌, ℕ, length, refl, subst, sym}
use Rattle.std.specs.Prelude.{Ok, Err}
use Rattle.std.proofs.lemmas.Result.{err_from_is_err_and}
use Rattle.csv.specs.Reading.{default_config, records, strip_bom}
use Rattle.syn_base.specs.Bytes.{Bytes}
use Rattle.self_timed.specs.Table.{durations_of}
use Rattle.self_timed.specs.Graph.{Graph}
use Rattle.self_timed.specs.Text.{described_by}
use Rattle.load_texts.specs.Algorithm.{algorithm_text}
use Rattle.load_texts.specs.Architecture.{architecture_text}
use Rattle.load_texts.specs.Table.{table_text}
use Rattle.top_plans.specs.Shelf.{file_bound}
use Rattle.top_plans.proofs.Makes.{memory}
use Rattle.top_plans.specs.Loads.{load_algorithm, load_architecture, load_table}
use Rattle.syndex_program.specs.Executes.{executed_in, texts_plan}
use Rattle.compiler.specs.Compiles.{MakesAlgorithm, MakesProblem}
use Rattle.compiler.specs.Tables.{MakesTable}
use Rattle.syndex_program.proofs.Loading as loading
use Rattle.syndex_program.proofs.Loads.{short_algorithm, short_architecture}
use Rattle.compiler.proofs.Tables.{few_rows}
use Rattle.syndex_program.proofs.execution.load_execution.Goals as goal

-- a text is the one that the contract names
algorithm_is : (n : ℕ) → algorithm_text n ≡ load_algorithm n
unfolding load_algorithm
algorithm_is n = refl

architecture_is : architecture_text ≡ load_architecture
unfolding load_architecture
architecture_is = refl

table_is : (n : ℕ) → table_text n ≡ load_table n
unfolding load_table
table_is n = refl

pub parse_algorithm-requires : goal.parse_algorithm-requires
parse_algorithm-requires c = subst (λ (t : Bytes). length t ≤ file_bound) (sym (c.deref.ensures.value ∙ c.in_ok-algorithm.ensures.algorithm)) (short_algorithm c.args.n)

pub compile_to_durations-requires : goal.compile_to_durations-requires
compile_to_durations-requires c = subst (λ (t : Bytes). length t ≤ file_bound) (sym (c.deref-2.ensures.value ∙ c.in_ok-algorithm.ensures.architecture)) short_architecture

pub compile_execution-requires-clause-flat : goal.compile_execution-requires-clause-flat
compile_execution-requires-clause-flat c = c.in_ok-problem.ensures.flattens

pub compile_execution-requires-clause-lasts : goal.compile_execution-requires-clause-lasts
compile_execution-requires-clause-lasts c =
    let given = c.in_ok-problem.problem in
    let is = c.in_ok-problem.ensures in
    subst (λ (f : Graph). durations_of f (described_by given.text) ≡ Ok given.durations) (sym is.flattens) is.lasts

pub compile_execution-requires-clause-has : goal.compile_execution-requires-clause-has
compile_execution-requires-clause-has c =
    let is = c.in_ok-algorithm-2.ensures in
    c.accepted_have_flat.ensures c.deref.result.now c.in_ok-algorithm-2.algorithm.defs c.in_ok-algorithm-2.algorithm.tree is.says is.resolves

pub compile_execution-requires-clause-lens : goal.compile_execution-requires-clause-lens
compile_execution-requires-clause-lens c = c.in_ok-rows.ensures.1

pub compile_execution-requires-clause-few : goal.compile_execution-requires-clause-few
compile_execution-requires-clause-few c = few_rows c.in_ok-algorithm-2.algorithm.tree (records default_config (strip_bom c.deref-3.result.now)) c.in_ok-rows.rows c.in_ok-rows.ensures.0

pub returns-in_err-algorithm-clause-makes : goal.returns-in_err-algorithm-clause-makes
returns-in_err-algorithm-clause-makes c =
    let p = err_from_is_err_and c.from_residual.result c.from_residual.ensures.1 in
    rw (p.1, p.2) (λ held. memory held (texts_plan (load_algorithm c.args.n) load_architecture (load_table c.args.n)))

pub returns-in_err-algorithm-2-clause-makes : goal.returns-in_err-algorithm-2-clause-makes
returns-in_err-algorithm-2-clause-makes c =
    let e = c.in_err-algorithm-2.field-0.0 in
    let p = err_from_is_err_and c.from_residual-in_err-algorithm-2.result c.from_residual-in_err-algorithm-2.ensures.1 in
    let m = subst (λ (t : Bytes). MakesAlgorithm t (Err e)) (c.deref.ensures.value ∙ (c.in_ok-algorithm.ensures.algorithm ∙ algorithm_is c.args.n)) c.in_err-algorithm-2.ensures in
    rw (p.1, p.2) (λ held. loading.algorithm_refused held (load_algorithm c.args.n) load_architecture (load_table c.args.n) e m)

pub returns-in_err-problem-clause-makes : goal.returns-in_err-problem-clause-makes
returns-in_err-problem-clause-makes c =
    let e = c.in_err-problem.field-0.0 in
    let algorithm = c.in_ok-algorithm-2.algorithm in
    let p = err_from_is_err_and c.from_residual-in_err-problem.result c.from_residual-in_err-problem.ensures.1 in
    let is = subst (λ (t : Bytes). MakesAlgorithm t (Ok algorithm)) (c.deref.ensures.value ∙ (c.in_ok-algorithm.ensures.algorithm ∙ algorithm_is c.args.n)) c.in_ok-algorithm-2.ensures in
    let m = subst (λ (t : Bytes). MakesProblem algorithm.tree t (Err e)) (c.deref-2.ensures.value ∙ (c.in_ok-algorithm.ensures.architecture ∙ architecture_is)) c.in_err-problem.ensures in
    rw (p.1, p.2) (λ held. loading.problem_refused held (load_algorithm c.args.n) load_architecture (load_table c.args.n) algorithm is e m)

pub returns-in_err-rows-clause-makes : goal.returns-in_err-rows-clause-makes
returns-in_err-rows-clause-makes c =
    let e = c.in_err-rows.field-0.0 in
    let algorithm = c.in_ok-algorithm-2.algorithm in
    let architecture = c.in_ok-problem.problem in
    let p = err_from_is_err_and c.from_residual-in_err-rows.result c.from_residual-in_err-rows.ensures.1 in
    let is = subst (λ (t : Bytes). MakesAlgorithm t (Ok algorithm)) (c.deref.ensures.value ∙ (c.in_ok-algorithm.ensures.algorithm ∙ algorithm_is c.args.n)) c.in_ok-algorithm-2.ensures in
    let says = subst (λ (t : Bytes). MakesProblem algorithm.tree t (Ok architecture))
    (c.deref-2.ensures.value ∙ (c.in_ok-algorithm.ensures.architecture ∙ architecture_is)) c.in_ok-problem.ensures in
    let m = subst (λ (t : Bytes). MakesTable algorithm.tree t (Err e)) (c.deref-3.ensures.value ∙ (c.in_ok-algorithm.ensures.table ∙ table_is c.args.n)) c.in_err-rows.ensures in
    rw (p.1, p.2) (λ held. loading.table_refused held (load_algorithm c.args.n) load_architecture (load_table c.args.n) algorithm is architecture says e m)

pub returns-clause-makes : goal.returns-clause-makes
returns-clause-makes c = λ held.
    let algorithm = c.in_ok-algorithm-2.algorithm in
    let architecture = c.in_ok-problem.problem in
    let rows = c.in_ok-rows.rows in
    let is = subst (λ (t : Bytes). MakesAlgorithm t (Ok algorithm)) (c.deref.ensures.value ∙ (c.in_ok-algorithm.ensures.algorithm ∙ algorithm_is c.args.n)) c.in_ok-algorithm-2.ensures in
    let says = subst (λ (t : Bytes). MakesProblem algorithm.tree t (Ok architecture))
    (c.deref-2.ensures.value ∙ (c.in_ok-algorithm.ensures.architecture ∙ architecture_is)) c.in_ok-problem.ensures in
    let m = subst (λ (t : Bytes). MakesTable algorithm.tree t (Ok rows)) (c.deref-3.ensures.value ∙ (c.in_ok-algorithm.ensures.table ∙ table_is c.args.n)) c.in_ok-rows.ensures in
    loading.rows_so held (load_algorithm c.args.n) load_architecture (load_table c.args.n) algorithm is architecture says rows
    (executed_in c.compile_execution.result) m (c.compile_execution.ensures.makes held)
