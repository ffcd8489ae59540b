use Rattle.std.proofs.Common.{◌≡◌, true, List, length, Ok, arith, ap, sym, ◌∙◌}
use Rattle.std.proofs.lemmas.Result.{err_from_is_err_and}
use Rattle.algo_text.specs.declared.Port.{Port}
use Rattle.algo_text.specs.declared.part.Part.TheVariants.{Outputs}
use Rattle.algo_text.specs.Parts.{admits}
use Rattle.algo_reader.specs.Views.{function_view}
use Rattle.algo_reader.proofs.PortLines.{fails, goes, taken_stops, result_follows, result_taken, result_free, formula_same, formula_fails}
use Rattle.std.specs.Prelude.{map}
use Rattle.algo_text.specs.Blocks.{with_result}
use Rattle.text_lines.specs.Refusals.{and_then}
use Rattle.algo_text.specs.declared.definition.Output.{Output}
use Rattle.algo_reader.proofs.function.FunctionBlock.result_words.Goals as goal

pub returns-in_err-port : goal.returns-in_err-port
returns-in_err-port c =
    let p = err_from_is_err_and c.from_residual.result c.from_residual.ensures.1 in
    let three : length c.args.words.now ≡ 3 = omega arith in
    let at : admits (function_view c.args.self.now).part Outputs ≡ true = sym c.if-not-admits.ensures in
    rw (p.1, p.2) (fails (result_follows (function_view c.args.self.now) c.args.number c.args.words.now c.args.text.now c.count.result three at c.count.ensures) _ c.in_err-port.ensures.port)

pub returns-in_err-formula : goal.returns-in_err-formula
returns-in_err-formula c =
    let p = err_from_is_err_and c.from_residual-in_err-formula.result c.from_residual-in_err-formula.ensures.1 in
    let three : length c.args.words.now ≡ 3 = omega arith in
    let at : admits (function_view c.args.self.now).part Outputs ≡ true = sym c.if-not-admits.ensures in
    rw (p.1, p.2) (formula_fails c.args.number c.args.text.now
    (with_result (function_view c.args.self.now) c.args.number c.in_ok-port.port) _ _ _ _
    (goes (result_follows (function_view c.args.self.now) c.args.number c.args.words.now c.args.text.now c.count.result three at
    c.count.ensures) c.in_ok-port.port c.in_ok-port.ensures.port)
    (ap (λ (ps : List Port). map (λ i. i.name) ps) c.as_slice.ensures.same) c.in_err-formula.ensures)

pub returns-then-is_taken : goal.returns-then-is_taken
returns-then-is_taken c =
    let three : length c.args.words.now ≡ 3 = omega arith in
    let at : admits (function_view c.args.self.now).part Outputs ≡ true = sym c.if-not-admits.ensures in
    taken_stops _ _ _ _ _ c.duplicate.ensures c.as_bytes.ensures.same
    (goes (result_follows (function_view c.args.self.now) c.args.number c.args.words.now c.args.text.now c.count.result three at c.count.ensures) c.in_ok-port.port c.in_ok-port.ensures.port
    ∙ ap (λ r. and_then r (with_result (function_view c.args.self.now) c.args.number c.in_ok-port.port))
    (formula_same c.args.number _ _ c.args.text.now _ (ap (λ (ps : List Port). map (λ i. i.name) ps) c.as_slice.ensures.same) c.in_ok-formula.ensures)
    ∙ result_taken (function_view c.args.self.now) c.args.number c.in_ok-port.port c.in_ok-formula.formula (sym c.if-is_taken.ensures))

pub returns : goal.returns
returns c =
    let three : length c.args.words.now ≡ 3 = omega arith in
    let at : admits (function_view c.args.self.now).part Outputs ≡ true = sym c.if-not-admits.ensures in
    goes (result_follows (function_view c.args.self.now) c.args.number c.args.words.now c.args.text.now c.count.result three at c.count.ensures) c.in_ok-port.port c.in_ok-port.ensures.port
    ∙ ap (λ r. and_then r (with_result (function_view c.args.self.now) c.args.number c.in_ok-port.port))
    (formula_same c.args.number _ _ c.args.text.now _ (ap (λ (ps : List Port). map (λ i. i.name) ps) c.as_slice.ensures.same) c.in_ok-formula.ensures)
    ∙ result_free (function_view c.args.self.now) c.args.number c.in_ok-port.port c.in_ok-formula.formula (sym c.if-is_taken.ensures)
    ∙ ap (λ (os : List Output). Ok (record (function_view c.args.self.now) { part = Outputs; results = os })) (sym c.in_ok-push.ensures.items)
