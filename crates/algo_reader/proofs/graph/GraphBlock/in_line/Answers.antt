use Rattle.std.proofs.Common.{◌≡◌, true, List, length, Ok, arith, ap, sym, ◌∙◌}
use Rattle.std.proofs.lemmas.Result.{err_from_is_err_and}
use Rattle.algo_text.specs.declared.Port.{Port}
use Rattle.algo_text.specs.declared.part.Part.TheVariants.{Inputs}
use Rattle.algo_text.specs.Parts.{admits}
use Rattle.algo_reader.specs.Views.{graph_view}
use Rattle.algo_reader.proofs.PortLines.{fails, goes, taken_stops, in_follows, in_taken, in_free}
use Rattle.algo_reader.proofs.graph.GraphBlock.in_line.Goals as goal

pub returns-in_err-port : goal.returns-in_err-port
returns-in_err-port c =
    let p = err_from_is_err_and c.from_residual.result c.from_residual.ensures.1 in
    let three : length c.args.words.now ≡ 3 = omega arith in
    let at : admits (graph_view c.args.self.now).part Inputs ≡ true = sym c.if-not-admits.ensures in
    rw (p.1, p.2) (fails (in_follows (graph_view c.args.self.now) c.args.number c.args.words.now c.len-2.result three at c.len-2.ensures) _ c.in_err-port.ensures.port)

pub returns-then-is_taken : goal.returns-then-is_taken
returns-then-is_taken c =
    let three : length c.args.words.now ≡ 3 = omega arith in
    let at : admits (graph_view c.args.self.now).part Inputs ≡ true = sym c.if-not-admits.ensures in
    taken_stops _ _ _ _ _ c.duplicate.ensures c.as_bytes.ensures.same
    (goes (in_follows (graph_view c.args.self.now) c.args.number c.args.words.now c.len-2.result three at c.len-2.ensures) c.in_ok-port.port c.in_ok-port.ensures.port
    ∙ in_taken (graph_view c.args.self.now) c.args.number c.in_ok-port.port (sym c.if-is_taken.ensures))

pub returns : goal.returns
returns c =
    let three : length c.args.words.now ≡ 3 = omega arith in
    let at : admits (graph_view c.args.self.now).part Inputs ≡ true = sym c.if-not-admits.ensures in
    goes (in_follows (graph_view c.args.self.now) c.args.number c.args.words.now c.len-2.result three at c.len-2.ensures) c.in_ok-port.port c.in_ok-port.ensures.port
    ∙ in_free (graph_view c.args.self.now) c.args.number c.in_ok-port.port (sym c.if-is_taken.ensures)
    ∙ ap (λ (ps : List Port). Ok (record (graph_view c.args.self.now) { ins = ps })) (sym c.in_ok-add.ensures)
