use Rattle.std.proofs.Common.{◌≡◌, ◌∙◌, ◌+◌, [], ◌∷◌, ◌++◌, List, drop, codes, ap, sym, subst, arith}
use Rattle.std.specs.Prelude.{is_ok}
use Rattle.std.proofs.lemmas.Result.{err_from_is_err_and}
use Rattle.std.proofs.lemmas.List.{drop_all}
use Rattle.syn_base.specs.Bytes.{Bytes}
use Rattle.command_plan.specs.Bytes.{joined}
use Rattle.command_plan.specs.Sink.{Wrote}
use Rattle.command_plan.proofs.Append.{wrote_then}
use Rattle.command_plan.proofs.Pieces.{piece_more, piece_failed}
use Rattle.command_status.specs.Lines.{names_line}
use Rattle.command_status.proofs.Heads.{names_at}
use Rattle.command_status.proofs.line.write_names.Goals as goal

pub returns-in_err-write_pieces : goal.returns-in_err-write_pieces
returns-in_err-write_pieces g c =
    let E = g.E.Sink.sunk in
    let p = err_from_is_err_and c.from_residual.result c.from_residual.ensures.1 in
    let i = c.loop-name.invariant in
    let k = c.loop-name.name-index in
    let one : Bytes = joined (codes " " ∷ c.as_bytes.result.now ∷ []) in
    let here = names_at c.args.names.now k _ c.as_bytes.result.now c.loop-name-test.true (c.as_bytes.ensures.same ∙ c.name-item.is) in
    rw p.1 (piece_failed (E c.args.err.now) (E c.loop-name.err) (E c.write_pieces.new.sink) i.0 one
    (names_line (drop (k + 1) c.args.names.now)) (names_line c.args.names.now) i.1 c.in_err-write_pieces.ensures
    (ap (λ (t : Bytes). i.0 ++ t) (sym here) ∙ i.2))

pub loop-name-preserved : goal.loop-name-preserved
loop-name-preserved g c =
    let E = g.E.Sink.sunk in
    let i = c.loop-name.invariant in
    let k = c.loop-name.name-index in
    let one : Bytes = joined (codes " " ∷ c.as_bytes.result.now ∷ []) in
    let here = names_at c.args.names.now k _ c.as_bytes.result.now c.loop-name-test.true (c.as_bytes.ensures.same ∙ c.name-item.is) in
    let m = piece_more (E c.args.err.now) (E c.loop-name.err) (E c.write_pieces.new.sink) i.0 one
    (names_line (drop (k + 1) c.args.names.now)) (names_line c.args.names.now) i.1 c.in_ok-write_pieces.ensures
    (ap (λ (t : Bytes). i.0 ++ t) (sym here) ∙ i.2) in
    (_, m.0, m.1)

pub returns : goal.returns
returns g c =
    let E = g.E.Sink.sunk in
    let i = c.loop-name.invariant in
    let none : drop c.loop-name.name-index c.args.names.now ≡ [] = drop_all c.loop-name.name-index c.args.names.now (omega (arith, c.loop-name-test.false)) in
    let whole : i.0 ++ codes "\n" ≡ names_line c.args.names.now = ap (λ (ns : List Bytes). i.0 ++ names_line ns) (sym none) ∙ i.2 in
    subst (λ (t : Bytes). Wrote (E c.args.err.now) (E c.write_whole.new.sink) t (is_ok c.write_whole.result)) whole
    (wrote_then (E c.args.err.now) (E c.loop-name.err) (E c.write_whole.new.sink) i.0 (codes "\n") (is_ok c.write_whole.result) i.1 c.write_whole.ensures)
