use Rattle.std.proofs.Common.{◌≡◌, ◌∙◌, ◌+◌, refl, [], ◌++◌, List, drop, codes, ap, sym, subst, arith}
use Rattle.std.specs.Prelude.{is_ok}
use Rattle.std.proofs.lemmas.Result.{err_from_is_err_and}
use Rattle.std.proofs.lemmas.List.{drop_all}
use Rattle.syn_base.specs.Bytes.{Bytes}
use Rattle.check_cause.specs.declared.cause.Stop.{Stop}
use Rattle.command_plan.specs.Sink.{Wrote}
use Rattle.command_plan.proofs.Append.{wrote_then}
use Rattle.command_plan.proofs.Pieces.{piece_more, piece_failed}
use Rattle.command_status.specs.Lines.{stops_line}
use Rattle.command_status.proofs.Heads.{stops_at}
use Rattle.command_status.proofs.code.write_stops.Goals as goal

pub returns-in_err-write_stop : goal.returns-in_err-write_stop
returns-in_err-write_stop g c =
    let E = g.E.Sink.sunk in
    let p = err_from_is_err_and c.from_residual.result c.from_residual.ensures.1 in
    let i = c.loop-stop.invariant in
    let k = c.loop-stop.stop-index in
    let here = stops_at c.args.stops.now k _ _ c.loop-stop-test.true refl in
    rw p.1 (piece_failed (E c.args.err.now) (E c.loop-stop.err) (E c.write_stop.new.err) i.0 _ (stops_line (drop (k + 1) c.args.stops.now))
    (stops_line c.args.stops.now) i.1 c.in_err-write_stop.ensures
    (ap (λ (t : Bytes). i.0 ++ t) (sym here) ∙ i.2))

pub loop-stop-preserved : goal.loop-stop-preserved
loop-stop-preserved g c =
    let E = g.E.Sink.sunk in
    let i = c.loop-stop.invariant in
    let k = c.loop-stop.stop-index in
    let here = stops_at c.args.stops.now k _ _ c.loop-stop-test.true refl in
    let m = piece_more (E c.args.err.now) (E c.loop-stop.err) (E c.write_stop.new.err) i.0 _ (stops_line (drop (k + 1) c.args.stops.now)) (stops_line c.args.stops.now) i.1 c.in_ok-write_stop.ensures
    (ap (λ (t : Bytes). i.0 ++ t) (sym here) ∙ i.2) in
    (_, m.0, m.1)

pub returns : goal.returns
returns g c =
    let E = g.E.Sink.sunk in
    let i = c.loop-stop.invariant in
    let none : drop c.loop-stop.stop-index c.args.stops.now ≡ [] = drop_all c.loop-stop.stop-index c.args.stops.now (omega (arith, c.loop-stop-test.false)) in
    let whole : i.0 ++ codes "\n" ≡ stops_line c.args.stops.now = ap (λ (ns : List Stop). i.0 ++ stops_line ns) (sym none) ∙ i.2 in
    subst (λ (t : Bytes). Wrote (E c.args.err.now) (E c.write_whole.new.sink) t (is_ok c.write_whole.result)) whole
    (wrote_then (E c.args.err.now) (E c.loop-stop.err) (E c.write_whole.new.sink) i.0 (codes "\n") (is_ok c.write_whole.result) i.1 c.write_whole.ensures)
