use Rattle.std.proofs.Common.{◌∙◌, ◌++◌, ◌+◌, ap, sym, drop}
use Rattle.std.proofs.lemmas.Result.{err_from_is_err_and}
use Rattle.syn_base.specs.Bytes.{Bytes}
use Rattle.outside.proofs.Pieces.{rest, rest_at, piece_more, piece_failed}
use Rattle.outside.proofs.write_pieces.Goals as goal

pub returns-in_err-write_whole : goal.returns-in_err-write_whole
returns-in_err-write_whole g c =
    let E = g.K.Sink.sunk in
    let p = err_from_is_err_and c.from_residual.result c.from_residual.ensures.1 in
    let i = c.loop-piece.invariant in
    let w = c.in_err-write_whole.ensures in
    rw p.1 (piece_failed (E c.args.sink.now) (E c.loop-piece.sink) (E c.write_whole.new.sink) i.0 _
    (rest (drop (c.loop-piece.piece-index + 1) c.args.pieces.now)) _ i.1 w
    (ap (λ (t : Bytes). i.0 ++ t) (sym (rest_at c.args.pieces.now c.loop-piece.piece-index _ c.loop-piece-test.true)) ∙ i.2))

pub loop-piece-preserved : goal.loop-piece-preserved
loop-piece-preserved g c =
    let E = g.K.Sink.sunk in
    let i = c.loop-piece.invariant in
    let w = c.in_ok-write_whole.ensures in
    let m = piece_more (E c.args.sink.now) (E c.loop-piece.sink) (E c.write_whole.new.sink) i.0 _
    (rest (drop (c.loop-piece.piece-index + 1) c.args.pieces.now)) _ i.1 w
    (ap (λ (t : Bytes). i.0 ++ t) (sym (rest_at c.args.pieces.now c.loop-piece.piece-index _ c.loop-piece-test.true)) ∙ i.2) in
    (_, m.0, m.1)
