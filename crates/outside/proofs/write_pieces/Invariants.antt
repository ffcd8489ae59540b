use Rattle.std.proofs.Common.{drop, map, ◌≡◌, ◌++◌}
use Rattle.syn_base.specs.Bytes.{Bytes}
use Rattle.outside.specs.Bytes.{joined}
use Rattle.outside.specs.Sink.{Appends}
use Rattle.outside.proofs.write_pieces.Given as goal

abbrev pub invariant-loop-piece : goal.invariant-loop-piece
invariant-loop-piece g l = (done : Bytes) × Appends (g.K.Sink.sunk l.fn.sink) (g.K.Sink.sunk l.sink) done
    × (done ++ joined (map (λ p. p.now) (drop l.piece-index l.pieces)) ≡ joined (map (λ p. p.now) l.pieces))
