use Rattle.std.proofs.Common.{◌≤◌, ◌+◌, ◌-◌, IfSome, vec_len}
use Rattle.outside.specs.Shelf.{Stays, OthersStay, file_bound}
use Rattle.outside.proofs.Append.{IsFront}
use Rattle.outside.proofs.read_whole.Given as goal

abbrev pub invariant-loop-file : goal.invariant-loop-file
invariant-loop-file g l = Stays (g.S.Shelf.held l.fn.shelf) (g.S.Shelf.held l.shelf)
    × OthersStay l.file (g.S.Shelf.held l.fn.shelf) (g.S.Shelf.held l.shelf)
    × (vec_len l.bytes ≤ file_bound + 1)
    × IfSome ((g.S.Shelf.held l.fn.shelf).told l.name) (λ file. IsFront file l.bytes.items)

abbrev pub decreases-loop-file : goal.decreases-loop-file
decreases-loop-file g l = file_bound + 1 - vec_len l.bytes
