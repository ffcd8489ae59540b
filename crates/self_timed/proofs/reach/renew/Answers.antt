use Rattle.std.proofs.Common.{Bool, ap}
use Rattle.std.specs.Prelude.{slice_set}
use Rattle.self_timed.proofs.Turning.{renewed_is}
use Rattle.self_timed.proofs.reach.renew.Goals as goal

pub returns-clause-renewed : goal.returns-clause-renewed
returns-clause-renewed c =
    ap (λ (b : Bool). slice_set c.args.table.now c.args.op b)
    (renewed_is c.args.vertices.now c.args.on c.args.table.now c.args.op c.index-vertices-op.result c.reads_any-depends.result c.requires.here c.index-vertices-op.is c.reads_any-depends.ensures)
