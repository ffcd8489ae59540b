use Rattle.std.proofs.Common.{codes, arith, sym, ◌∙◌}
use Rattle.algo_resolve.proofs.Placed.{first_here}
use Rattle.algo_resolve.proofs.resolution.main_place.Goals as goal

pub returns-then-eq-clause-found : goal.returns-then-eq-clause-found
returns-then-eq-clause-found c =
    first_here c.args.defs.now c.loop-place.place c.index-defs-place.result (codes "main") (omega arith) c.index-defs-place.is
    (rw (c.as_slice.ensures, c.as_bytes.ensures.same) at (sym c.eq.ensures ∙ c.if-eq.true)) c.loop-place.invariant
