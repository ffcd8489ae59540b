use Rattle.std.proofs.Common.{List, ap, arith}
use Rattle.self_timed.specs.declared.Decision.{Decision}
use Rattle.self_timed.specs.Acts.{acts_of, is_over}
use Rattle.lower_bound.specs.Numbers.{busy}
use Rattle.lower_bound.proofs.loads.medium_loads.Goals as goal

pub busy_over-busy-requires : goal.busy_over-busy-requires
busy_over-busy-requires c =
    let m = c.loop-medium.medium in
    let e = ap (λ (ds : List Decision). busy (is_over m) (acts_of ds)) c.as_slice-decisions.ensures in
    let low = c.requires m in
    let same = c.length-length.ensures in
    omega arith
