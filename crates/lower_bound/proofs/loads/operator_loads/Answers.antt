use Rattle.std.proofs.Common.{List, ap, arith}
use Rattle.self_timed.specs.declared.Decision.{Decision}
use Rattle.self_timed.specs.Acts.{acts_of, is_on}
use Rattle.lower_bound.specs.Numbers.{busy}
use Rattle.lower_bound.proofs.loads.operator_loads.Goals as goal

pub busy_on-busy-requires : goal.busy_on-busy-requires
busy_on-busy-requires c =
    let o = c.loop-operator.operator in
    let e = ap (λ (ds : List Decision). busy (is_on o) (acts_of ds)) c.as_slice-decisions.ensures in
    let low = c.requires o in
    let same = c.length-length.ensures in
    omega arith
