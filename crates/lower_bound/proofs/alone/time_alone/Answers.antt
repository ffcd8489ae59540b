use Rattle.std.proofs.Common.{◌<◌, Bool, Option, ℕ, Some, None, cond, ap, arith, length, sym}
use Rattle.self_timed.specs.Table.{entry_in}
use Rattle.lower_bound.specs.Numbers.{time_alone}
use Rattle.lower_bound.proofs.Steps.{none_stands}
use Rattle.lower_bound.proofs.alone.time_alone.Goals as goal

pub returns-in-None : goal.returns-in-None
returns-in-None c =
    let d = c.args.durations.now in
    let l : c.loop-op.op < length d.rows = omega arith in
    let none : Option ℕ = None in
    sym (ap (λ (b : Bool). cond b (Some (time_alone (entry_in d) (length d.rows) c.args.operator)) none)
    (none_stands (entry_in d) (length d.rows) c.args.operator c.loop-op.op l (sym c.in-None.ensures.entry)))
