use Rattle.std.proofs.Common.{◌≡◌, sym, ◌∙◌}
use Rattle.macro_check.proofs.Goes.{whole_here, stuck_here}
use Rattle.macro_check.proofs.check.find_order.Goals as goal

pub returns-then-is_empty-clause-found : goal.returns-then-is_empty-clause-found
returns-then-is_empty-clause-found c =
    let counts : c.as_slice.result.now ≡ c.in_ok-order.field-0.done.items = c.as_slice.ensures.value in
    whole_here c.args.program.now c.in_ok-order.field-0.order.items c.in_ok-order.field-0.done.items c.as_slice.result.now c.in_ok-order.ensures counts
    c.in_ok-left.left.items c.as_slice-2.result.now c.in_ok-left.ensures c.as_slice-2.ensures.value (sym c.is_empty.ensures ∙ c.if-is_empty.true)

pub returns-clause-stuck : goal.returns-clause-stuck
returns-clause-stuck c =
    let counts : c.as_slice.result.now ≡ c.in_ok-order.field-0.done.items = c.as_slice.ensures.value in
    stuck_here c.args.program.now c.in_ok-order.field-0.order.items c.in_ok-order.field-0.done.items c.as_slice.result.now c.in_ok-order.ensures counts
    c.in_ok-left.left.items c.as_slice-2.result.now c.in_ok-left.ensures c.as_slice-2.ensures.value (sym c.is_empty.ensures ∙ c.if-is_empty.false) c.new.result c.new.ensures
