use Rattle.std.proofs.Common.{ℕ, ap, ◌∙◌}
use Rattle.order_check.specs.Transfers.{waits_at}
use Rattle.order_check.proofs.transferring.waits_in.Goals as goal

pub returns : goal.returns
returns c = c.waits_at.ensures ∙ ap
    (λ (n : ℕ). waits_at c.args.program.now c.args.order.now c.args.number c.args.ends.sender c.args.ends.receiver c.args.sequence
    c.args.list.now n) c.communication_at-at.ensures
