use Rattle.std.proofs.Common.{ℕ, ap, ◌∙◌}
use Rattle.order_check.specs.Transfers.{is_transfer_between, sender_of}
use Rattle.order_check.proofs.transferring.is_transfer.Goals as goal

pub returns : goal.returns
returns c =
    let p = c.args.program.now in let o = c.args.order.now in let m = c.args.crossing.medium in let t = c.args.crossing.number in
    c.is_transfer_between.ensures
    ∙ (ap (λ (n : ℕ). is_transfer_between p o m t n c.receiver_of-receiver.result) c.sender_of-sender.ensures
    ∙ ap (λ (n : ℕ). is_transfer_between p o m t (sender_of p m t) n) c.receiver_of-receiver.ensures)
