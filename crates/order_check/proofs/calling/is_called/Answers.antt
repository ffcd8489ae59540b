use Rattle.std.proofs.Common.{ℕ, ap, ◌∙◌}
use Rattle.executive_program.specs.Places.{caller_of}
use Rattle.order_check.specs.Calls.{is_called_at}
use Rattle.order_check.proofs.calling.is_called.Goals as goal

pub returns : goal.returns
returns c =
    let p = c.args.program.now in let vs = c.args.vertices.now in let v = c.args.operation in let x = c.args.x.now in
    c.is_called_at.ensures
    ∙ (ap (λ (n : ℕ). is_called_at p vs v x n c.called_at-at.result) c.caller_of-sequence.ensures
    ∙ ap (λ (n : ℕ). is_called_at p vs v x (caller_of p v) n) c.called_at-at.ensures)
