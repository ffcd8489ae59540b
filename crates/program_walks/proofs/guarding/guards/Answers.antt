use Rattle.std.proofs.Common.{ℕ, ap, ◌∙◌}
use Rattle.executive_program.specs.Instructions.{Reader}
use Rattle.executive_program.specs.Places.{writer_of}
use Rattle.program_walks.specs.Pairs.{guards_from}
use Rattle.program_walks.proofs.guarding.guards.Goals as goal

pub returns : goal.returns
returns c =
    let p = c.args.program.now in let o = c.args.order.now in let q = c.args.pair in
    let r : Reader = record { buffer = c.args.reading.buffer; sequence = c.args.reading.sequence } in
    c.guards_from.ensures
    ∙ (ap (λ (n : ℕ). guards_from p o q r n c.written_at-at.result) c.writer_of-sequence.ensures
    ∙ ap (λ (n : ℕ). guards_from p o q r (writer_of p c.args.reading.buffer) n) c.written_at-at.ensures)
