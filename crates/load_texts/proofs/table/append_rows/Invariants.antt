use Rattle.std.proofs.Common.{◌≡◌, ◌++◌}
use Rattle.load_texts.specs.Table.{rows, state_before}
use Rattle.load_texts.proofs.table.append_rows.Given as goal

-- the rows so far are appended, and the generator is in the state before the next row
abbrev pub invariant-loop-reaction : goal.invariant-loop-reaction
invariant-loop-reaction l = (l.out.items ≡ l.fn.out.items ++ rows l.fn.first l.reaction)
    × (l.generator.state ≡ state_before l.fn.first l.reaction)
