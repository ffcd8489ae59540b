use Rattle.std.specs.Prelude.{◌≡◌, ◌<◌, ℕ, length}
use Rattle.word_rule.specs.Agrees.{row_at}
use Rattle.word_table.specs.Ends.{AreWide}
use Rattle.word_table.proofs.closing.take_row.Given as goal

abbrev pub invariant-loop-k : goal.invariant-loop-k
invariant-loop-k l = (l.rows.lens ≡ l.initial.rows.lens)
    × (length l.rows.reactions ≡ length l.initial.rows.reactions)
    × AreWide l.rows
    × ((k : ℕ) → k < l.k → row_at l.rows.reactions k l.actuator ≡ row_at l.others.reactions k l.actuator)
    × ((k b : ℕ) → (b ≡ l.actuator → ⊥) → row_at l.rows.reactions k b ≡ row_at l.initial.rows.reactions k b)
