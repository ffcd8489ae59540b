use Rattle.std.proofs.Common.{◌≡◌, ℕ, ◌<◌, length, map, nat_eq, take}
use Rattle.std.specs.List.{filter}
use Rattle.program_tables.specs.MarkRows.{row}
use Rattle.program_tables.proofs.mark_table.MarkTable.new.Given as goal

abbrev pub invariant-loop-mark : goal.invariant-loop-mark
invariant-loop-mark l = record {
  many : length (map (λ v. v.items) l.rows.items) ≡ l.count;
  each : (n : ℕ) → n < l.count → row (map (λ v. v.items) l.rows.items) n ≡ filter (λ m. nat_eq m.number n) (take l.mark-index l.marks);
}
