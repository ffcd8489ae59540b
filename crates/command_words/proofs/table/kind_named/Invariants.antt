use Rattle.std.proofs.Common.{◌≡◌, drop, map}
use Rattle.command_words.specs.Table.{kind_named}
use Rattle.command_words.proofs.table.kind_named.Given as goal

-- the rows that are left tell what all of them tell
abbrev pub invariant-loop-row : goal.invariant-loop-row
invariant-loop-row g l =
    kind_named (map (λ r. (r.0.now, r.1)) (drop l.row-index l.rows)) l.name ≡ kind_named (map (λ r. (r.0.now, r.1)) l.rows) l.name
