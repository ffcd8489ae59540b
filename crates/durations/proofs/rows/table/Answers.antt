use Rattle.std.proofs.Common.{◌≡◌, subst, sym}
use Rattle.durations.specs.Table.{IsTable, of_columns, table}
use Rattle.durations.proofs.Fitted.{is_table}
use Rattle.durations.proofs.rows.table.Goals as goal

pub new-requires : goal.new-requires
new-requires c =
    let g = c.args.given.now in
    let same : of_columns c.operators.result c.in_ok-rows.rows.items c.in_ok-halves.halves.items ≡ table c.args.vertices.now g.operators g.lines =
    λ i. of_columns (c.operators.ensures.count i) (c.in_ok-rows.ensures i) (c.in_ok-halves.ensures i) in
    subst IsTable (sym same) (is_table c.args.vertices.now g.operators g.lines c.operators.ensures.known c.requires.operators c.requires.none_missing)
