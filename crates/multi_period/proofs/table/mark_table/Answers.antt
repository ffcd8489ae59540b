use Rattle.std.proofs.Common.{map, drop, length, ◌-◌, ap, sym, ◌∙◌, arith}
use Rattle.std.proofs.lemmas.List.{drop_all}
use Rattle.multi_period.specs.Marks.{mark_at}
use Rattle.multi_period.proofs.Placed.{long_table}
use Rattle.multi_period.proofs.Tables.{one_set}
use Rattle.multi_period.proofs.table.mark_table.Goals as goal
use Rattle.syn_base.specs.Numbers.{numbers_below}

pub loop-left-init : goal.loop-left-init
loop-left-init c = c.in_ok-table.ensures ∙ ap (λ ms. map (mark_at ms) (numbers_below c.args.count)) (sym (drop_all (length c.args.marks.now) c.args.marks.now (omega arith)))

pub loop-left-preserved : goal.loop-left-preserved
loop-left-preserved c = one_set c.args.marks.now c.loop-left.left c.args.count c.loop-left.table.items _ c.requires (omega arith) (omega arith) c.loop-left.invariant

pub index_mut-requires : goal.index_mut-requires
index_mut-requires c =
    let long = long_table (mark_at (drop c.loop-left.left c.args.marks.now)) c.args.count c.loop-left.table.items c.loop-left.invariant in
    let below = c.requires (c.loop-left.left - 1) (record { reference = 0; every = 0 }) (omega arith) in
    omega (arith, long, below, c.loop-left.table.ok.0)
