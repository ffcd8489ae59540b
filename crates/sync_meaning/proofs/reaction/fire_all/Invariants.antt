use Rattle.std.proofs.Common.{◌≡◌, take}
use Rattle.sync_meaning.specs.Store.{delay_cells}
use Rattle.sync_meaning.specs.Reaction.{row_of, kept_in, FitsStore}
use Rattle.sync_meaning.proofs.Table.{AreRight}
use Rattle.sync_meaning.proofs.reaction.fire_all.Given as goal

abbrev pub invariant-loop-v : goal.invariant-loop-v
invariant-loop-v l = record {
  fits : FitsStore l.flat l.store;
  cells : kept_in l.store ≡ kept_in l.initial.store;
  right : AreRight l.flat (delay_cells l.flat.vertices (kept_in l.initial.store)) (row_of l.rows l.fn.k) (take l.v-index l.order) l.store.table.items;
}
