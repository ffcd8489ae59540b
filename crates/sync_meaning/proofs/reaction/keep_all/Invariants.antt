use Rattle.std.proofs.Common.{◌≡◌, ◌++◌, take, drop}
use Rattle.sync_meaning.specs.Store.{value_at}
use Rattle.sync_meaning.specs.Reaction.{kept_in, FitsStore, all_kept}
use Rattle.sync_meaning.proofs.reaction.keep_all.Given as goal

abbrev pub invariant-loop-v : goal.invariant-loop-v
invariant-loop-v l = record {
  fits : FitsStore l.flat l.store;
  table : l.store.table.items ≡ l.initial.store.table.items;
  cells : kept_in l.store ≡
      take l.v (all_kept l.flat.vertices (value_at l.initial.store.table.items) l.flat.vertices (kept_in l.initial.store)) ++ drop l.v (kept_in l.initial.store);
}
