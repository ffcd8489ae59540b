use Rattle.std.proofs.Common.{◌≡◌}
use Rattle.sync_meaning.specs.Reaction.{FitsStore}
use Rattle.sync_meaning.proofs.Running.{IsReached, so_far}
use Rattle.sync_meaning.proofs.run.add_reactions.Given as goal

abbrev pub invariant-loop-k : goal.invariant-loop-k
invariant-loop-k l = record {
  fits : FitsStore l.flat l.store;
  reached : IsReached l.flat l.rows l.k l.store;
  taken : l.taken ≡ so_far l.flat l.rows l.k;
}
