use Rattle.algo_check.proofs.Counted.{main_at, no_main_at}
use Rattle.algo_check.proofs.counts.main_count.Goals as goal

pub returns-then-place-counts : goal.returns-then-place-counts
returns-then-place-counts c = main_at c.args.defs.now c.args.counts.now c.requires c.main_place-place.result c.main_place-place.ensures c.if-place-counts.true

pub returns-else-place-counts : goal.returns-else-place-counts
returns-else-place-counts c = no_main_at c.args.defs.now c.args.counts.now c.requires c.main_place-place.result c.main_place-place.ensures c.if-place-counts.false
