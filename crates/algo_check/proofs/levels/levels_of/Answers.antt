use Rattle.std.proofs.Common.{rules, [], ◌∷◌}
use Rattle.algo_rules.specs.Links.{misplaced}
use Rattle.algo_check.proofs.InOrder.{both_none}
use Rattle.algo_check.proofs.levels.levels_of.Goals as goal

pub returns-clause-leveled : goal.returns-clause-leveled
returns-clause-leveled c = record {
  linked = search (rules);
  deep = search (rules);
  known = (both_none _ (misplaced c.args.defs.now.defs ∷ []) c.in_ok-links.ensures.checks).0;
  ends = search (rules);
  shallow = search (rules);
}
