use Rattle.std.proofs.Common.{ap, map, ◌∙◌}
use Rattle.algo_resolve.specs.Parts.{ArePlanned}
use Rattle.algo_resolve.specs.Rounds.{passing_view}
use Rattle.algo_resolve.specs.Plans.{plan_view}
use Rattle.algo_resolve.proofs.resolution.main_vertex.Goals as goal

pub build_main-requires-clause-planned : goal.build_main-requires-clause-planned
build_main-requires-clause-planned c = record {
  read = c.requires.read;
  passed = c.requires.passed;
  ready = c.requires.ready;
  plans = ap (map plan_view) c.deref-2.ensures.value ∙ c.in_ok-plans.ensures;
  rounds = ap (map (map passing_view)) c.deref-3.ensures.value ∙ c.in_ok-rounds.ensures;
}
