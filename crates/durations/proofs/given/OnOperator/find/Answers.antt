use Rattle.std.proofs.Common.{ap, ◌∙◌}
use Rattle.durations.specs.Given.{ticks_at}
use Rattle.durations.proofs.Found.{lookup_view}
use Rattle.durations.proofs.given.OnOperator.find.Goals as goal

pub returns : goal.returns
returns c = let e = c.copied.ensures in let f = c.get.ensures.value in
    c.copied.ensures ∙ c.get.ensures.value ∙ lookup_view (λ k. k.now) c.self.inside.ticks.entries c.args.def.now
    ∙ ap (λ v. ticks_at v c.args.def.now) c.self.view_is
