use Rattle.std.proofs.Common.{◌≡◌, Option, Ok, Err, ap, sym, ◌∙◌}
use Rattle.std.specs.Prelude.{Result, IfOk}
use Rattle.algo_laws.specs.declared.Feed.{Feed}
use Rattle.algo_laws.specs.Resolved.{feed_by}
use Rattle.algo_resolve.proofs.frontier.feed_by.Goals as goal

-- what holds whatever x is, at one x
at_one : {X E : Type 0} (r : Result (Option Feed) E) (f : X → Option Feed) (x : X) (y : Option Feed) → f x ≡ y → IfOk r (λ v. (x : X) → v ≡ f x) → IfOk r (λ v. v ≡ y)
at_one (Ok v) f x y same h = h x ∙ same
at_one (Err e) f x y same h = tt

pub returns-in-Diffuse : goal.returns-in-Diffuse
returns-in-Diffuse c =
    at_one _ _ c.args.inner.now _ (ap (feed_by c.args.inner.now c.args.outer.now c.args.name.now) (sym c.in-Diffuse.is)) c.diffuse.ensures

pub returns-in-Iterate : goal.returns-in-Iterate
returns-in-Iterate c =
    at_one _ _ c.in-Iterate.last _ (ap (feed_by c.args.inner.now c.args.outer.now c.args.name.now) (sym c.in-Iterate.is)) c.iterate.ensures
