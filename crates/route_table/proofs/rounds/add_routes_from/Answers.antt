use Rattle.std.proofs.Common.{◌≡◌, ℕ, ◌+◌, ◌<◌, below_more, sym, subst, arith}
use Rattle.route_table.specs.Known.{Covers}
use Rattle.route_table.proofs.Steps.{covers_on, grows_on}
use Rattle.route_table.proofs.rounds.add_routes_from.Goals as goal

pub loop-to-preserved : goal.loop-to-preserved
loop-to-preserved c =
    let media = c.args.media.now in
    let first = c.args.routes.now in
    let before = c.loop-to.routes in
    let after = c.add_route.new.routes in
    let more = c.in_ok-add_route.ensures in
    let done = c.loop-to.invariant in
    let end : c.operators-to-end.result ≡ first.operators = c.operators-to-end.ensures in
    let from : c.args.from < before.operators = subst (λ (n : ℕ). c.args.from < n) (sym done.0.0) c.requires.from in (
      grows_on first before after done.0 more.grows,
      more.keeps,
      below_more (λ to. Covers media after (c.args.hops + 1) c.args.from to) c.loop-to.to
          (λ to l. covers_on media before after (c.args.hops + 1) c.args.from to more.grows
          (from, (let below : to < first.operators = omega (arith, end, c.loop-to-test.true) in subst (λ (n : ℕ). to < n) (sym done.0.0) below))
          (done.2 to l)) more.further,
    )
