use Rattle.std.proofs.Common.{◌≡◌, ℕ, ◌+◌, ◌<◌, below_more, sym, subst, arith}
use Rattle.route_table.specs.Known.{Covers}
use Rattle.route_table.proofs.Steps.{covers_on, grows_on}
use Rattle.route_table.proofs.rounds.add_routes.Goals as goal

pub loop-from-preserved : goal.loop-from-preserved
loop-from-preserved c =
    let media = c.args.media.now in
    let first = c.args.routes.now in
    let before = c.loop-from.routes in
    let after = c.add_routes_from.new.routes in
    let more = c.in_ok-add_routes_from.ensures in
    let done = c.loop-from.invariant in
    let end : c.operators-from-end.result ≡ first.operators = c.operators-from-end.ensures in (
      grows_on first before after done.0 more.grows,
      more.keeps,
      below_more (λ from. (to : ℕ) → to < first.operators → Covers media after (c.args.hops + 1) from to) c.loop-from.from
          (λ from l to k. covers_on media before after (c.args.hops + 1) from to more.grows (
            (let below : from < first.operators = omega (arith, end, c.loop-from-test.true) in subst (λ (n : ℕ). from < n) (sym done.0.0) below),
            subst (λ (n : ℕ). to < n) (sym done.0.0) k,
          )
          (done.2 from l to k))
          (λ to k. more.further to (subst (λ (n : ℕ). to < n) (sym done.0.0) k)),
    )
