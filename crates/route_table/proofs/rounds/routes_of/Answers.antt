use Rattle.std.proofs.Common.{◌≡◌, ℕ, ◌*◌, List, length, sym, subst, ap, ◌∙◌, arith}
use Rattle.archi_graph.specs.declared.medium.Medium.{Medium}
use Rattle.archi_graph.specs.Routes.{AreOperators}
use Rattle.route_table.specs.Known.{IsKnownWithin}
use Rattle.route_table.proofs.Joined.{facts}
use Rattle.route_table.proofs.Tables.{table_done}
use Rattle.route_table.proofs.rounds.routes_of.Goals as goal

pub add_routes-requires-clause-known : goal.add_routes-requires-clause-known
add_routes-requires-clause-known c =
    let a = c.args.archi.now in
    let t = c.loop-hops.routes in
    let f = facts a c.operators.ensures.valid in
    let count : t.operators ≡ length a.operators = c.loop-hops.invariant.0 ∙ ap (λ (names : List (List ℕ)). length names) c.operators.ensures.same in
    subst (λ (media : List Medium). AreOperators t.operators media) (sym c.media.ensures.same) (subst (λ (n : ℕ). AreOperators n a.media) (sym count) f.known)

pub returns : goal.returns
returns c =
    let a = c.args.archi.now in
    let t = c.loop-hops.routes in
    let f = facts a c.operators.ensures.valid in
    let count : length c.operators.result.now ≡ length a.operators = ap (λ (names : List (List ℕ)). length names) c.operators.ensures.same in
    let all : c.loop-hops.hops ≡ 2 * length a.operators = omega (arith, count, c.loop-hops-test.false, c.loop-hops.auto.hops-end) in
    table_done a t f (c.loop-hops.invariant.0 ∙ count) (c.loop-hops.invariant.1 ∙ ap (λ (n : ℕ). n * n) (sym c.loop-hops.invariant.0))
    (subst (λ (n : ℕ). IsKnownWithin a.media t n) all c.loop-hops.invariant.2)
