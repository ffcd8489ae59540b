use Rattle.std.proofs.Common.{◌≡◌, false, List, ◌∷◌, length, sym, ap, ◌∙◌, arith}
use Rattle.archi_graph.specs.declared.medium.Hop.{Hop}
use Rattle.route_table.specs.Table.{level_in}
use Rattle.route_table.specs.Search.{is_known, through}
use Rattle.route_table.proofs.Steps.{chosen_is_least, chosen_level, none_longer, put_keeps}
use Rattle.route_table.proofs.rounds.add_route.Goals as goal

pub prepend-requires : goal.prepend-requires
prepend-requires c =
    let h = c.in-Some.hop in
    let level = chosen_level c.args.media.now c.args.routes.now c.args.hops c.args.from c.args.to h (sym c.in-Some.ensures.chosen) in
    let same : length c.route.result.now ≡ level_in c.args.routes.now h.to c.args.to = ap (λ (r : List Hop). length r) c.route.ensures in
    omega (arith, level, same, c.requires.few.0)

pub put-requires-clause-short : goal.put-requires-clause-short
put-requires-clause-short c =
    let h = c.in-Some.hop in
    let level = chosen_level c.args.media.now c.args.routes.now c.args.hops c.args.from c.args.to h (sym c.in-Some.ensures.chosen) in
    let same : length c.in_ok-route.route ≡ length (through c.args.routes.now c.args.to h) = ap (λ (r : List Hop). length r) (c.in_ok-route.ensures ∙ ap (λ (r : List Hop). h ∷ r) c.route.ensures) in
    omega (arith, level, same, c.requires.few.0)

pub returns-in_ok-route-clause-keeps : goal.returns-in_ok-route-clause-keeps
returns-in_ok-route-clause-keeps c =
    let t = c.args.routes.now in
    let h = c.in-Some.hop in
    let absent : is_known t c.args.from c.args.to ≡ false = sym c.is_known.ensures ∙ c.if-is_known.false in
    let least = chosen_is_least c.args.media.now t c.args.hops c.args.from c.args.to c.requires.places c.requires.known c.requires.so_far absent h (sym c.in-Some.ensures.chosen) in
    put_keeps c.args.media.now t c.put.new.self c.args.hops c.args.from c.args.to h c.requires.places c.requires.so_far least c.put.ensures.operators c.put.ensures.size
    (c.put.ensures.put ∙ c.in_ok-route.ensures ∙ ap (λ (r : List Hop). h ∷ r) c.route.ensures) c.put.ensures.others

pub returns-in_default-clause-further : goal.returns-in_default-clause-further
returns-in_default-clause-further c =
    let absent : is_known c.args.routes.now c.args.from c.args.to ≡ false = sym c.is_known.ensures ∙ c.if-is_known.false in
    none_longer c.args.media.now c.args.routes.now c.args.hops c.args.from c.args.to c.requires.places c.requires.known c.requires.so_far absent (sym c.first_hop.ensures.chosen ∙ c.in_default.is)
