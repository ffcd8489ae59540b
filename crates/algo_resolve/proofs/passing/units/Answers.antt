use Rattle.std.proofs.Common.{◌≡◌, ◌++◌, List, length, map, min, rules, sym, ap, ◌∙◌, append-nil}
use Rattle.std.specs.Iterator.Adapters.{zip_first, zip_second}
use Rattle.std.specs.Slice.Iter.{iter_rest}
use Rattle.std.proofs.lemmas.Slice.Zip.{zip_end}
use Rattle.wiring_laws.specs.Wiring.{Wire}
use Rattle.algo_resolve.specs.Rounds.{leads_at, passing_view, unit_view}
use Rattle.algo_resolve.proofs.LeadsByHops.{level-end}
use Rattle.algo_resolve.proofs.passing.units.Goals as goal

pub returns : goal.returns
returns c =
    let made = map unit_view c.loop-ins.units.items in
    let first : iter_rest (zip_first c.into_iter-ins-iterator.result) ≡ c.args.wires.now = search rules in
    let second : iter_rest (zip_second c.into_iter-ins-iterator.result) ≡ c.args.places.now = search rules in
    let end : length c.loop-ins.yielded ≡ min (length c.args.wires.now) (length c.args.places.now) =
    zip_end c.args.wires.now c.args.places.now c.loop-ins.yielded c.into_iter-ins-iterator.result c.loop-ins.ins-iterator c.next.new.self
    c.next.result first second c.loop-ins.yielded_by c.in-None.is c.next.ensures.steps in
    sym (append-nil made) ∙ ap (λ (ws : List Wire). made ++ ws) (sym (level-end (leads_at (map passing_view c.args.last.now)) c.args.wires.now c.args.places.now (length c.loop-ins.yielded) end))
    ∙ c.loop-ins.invariant
