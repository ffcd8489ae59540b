use Rattle.std.proofs.Common.{◌≡◌, ◌∙◌, ◌++◌, ◌∷◌, [], ◌&&◌, List, ap, append_assoc, if◌then◌else◌, map, sym}
use Rattle.std.specs.Prelude.{filter}
use Rattle.std.specs.List.{range_with_len}
use Rattle.self_timed.specs.declared.latency.Latency.{Latency}
use Rattle.self_timed.specs.Latency.{drives, is_reached, latency}
use Rattle.self_timed.specs.Turns.{at}
use Rattle.self_timed.proofs.Listing.{chosen_more, end_is}
use Rattle.self_timed.proofs.latency.append_reached.Goals as goal

pub loop-op-preserved : goal.loop-op-preserved
loop-op-preserved c =
    let rows = c.args.dates.now in
    let v = c.args.sensor in
    let k = c.loop-op.op in
    let so_far = map (latency rows v) (filter (is_reached c.args.vertices.now v) (range_with_len 0 k)) in
    let is = end_is c.args.vertices.now v k c.index-vertices-op.result (at c.args.table.now k) c.loop-op-test.true c.index-vertices-op.is (c.requires.table.each k c.loop-op-test.true) in
    let reached : c.is_end-reached.result ≡ is_reached c.args.vertices.now v k = c.is_end-reached.ensures ∙ (λ j. drives (sym c.index-vertices-op.is j).kind && at c.args.table.now k) ∙ sym is in
    c.in_ok-append_if.ensures
    ∙ (λ j. c.loop-op.invariant j ++ (if reached j then latency rows v k ∷ [] else []))
    ∙ append_assoc c.args.list.now.items so_far (if is_reached c.args.vertices.now v k then latency rows v k ∷ [] else [])
    ∙ ap (λ (l : List Latency). c.args.list.now.items ++ l) (sym (chosen_more (latency rows v) (is_reached c.args.vertices.now v) k))
