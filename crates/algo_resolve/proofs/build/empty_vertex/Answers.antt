use Rattle.std.proofs.Common.{◌≡◌, List, [], map, ap, ap₂, ◌∙◌}
use Rattle.syn_base.specs.Bytes.{Bytes}
use Rattle.algo_laws.specs.declared.Source.{Source}
use Rattle.algo_laws.specs.Tree.{graph as plain_graph}
use Rattle.algo_laws.specs.View.{view}
use Rattle.algo_laws.specs.declared.Vertex.{Vertex}
use Rattle.algo_laws.specs.Resolved.{vertex}
use Rattle.algo_resolve.proofs.build.empty_vertex.Goals as goal

pub returns : goal.returns
returns c =
    let seat = c.args.seat in
    let name : c.in_ok-new.field-0 ≡ c.args.name.now = c.in_ok-new.ensures ∙ c.in_ok-from_slice.ensures.items ∙ c.as_bytes.ensures.same in
    c.vertex.ensures [] c.in_ok-empty.ensures c.in_ok-empty-2.ensures c.in_ok-empty-3.ensures
    ∙ ap₂ (λ (w : Bytes) (ss : List Source). vertex seat.part w seat.ins [] (plain_graph ss) (map view c.new-2.result.items)) name c.in_ok-empty-4.ensures
    ∙ ap (λ (us : List Vertex). vertex seat.part c.args.name.now seat.ins [] (plain_graph []) (map view us)) c.new-2.ensures.items
