-- One more operation.
use Rattle.std.proofs.Common.{◌<◌, ◌∷◌, [], ◌∙◌, map, List, ap, length, get_or, false, Option, arith}
use Rattle.std.specs.Option.{option_map}
use Rattle.std.proofs.lemmas.List.{map-append}
use Rattle.executive_program.specs.declared.Vertex.{Vertex}
use Rattle.executive_program.proofs.ReadLens.{vertex_there}
use Rattle.operation_desks.specs.Desk.{DeskData, lens_of_desk}
use Rattle.operation_desks.proofs.MoreDesks.{desks_more}
use Rattle.operation_desks.proofs.laying.desks_for.Goals as goal

pub loop-v-preserved : goal.loop-v-preserved
loop-v-preserved c =
    let there : c.loop-v.v < length c.args.flat.now.vertices = let s =
    ap (λ (l : List Vertex). length l) c.vertices-vertices.ensures.same in let e = c.in_ok-count.ensures in let t = c.loop-v-test.true in omega arith in
    desks_more c.args.flat.now (λ v. get_or c.args.mine.now v false) c.loop-v.v c.index-vertices-v.result
    (option_map lens_of_desk c.in_ok-desk_if.field-0) (map (option_map lens_of_desk) c.loop-v.desks.items)
    (map (option_map lens_of_desk) c.push.new.self.items)
    (vertex_there c.vertices-vertices.result.now c.args.flat.now.vertices c.loop-v.v c.index-vertices-v.result
    c.vertices-vertices.ensures.same there c.index-vertices-v.is) c.loop-v.invariant (λ m. c.in_ok-desk_if.ensures (c.is_mine-is_mine.ensures ∙ m))
    (ap (λ (l : List (Option DeskData)). map (option_map lens_of_desk) l) c.in_ok-push.ensures.items ∙ map-append (option_map lens_of_desk) c.loop-v.desks.items (c.in_ok-desk_if.field-0 ∷ []))
