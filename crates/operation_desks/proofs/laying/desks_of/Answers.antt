-- All are to be computed.
use Rattle.std.proofs.Common.{◌∙◌, ap, map, get_or, true, false, length, replicate, List}
use Rattle.std.specs.Option.{option_map}
use Rattle.std.proofs.lemmas.Result.{IfOk-weaker}
use Rattle.executive_program.specs.declared.Vertex.{Vertex}
use Rattle.operation_desks.specs.Desk.{AreDesks, lens_of_desk}
use Rattle.operation_desks.proofs.MoreDesks.{all_desks}
use Rattle.operation_desks.proofs.laying.desks_of.Goals as goal

pub returns-clause-desks : goal.returns-clause-desks
returns-clause-desks c = let g = c.args.flat.now in let mine = c.as_slice.result.now in
    IfOk-weaker c.desks_for.result (λ s. AreDesks g (λ v. get_or mine v false) (length g.vertices) (map (option_map lens_of_desk) s.items)) _
    (λ s are. all_desks g (map (option_map lens_of_desk) s.items) mine
    (c.as_slice.ensures.value ∙ c.in_ok-mine.ensures ∙ ap (λ (l : List Vertex). replicate (length l) true) c.vertices.ensures.same) are) c.desks_for.ensures.desks
