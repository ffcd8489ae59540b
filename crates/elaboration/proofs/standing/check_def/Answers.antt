use Rattle.elaboration.proofs.Walks.{def_places}
use Rattle.elaboration.proofs.standing.check_def.Goals as goal

pub check_references-requires : goal.check_references-requires
check_references-requires c =
    def_places c.args.defs.now c.args.def.now.line c.args.def.now.body c.in-Graph.ins c.in-Graph.outs c.in-Graph.references
    c.as_slice.result.now c.in-Graph.edges c.args.places.now c.in-Graph.is c.as_slice.ensures c.requires
