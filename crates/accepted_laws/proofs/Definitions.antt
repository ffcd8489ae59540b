-- Accepted definitions have a flat graph.
use Rattle.elaboration.proofs.Whole.{accepted_elaborated}
use Rattle.accepted_laws.specs.Accepted.{AcceptedHaveFlat}
use Rattle.accepted_laws.proofs.Stands.{trees_have_flat}

pub accepted_have_flat : AcceptedHaveFlat
accepted_have_flat text defs main says made = trees_have_flat main (accepted_elaborated text defs main says made).tree
