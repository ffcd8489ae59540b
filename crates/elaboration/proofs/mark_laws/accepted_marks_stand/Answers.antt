use Rattle.elaboration.proofs.PrunedMarks.{stand-pruned}
use Rattle.elaboration.proofs.Trees.{marks_stand}
use Rattle.elaboration.proofs.mark_laws.accepted_marks_stand.Goals as goal

pub returns : goal.returns
returns c ds main marks read have resolves marked =
    let stand = marks_stand ds main marks read have resolves marked in
    (stand, stand-pruned marks main stand)
