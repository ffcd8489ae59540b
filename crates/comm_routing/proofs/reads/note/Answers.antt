use Rattle.std.proofs.Common.{sym, subst, List}
use Rattle.std.specs.Prelude.{slice_set}
use Rattle.schedule.specs.declared.Source.{Source}
use Rattle.comm_routing.specs.Start.{IsMarked, place_of}
use Rattle.comm_routing.proofs.Marking.{noted}
use Rattle.comm_routing.proofs.reads.note.Goals as goal

pub returns-in_ok-push-clause-marked : goal.returns-in_ok-push-clause-marked
returns-in_ok-push-clause-marked c =
    subst (λ (l : List Source). IsMarked c.args.operations c.args.mark (slice_set c.args.marks.now (place_of c.args.source) c.args.mark) l) (sym c.in_ok-push.ensures.items)
    (noted c.args.operations c.args.mark c.args.marks.now c.args.reads.now.items c.requires.marked c.args.source c.requires.there c.if-marks-place.true).1
