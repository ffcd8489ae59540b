use Rattle.std.proofs.Common.{ap, arith, length, sym, subst}
use Rattle.comm_routing.specs.Start.{IsMarked}
use Rattle.comm_routing.proofs.Marking.{none_marked, few}
use Rattle.comm_routing.proofs.Reading.{guards_there, ins_there}
use Rattle.comm_routing.proofs.reads.reads_of.Goals as goal

pub note_guards-requires-clause-marked : goal.note_guards-requires-clause-marked
note_guards-requires-clause-marked c =
    subst (λ l. IsMarked c.args.operations c.args.mark c.args.marks.now l) (sym c.new-reads.ensures.items)
    (none_marked c.args.operations c.args.mark c.args.marks.now c.requires.size c.requires.unmarked)

pub note_guards-requires-clause-there : goal.note_guards-requires-clause-there
note_guards-requires-clause-there c = guards_there c.args.operations c.args.vertex.now c.requires.there c.as_slice.result.now c.as_slice.ensures

pub note_all-requires-clause-there : goal.note_all-requires-clause-there
note_all-requires-clause-there c = ins_there c.args.operations c.args.vertex.now c.requires.there c.as_slice-2.result.now c.as_slice-2.ensures

pub returns-clause-short : goal.returns-clause-short
returns-clause-short c =
    let f = few c.args.operations c.args.mark c.note_all.new.marks c.note_all.new.reads.items c.in_ok-note_all.ensures.marked c.requires.few in
    let e = ap length c.new.ensures in
    omega arith
