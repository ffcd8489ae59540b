use Rattle.comm_routing.specs.Draft.{drafted}
use Rattle.comm_routing.proofs.Keeping.{kept_right, kept_room}
use Rattle.comm_routing.proofs.progress.arrival_next.Goals as goal

pub arrival-requires-clause-operation : goal.arrival-requires-clause-operation
arrival-requires-clause-operation c =
    let s = c.args.site.now in
    let p = c.args.progress.now in
    let d = drafted s p.decisions.items in
    (kept_room d p.board c.args.reads.now p.candidates c.requires.keeps c.args.op c.args.operator c.requires.may).0

pub arrival-requires-clause-operator : goal.arrival-requires-clause-operator
arrival-requires-clause-operator c =
    let s = c.args.site.now in
    let p = c.args.progress.now in
    let d = drafted s p.decisions.items in
    (kept_room d p.board c.args.reads.now p.candidates c.requires.keeps c.args.op c.args.operator c.requires.may).1

pub returns-in-Some : goal.returns-in-Some
returns-in-Some c =
    let s = c.args.site.now in
    let p = c.args.progress.now in
    let d = drafted s p.decisions.items in
    kept_right d p.board c.args.reads.now p.candidates c.requires.keeps c.args.op c.args.operator c.requires.may c.in-Some.date c.in-Some.ensures
