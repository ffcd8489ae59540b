use Rattle.comm_routing.specs.Draft.{drafted}
use Rattle.comm_routing.proofs.Keeping.{kept_more, kept_room}
use Rattle.comm_routing.proofs.progress.find_next.Goals as goal

pub arrival-requires-clause-operation : goal.arrival-requires-clause-operation
arrival-requires-clause-operation c =
    let s = c.args.site.now in
    let p = c.args.progress.now in
    let d = drafted s p.decisions.items in
    (kept_room d p.board c.args.reads.now p.candidates c.requires.keeps c.args.op c.args.operator c.requires.may).0

pub arrival-requires-clause-operator : goal.arrival-requires-clause-operator
arrival-requires-clause-operator c =
    let s = c.args.site.now in
    let p = c.args.progress.now in
    let d = drafted s p.decisions.items in
    (kept_room d p.board c.args.reads.now p.candidates c.requires.keeps c.args.op c.args.operator c.requires.may).1

pub keep-requires-clause-operation : goal.keep-requires-clause-operation
keep-requires-clause-operation c =
    let s = c.args.site.now in
    let p = c.args.progress.now in
    let d = drafted s p.decisions.items in
    (kept_room d p.board c.args.reads.now p.candidates c.requires.keeps c.args.op c.args.operator c.requires.may).0

pub keep-requires-clause-operator : goal.keep-requires-clause-operator
keep-requires-clause-operator c =
    let s = c.args.site.now in
    let p = c.args.progress.now in
    let d = drafted s p.decisions.items in
    (kept_room d p.board c.args.reads.now p.candidates c.requires.keeps c.args.op c.args.operator c.requires.may).1

pub returns-clause-keeps : goal.returns-clause-keeps
returns-clause-keeps c =
    let s = c.args.site.now in
    let p = c.args.progress.now in
    let d = drafted s p.decisions.items in
    kept_more d p.board c.args.reads.now p.candidates c.keep.new.self c.args.op c.args.operator c.walked-date.result c.requires.keeps
    c.keep.ensures.ready c.keep.ensures.dependents c.keep.ensures.size c.keep.ensures.kept c.walked-date.ensures
