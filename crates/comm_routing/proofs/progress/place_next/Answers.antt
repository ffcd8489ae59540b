use Rattle.std.proofs.Common.{List, [], ◌∷◌, ◌++◌, ap, arith, length, subst, sym, ◌∙◌}
use Rattle.std.specs.Prelude.{All}
use Rattle.std.proofs.lemmas.Bool.{and_parts}
use Rattle.route_table.specs.Table.{route_in}
use Rattle.schedule.specs.declared.Source.{Source}
use Rattle.schedule.specs.declared.Vertex.{Vertex}
use Rattle.comm_routing.specs.Task.{routing}
use Rattle.comm_routing.specs.Placing.{ticks_in}
use Rattle.comm_routing.specs.Walk.{walk}
use Rattle.comm_routing.specs.Board.{FitsAll, HasWay}
use Rattle.comm_routing.specs.Tables.{after_operation, after_transfers, decision_in, outs_of, transfers_in}
use Rattle.comm_routing.specs.Draft.{IsTold, after_placing, drafted}
use Rattle.comm_routing.specs.Candidates.{HasSize, flag_at}
use Rattle.comm_routing.specs.Dependents.{AreDependents}
use Rattle.comm_routing.proofs.Sites.{at_default, length-reads}
use Rattle.comm_routing.proofs.Steps.{asks, decided, told_after}
use Rattle.comm_routing.proofs.Keeping.{behind, kept_after, stay_after}
use Rattle.comm_routing.proofs.progress.place_next.Goals as goal

pub place-requires-clause-ways : goal.place-requires-clause-ways
place-requires-clause-ways c =
    let s = c.args.site.now in
    let p = c.args.progress.now in
    let k = c.requires.keeps.told in
    let a = asks (drafted s p.decisions.items) p.board c.args.reads.now k c.args.op c.args.operator c.requires.may in
    let n = ap length k.reads_are ∙ length-reads s.flat.now.vertices in
    let l = a.operation in
    subst (λ (xs : List Source). All (HasWay s.archi.now.media p.board (route_in s.routes.now) s.routes.now.operators c.args.operator) xs)
    (at_default c.args.reads.now c.args.op [] c.index-reads-op.result (omega arith) ∙ sym c.index-reads-op.is ∙ sym c.as_slice.ensures) a.ways

pub place-requires-clause-fits : goal.place-requires-clause-fits
place-requires-clause-fits c =
    let s = c.args.site.now in
    let p = c.args.progress.now in
    let k = c.requires.keeps.told in
    let a = asks (drafted s p.decisions.items) p.board c.args.reads.now k c.args.op c.args.operator c.requires.may in
    let n = ap length k.reads_are ∙ length-reads s.flat.now.vertices in
    let l = a.operation in
    subst (λ (xs : List Source). FitsAll s.archi.now.media p.board (route_in s.routes.now) c.args.operator xs (walk p.board.ends 0))
    (at_default c.args.reads.now c.args.op [] c.index-reads-op.result (omega arith) ∙ sym c.index-reads-op.is ∙ sym c.as_slice.ensures) a.fits

pub place-requires-clause-ends : goal.place-requires-clause-ends
place-requires-clause-ends c =
    let s = c.args.site.now in
    let p = c.args.progress.now in
    let a = asks (drafted s p.decisions.items) p.board c.args.reads.now c.requires.keeps.told c.args.op c.args.operator c.requires.may in
    let e = a.ends in
    let t = c.date_or_zero.ensures ∙ ap ticks_in c.ticks.ensures.entry in
    omega arith

pub place-requires-clause-lands : goal.place-requires-clause-lands
place-requires-clause-lands c =
    (asks (drafted c.args.site.now c.args.progress.now.decisions.items) c.args.progress.now.board c.args.reads.now c.requires.keeps.told c.args.op c.args.operator c.requires.may).lands

pub place-requires-clause-outputs : goal.place-requires-clause-outputs
place-requires-clause-outputs c =
    (asks (drafted c.args.site.now c.args.progress.now.decisions.items) c.args.progress.now.board c.args.reads.now c.requires.keeps.told c.args.op c.args.operator c.requires.may).outputs

pub update-requires-clause-behind : goal.update-requires-clause-behind
update-requires-clause-behind c =
    let s = c.args.site.now in
    let g = c.args.progress.now in
    let d = drafted s g.decisions.items in
    let time = c.date_or_zero.ensures ∙ ap ticks_in c.ticks.ensures.entry in
    let m = routing s.flat.now s.archi.now s.routes.now in
    let is = c.in_ok-quiet.ensures.tables
    ∙ ap (λ n. after_operation (after_transfers g.board (transfers_in m g.board c.args.op c.args.operator)) (outs_of m c.args.op) (decision_in m g.board c.args.op c.args.operator n)) time in
    behind d g.board c.place.new.board c.args.reads.now g.candidates c.args.op c.args.operator c.requires.keeps c.requires.may
    (told_after d g.board c.args.reads.now c.requires.keeps.told c.args.op c.args.operator c.requires.may c.place.new.board is) c.vertices.result.now c.vertices.ensures.same

pub returns-clause-placed : goal.returns-clause-placed
returns-clause-placed c =
    let s = c.args.site.now in
    let g = c.args.progress.now in
    let d = drafted s g.decisions.items in
    let time = c.date_or_zero.ensures ∙ ap ticks_in c.ticks.ensures.entry in
    let m = routing s.flat.now s.archi.now s.routes.now in
    ap (λ ds. drafted s ds)
    (c.in_ok-quiet.ensures.decided ∙ ap (λ n. g.decisions.items ++ decision_in m g.board c.args.op c.args.operator n ∷ []) time
    ∙ ap (λ x. g.decisions.items ++ x ∷ []) (sym (decided d g.board c.args.reads.now c.requires.keeps.told c.args.op c.args.operator c.requires.may)))

pub returns-clause-keeps : goal.returns-clause-keeps
returns-clause-keeps c =
    let s = c.args.site.now in
    let g = c.args.progress.now in
    let d = drafted s g.decisions.items in
    let time = c.date_or_zero.ensures ∙ ap ticks_in c.ticks.ensures.entry in
    let m = routing s.flat.now s.archi.now s.routes.now in
    let is = c.in_ok-quiet.ensures.tables
    ∙ ap (λ n. after_operation (after_transfers g.board (transfers_in m g.board c.args.op c.args.operator)) (outs_of m c.args.op) (decision_in m g.board c.args.op c.args.operator n)) time in
    let told : IsTold (after_placing d c.args.op c.args.operator) c.place.new.board c.args.reads.now =
    told_after d g.board c.args.reads.now c.requires.keeps.told c.args.op c.args.operator c.requires.may c.place.new.board is in
    kept_after (after_placing d c.args.op c.args.operator) c.place.new.board c.args.reads.now told
    c.vertices.result.now c.vertices.ensures.same c.in_ok-quiet.quiet g.candidates c.update.new.self
    (subst (λ xs. AreDependents xs g.candidates.dependents.items) (sym c.vertices.ensures.same) c.requires.keeps.dependents) c.update.ensures
    (λ v p n l can e on is.
    let both = and_parts (flag_at g.candidates v) c.in_ok-quiet.quiet e in
    stay_after d g.board c.args.reads.now g.candidates c.args.op c.args.operator c.requires.keeps c.requires.may
    (ap (λ x. x.transfers) (decided d g.board c.args.reads.now c.requires.keeps.told c.args.op c.args.operator c.requires.may) ∙ c.in_ok-quiet.ensures.quiet both.1) v p n l can both.0 on is)

pub bounds-reads-op : goal.bounds-reads-op
bounds-reads-op c =
    let a = asks (drafted c.args.site.now c.args.progress.now.decisions.items) c.args.progress.now.board c.args.reads.now c.requires.keeps.told c.args.op c.args.operator c.requires.may in
    let n = ap length c.requires.keeps.told.reads_are ∙ length-reads c.args.site.now.flat.now.vertices in
    let l = a.operation in
    omega arith

pub place-requires-clause-operator : goal.place-requires-clause-operator
place-requires-clause-operator c =
    let a = asks (drafted c.args.site.now c.args.progress.now.decisions.items) c.args.progress.now.board c.args.reads.now c.requires.keeps.told c.args.op c.args.operator c.requires.may in
    (a.operator, a.few)

pub place-requires-clause-operation : goal.place-requires-clause-operation
place-requires-clause-operation c =
    let a = asks (drafted c.args.site.now c.args.progress.now.decisions.items) c.args.progress.now.board c.args.reads.now c.requires.keeps.told c.args.op c.args.operator c.requires.may in
    (a.operation, a.first, a.place, a.ended)

pub place-requires-clause-reads : goal.place-requires-clause-reads
place-requires-clause-reads c =
    let a = asks (drafted c.args.site.now c.args.progress.now.decisions.items) c.args.progress.now.board c.args.reads.now c.requires.keeps.told c.args.op c.args.operator c.requires.may in
    let n = ap length c.requires.keeps.told.reads_are ∙ length-reads c.args.site.now.flat.now.vertices in
    let l = a.operation in
    c.as_slice.ensures ∙ c.index-reads-op.is ∙ sym (at_default c.args.reads.now c.args.op [] c.index-reads-op.result (omega arith)) ∙ a.reads_same

pub update-requires-clause-size : goal.update-requires-clause-size
update-requires-clause-size c = subst (λ (l : List Vertex). HasSize (length l) c.args.progress.now.candidates) (sym c.vertices.ensures.same) c.requires.keeps.size
