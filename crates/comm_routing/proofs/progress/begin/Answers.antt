use Rattle.std.proofs.Common.{◌≤◌, List, [], arith, length, ap, false, subst, sym}
use Rattle.syn_base.specs.declared.name.Name.{Name}
use Rattle.std.proofs.lemmas.Bool.{false≢true, and_parts}
use Rattle.schedule.specs.declared.Vertex.{Vertex}
use Rattle.comm_routing.specs.Candidates.{flag_at}
use Rattle.comm_routing.specs.Draft.{IsTold, drafted}
use Rattle.comm_routing.proofs.Sites.{all_few, told_begin}
use Rattle.comm_routing.proofs.Keeping.{kept_after}
use Rattle.comm_routing.proofs.progress.begin.Goals as goal

pub new-requires-clause-outputs : goal.new-requires-clause-outputs
new-requires-clause-outputs c = all_few c.args.site.now.flat.now c.vertices-vertices.ensures.valid c.vertices-vertices.result.now c.vertices-vertices.ensures.same

pub returns-clause-keeps : goal.returns-clause-keeps
returns-clause-keeps c =
    let s = c.args.site.now in
    let told : IsTold (drafted s []) c.in_ok-board.board c.args.reads.now =
    told_begin s.flat.now s.archi.now s.routes.now s.durations.now c.requires.site c.in_ok-board.board c.args.reads.now (length c.operators.result.now)
    c.vertices-vertices.result.now c.vertices-vertices.ensures.same c.in_ok-board.ensures (ap length c.operators.ensures.same) c.requires.reads c.requires.short in
    kept_after (drafted s []) c.in_ok-board.board c.args.reads.now told
    c.vertices-vertices.result.now c.vertices-vertices.ensures.same false c.in_ok-candidates.candidates c.fill.new.self c.in_ok-candidates.ensures.dependents c.fill.ensures
    (λ v p n l can e on is. absurd (false≢true (and_parts (flag_at c.in_ok-candidates.candidates v) false e).1))

pub new-requires-clause-few : goal.new-requires-clause-few
new-requires-clause-few c =
    let vertices = ap (λ (l : List Vertex). length l) c.vertices-vertices.ensures.same in
    let operators = ap (λ (l : List Name). length l) c.operators.ensures.same in
    let site = c.requires.site in
    (omega arith, omega arith)

pub fill-requires-clause-few : goal.fill-requires-clause-few
fill-requires-clause-few c = subst (λ (l : List Vertex). length l ≤ 2048) (sym c.vertices-vertices.ensures.same) c.requires.site.operations

pub fill-requires-clause-size : goal.fill-requires-clause-size
fill-requires-clause-size c = c.in_ok-candidates.ensures.size
