use Rattle.std.proofs.Common.{◌≡◌, ◌==◌, List, length, Ok, Err, ap, sym, subst, ◌∙◌}
use Rattle.std.proofs.lemmas.Result.{err_from_is_err_and}
use Rattle.text_lines.specs.Refusals.{Fails}
use Rattle.algo_laws.specs.Refusals.{AlgoError}
use Rattle.multi_period.specs.Within as made
use Rattle.elaboration.specs.Elaborated.{elaboration_of}
use Rattle.multi_period.specs.declared.Mark.{Mark}
use Rattle.multi_period.specs.Marks.{MayHaveMarks}
use Rattle.multi_period.specs.Within.{made_within}
use Rattle.algo_laws.specs.Resolved.{resolution_of}
use Rattle.algo_laws.specs.Tree.{Vertex}
use Rattle.elaboration.proofs.Answered.{made_refused, made_stays, resolving_refused, unmarked_stays, was_tree}
use Rattle.elaboration.proofs.Resolved.{not_refused}
use Rattle.elaboration.proofs.elaborate.Goals as goal

pub marks-requires-clause-resolved : goal.marks-requires-clause-resolved
marks-requires-clause-resolved c =
    let ds = c.args.defs.now.defs in
    let was = was_tree (resolution_of ds) c.in_ok-tree.tree c.in_ok-tree.ensures in
    not_refused ds was.main was.resolves

pub returns-then-is_empty : goal.returns-then-is_empty
returns-then-is_empty c =
    unmarked_stays c.args.defs.now.defs c.in_ok-tree.tree c.in_ok-tree.ensures c.in_ok-marks.marks.items c.in_ok-marks.ensures c.requires.read
    (ap (λ (ms : List Mark). length ms == 0) (sym c.as_slice.ensures.value) ∙ sym c.is_empty.ensures ∙ c.if-is_empty.true)

pub periods-requires : goal.periods-requires
periods-requires c =
    let ds = c.args.defs.now.defs in
    let was = was_tree (resolution_of ds) c.in_ok-tree.tree c.in_ok-tree.ensures in
    let stand = subst (λ (t : Vertex). MayHaveMarks c.in_ok-marks.marks.items t) was.is_pruned
    ((c.accepted_marks_stand.ensures ds was.main c.in_ok-marks.marks.items c.requires.read c.requires.periods was.resolves c.in_ok-marks.ensures).1) in
    subst (λ (ms : List Mark). MayHaveMarks ms c.in_ok-tree.tree) (sym c.deref.ensures.value) stand

pub returns-in-Ok : goal.returns-in-Ok
returns-in-Ok c =
    let ds = c.args.defs.now.defs in
    let tree = c.in_ok-tree.tree in
    let is = subst (λ (ms : List Mark). made_within ms tree ≡ Ok c.in-Ok.made) c.deref.ensures.value c.in-Ok.ensures.gives in
    made_stays ds tree c.in_ok-tree.ensures c.in_ok-marks.marks.items c.in_ok-marks.ensures c.in-Ok.made is

pub returns-in_err-tree : goal.returns-in_err-tree
returns-in_err-tree c =
    let p = err_from_is_err_and c.from_residual.result c.from_residual.ensures.1 in
    rw (p.1, p.2) (resolving_refused c.args.defs.now.defs c.in_err-tree.field-0.0 c.in_err-tree.ensures)

pub returns : goal.returns
returns c =
    let defs = c.args.defs.now in
    let tree = c.in_ok-tree.tree in
    let told = subst (λ (ms : List Mark). made.Gives (Err c.in-Err.error) (made_within ms tree)) c.deref.ensures.value c.in-Err.ensures.gives in
    subst (λ (e : AlgoError). Fails {A = Vertex} e (elaboration_of defs)) (sym c.refusal_of.ensures)
    (made_refused defs.defs tree c.in_ok-tree.ensures c.in_ok-marks.marks.items c.in_ok-marks.ensures c.in-Err.error told)
