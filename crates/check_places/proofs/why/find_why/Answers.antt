-- What the check tells of the program.
use Rattle.std.proofs.Common.{◌≡◌, ℕ, List, length, sym, ap, subst, ◌∙◌}
use Rattle.sequence_build_laws.specs.declared.Vertex.{Vertex}
use Rattle.sequence_build_laws.specs.Sequences.{sequences}
use Rattle.macro_check.specs.Causes.{cause_of}
use Rattle.macro_check.proofs.Results.{if_ok}
use Rattle.check_places.specs.Why.{RightBefore, why_of}
use Rattle.check_places.proofs.Reasons.{exactly, of_cause, of_order, right_before, shows}
use Rattle.check_places.proofs.why.find_why.Goals as goal

pub explain-requires-clause-right : goal.explain-requires-clause-right
explain-requires-clause-right c =
    let p = c.args.program.now in
    let a = c.args.archi.now in
    let cause = cause_of c.in-Err-Refused.cause in
    subst (λ (n : ℕ). RightBefore p n cause) (sym (ap length c.media-media.ensures.same))
    (right_before p c.args.flat.now (sequences a) (length a.operators) (length a.media) cause (rw c.in-Err-Refused.field-0-is at c.in-Err-Refused.ensures.refused))

pub returns-in-Ok-clause-why : goal.returns-in-Ok-clause-why
returns-in-Ok-clause-why c = of_order c.args.program.now c.args.flat.now c.args.archi.now c.media-media.ensures.valid c.in-Ok._order.items c.in-Ok.ensures.accepted

pub returns-in-Err-Refused-clause-none : goal.returns-in-Err-Refused-clause-none
returns-in-Err-Refused-clause-none c =
    let p = c.args.program.now in
    let a = c.args.archi.now in
    let cause = cause_of c.in-Err-Refused.cause in
    let told = ap (λ (vs : List Vertex). why_of p vs (sequences a) (length a.operators)
    (length a.media) cause) c.vertices-vertices.ensures.same
    ∙ of_cause p c.args.flat.now a cause (rw c.in-Err-Refused.field-0-is at c.in-Err-Refused.ensures.told) in
    if_ok c.explain.result _ _ (λ found h. exactly p c.args.flat.now a c.media-media.ensures.valid found (h ∙ told)) c.explain.ensures

pub returns-in-Err-Refused-clause-shown : goal.returns-in-Err-Refused-clause-shown
returns-in-Err-Refused-clause-shown c =
    let p = c.args.program.now in
    let a = c.args.archi.now in
    let cause = cause_of c.in-Err-Refused.cause in
    let told = ap (λ (vs : List Vertex). why_of p vs (sequences a) (length a.operators)
    (length a.media) cause) c.vertices-vertices.ensures.same
    ∙ of_cause p c.args.flat.now a cause (rw c.in-Err-Refused.field-0-is at c.in-Err-Refused.ensures.told) in
    if_ok c.explain.result _ _ (λ found h. shows p c.args.flat.now a c.media-media.ensures.valid found (h ∙ told)) c.explain.ensures
