use Rattle.std.proofs.Common.{length, sym, ap, ◌∙◌}
use Rattle.macro_check.proofs.Checked.{cause_here, names_told, refuses, named_is, not_named, not_well_formed, there, few, accepted, refused, not_refused}
use Rattle.macro_check.proofs.Results.{both_ok, if_err}
use Rattle.macro_check.proofs.check.macro_check.Goals as goal

pub returns-then-not-are_named-clause-refused : goal.returns-then-not-are_named-clause-refused
returns-then-not-are_named-clause-refused c =
    let told = named_is c.args.program.now c.args.flat.now c.args.archi.now c.vertices-vertices.result.now c.operators-operators.result.now
    c.media.result.now c.vertices-vertices.ensures.same c.operators-operators.ensures.same c.media.ensures.same in
    not_named c.args.program.now c.args.flat.now c.args.archi.now (sym told ∙ sym c.are_named.ensures ∙ c.if-not-are_named.true)

pub returns-then-not-are_named-clause-told : goal.returns-then-not-are_named-clause-told
returns-then-not-are_named-clause-told c =
    let told = named_is c.args.program.now c.args.flat.now c.args.archi.now c.vertices-vertices.result.now c.operators-operators.result.now
    c.media.result.now c.vertices-vertices.ensures.same c.operators-operators.ensures.same c.media.ensures.same in
    names_told c.args.program.now c.args.flat.now c.args.archi.now (sym told ∙ sym c.are_named.ensures ∙ c.if-not-are_named.true)

pub returns-then-not-are_named-clause-complete : goal.returns-then-not-are_named-clause-complete
returns-then-not-are_named-clause-complete c =
    let told = named_is c.args.program.now c.args.flat.now c.args.archi.now c.vertices-vertices.result.now c.operators-operators.result.now
    c.media.result.now c.vertices-vertices.ensures.same c.operators-operators.ensures.same c.media.ensures.same in
    not_well_formed c.args.program.now c.args.flat.now c.args.archi.now (sym told ∙ sym c.are_named.ensures ∙ c.if-not-are_named.true) c.media.ensures.valid

pub check_named-requires-clause-named : goal.check_named-requires-clause-named
check_named-requires-clause-named c =
    let told = named_is c.args.program.now c.args.flat.now c.args.archi.now c.vertices-vertices.result.now c.operators-operators.result.now
    c.media.result.now c.vertices-vertices.ensures.same c.operators-operators.ensures.same c.media.ensures.same in
    there c.args.program.now c.args.flat.now c.args.archi.now (sym told ∙ sym c.are_named.ensures ∙ c.if-not-are_named.false)

pub check_named-requires-clause-few : goal.check_named-requires-clause-few
check_named-requires-clause-few c =
    let told = named_is c.args.program.now c.args.flat.now c.args.archi.now c.vertices-vertices.result.now c.operators-operators.result.now
    c.media.result.now c.vertices-vertices.ensures.same c.operators-operators.ensures.same c.media.ensures.same in
    few c.args.program.now c.args.flat.now c.args.archi.now (sym told ∙ sym c.are_named.ensures ∙ c.if-not-are_named.false) c.media.ensures.valid

pub returns-clause-accepted : goal.returns-clause-accepted
returns-clause-accepted c =
    let told = named_is c.args.program.now c.args.flat.now c.args.archi.now c.vertices-vertices.result.now c.operators-operators.result.now
    c.media.result.now c.vertices-vertices.ensures.same c.operators-operators.ensures.same c.media.ensures.same in
    both_ok c.check_named.result _ _ _ (λ order w l. accepted c.args.program.now c.args.flat.now c.args.archi.now (sym told ∙ sym c.are_named.ensures ∙ c.if-not-are_named.false)
    c.vertices-vertices.result.now (length c.media-2.result.now) c.vertices-vertices.ensures.same
    (ap length c.media-2.ensures.same) order.items w l) c.check_named.ensures.found c.check_named.ensures.nothing

pub returns-clause-refused : goal.returns-clause-refused
returns-clause-refused c =
    let told = named_is c.args.program.now c.args.flat.now c.args.archi.now c.vertices-vertices.result.now c.operators-operators.result.now
    c.media.result.now c.vertices-vertices.ensures.same c.operators-operators.ensures.same c.media.ensures.same in
    if_err c.check_named.result _ _ (refuses _ _ (refused c.args.program.now c.args.flat.now c.args.archi.now (sym told ∙ sym c.are_named.ensures ∙ c.if-not-are_named.false)
    c.vertices-vertices.result.now (length c.media-2.result.now) c.vertices-vertices.ensures.same (ap length c.media-2.ensures.same))) c.check_named.ensures.refused

pub returns-clause-told : goal.returns-clause-told
returns-clause-told c =
    let told = named_is c.args.program.now c.args.flat.now c.args.archi.now c.vertices-vertices.result.now c.operators-operators.result.now
    c.media.result.now c.vertices-vertices.ensures.same c.operators-operators.ensures.same c.media.ensures.same in
    if_err c.check_named.result _ _ (refuses _ _ (cause_here c.args.program.now c.args.flat.now c.args.archi.now (sym told ∙ sym c.are_named.ensures ∙ c.if-not-are_named.false)
    c.vertices-vertices.result.now (length c.media-2.result.now) c.vertices-vertices.ensures.same (ap length c.media-2.ensures.same))) c.check_named.ensures.refused

pub returns-clause-complete : goal.returns-clause-complete
returns-clause-complete c w =
    let told = named_is c.args.program.now c.args.flat.now c.args.archi.now c.vertices-vertices.result.now c.operators-operators.result.now
    c.media.result.now c.vertices-vertices.ensures.same c.operators-operators.ensures.same c.media.ensures.same in
    if_err c.check_named.result _ _ (refuses _ _ (not_refused c.args.program.now c.args.flat.now c.args.archi.now (sym told ∙ sym c.are_named.ensures ∙ c.if-not-are_named.false)
    c.vertices-vertices.result.now (length c.media-2.result.now) c.vertices-vertices.ensures.same (ap length c.media-2.ensures.same) c.media.ensures.valid w)) c.check_named.ensures.refused
