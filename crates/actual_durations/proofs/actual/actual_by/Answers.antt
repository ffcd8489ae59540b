use Rattle.std.proofs.Common.{◌≡◌, ℕ, ◌<◌, List, length, Option, All, sym, ap, subst, ◌∙◌}
use Rattle.std.proofs.lemmas.List.FromFn.{length-map-range_with_len}
use Rattle.schedule.specs.Given.{Lines}
use Rattle.schedule.specs.Table.{entry_in}
use Rattle.schedule.specs.declared.decision.Decision.{Decision}
use Rattle.actual_durations.specs.Actual.{operator_of, operators_of}
use Rattle.actual_durations.specs.Answers.{IsOneOf}
use Rattle.actual_durations.proofs.Placed.{ops_there, operators_there}
use Rattle.actual_durations.proofs.actual.actual_by.Goals as goal

pub operators_of-requires : goal.operators_of-requires
operators_of-requires c =
    let g = c.args.flat.now in
    let s = c.args.schedule.now in
    subst (λ (n : ℕ). All (λ (d : Decision). d.op < n) c.as_slice-decisions.result.now) (sym (ap length c.vertices.ensures.same))
    (subst (λ (ds : List Decision). All (λ (d : Decision). d.op < length g.vertices) ds) (sym c.as_slice-decisions.ensures)
    (ops_there g c.args.archi.now (entry_in c.args.stated.now) s c.requires.valid))

pub check_operations-requires-clause-each : goal.check_operations-requires-clause-each
check_operations-requires-clause-each c =
    ap length (c.deref.ensures.value ∙ c.in_ok-operators.ensures) ∙ length-map-range_with_len (operator_of c.as_slice-decisions.result.now) 0 (length c.vertices.result.now)
    ∙ ap length (c.vertices.ensures.same ∙ sym c.vertices-2.ensures.same)

pub check_operations-requires-clause-there : goal.check_operations-requires-clause-there
check_operations-requires-clause-there c =
    let g = c.args.flat.now in
    let a = c.args.archi.now in
    let s = c.args.schedule.now in
    let n = length c.vertices.result.now in
    let count : c.in_ok-actual.actual.operators ≡ length a.operators = ap (λ (l : Lines). l.operators) c.in_ok-actual.ensures ∙ ap length c.operators.ensures.same in
    let table : c.deref.result.now ≡ operators_of s.decisions n = c.deref.ensures.value ∙ c.in_ok-operators.ensures ∙ ap (λ (ds : List Decision). operators_of ds n) c.as_slice-decisions.ensures in
    subst (λ (m : ℕ). All (IsOneOf m) c.deref.result.now) (sym count)
    (subst (λ (os : List (Option ℕ)). All (IsOneOf (length a.operators)) os) (sym table) (operators_there g a (entry_in c.args.stated.now) s c.requires.valid n))

pub append_operations-requires-clause-each : goal.append_operations-requires-clause-each
append_operations-requires-clause-each c =
    ap length (c.deref-2.ensures.value ∙ c.in_ok-operators.ensures) ∙ length-map-range_with_len (operator_of c.as_slice-decisions.result.now) 0 (length c.vertices.result.now)
    ∙ ap length (c.vertices.ensures.same ∙ sym c.vertices-3.ensures.same)

pub append_operations-requires-clause-there : goal.append_operations-requires-clause-there
append_operations-requires-clause-there c =
    let g = c.args.flat.now in
    let a = c.args.archi.now in
    let s = c.args.schedule.now in
    let n = length c.vertices.result.now in
    let count : c.in_ok-actual.actual.operators ≡ length a.operators = ap (λ (l : Lines). l.operators) c.in_ok-actual.ensures ∙ ap length c.operators.ensures.same in
    let table : c.deref-2.result.now ≡ operators_of s.decisions n = c.deref-2.ensures.value ∙ c.in_ok-operators.ensures ∙ ap (λ (ds : List Decision). operators_of ds n) c.as_slice-decisions.ensures in
    subst (λ (m : ℕ). All (IsOneOf m) c.deref-2.result.now) (sym count)
    (subst (λ (os : List (Option ℕ)). All (IsOneOf (length a.operators)) os) (sym table) (operators_there g a (entry_in c.args.stated.now) s c.requires.valid n))
