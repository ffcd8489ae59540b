use Rattle.std.proofs.Common.{◌≡◌, ◌++◌, ℤ, rules, subst, of_z, to_z, w64}
use Rattle.std.specs.List.{flat_map}
use Rattle.std.proofs.lemmas.Int.{to_z-of_z}
use Rattle.text_lint.specs.Algorithm.{other_case, other_value}
use Rattle.text_lint.proofs.Appending.{appended, appended_all}
use Rattle.text_lint.proofs.switches.append_others.Goals as goal

pub loop-case-preserved : goal.loop-case-preserved
loop-case-preserved c =
    let added : c.append_if_other.new.found.items ≡ c.loop-case.found.items ++ other_value c.args.reference.now (to_z w64 (of_z w64 c.args.value)) c.case-item.result.value =
    search (rules, to_z-of_z) in
    appended (other_case c.args.reference.now (to_z w64 (of_z w64 c.args.value))) c.args.cases.now c.loop-case.case-index c.case-item.result _ _ _
    c.loop-case-test.true c.case-item.is added c.loop-case.invariant

pub returns : goal.returns
returns c =
    subst (λ (z : ℤ). c.loop-case.found.items ≡ c.args.found.now.items ++ flat_map (other_case c.args.reference.now z) c.args.cases.now)
    (to_z-of_z w64 c.args.value c.ranges.value)
    (appended_all (other_case c.args.reference.now (to_z w64 (of_z w64 c.args.value))) c.args.cases.now c.loop-case.case-index _ _
    c.loop-case-test.false c.loop-case.invariant)
