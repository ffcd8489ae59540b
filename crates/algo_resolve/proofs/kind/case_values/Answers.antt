use Rattle.std.proofs.Common.{◌≡◌, ℕ, ◌+◌, ◌<◌, ℤ, List, [], ◌∷◌, ◌++◌, length, get_or, map, drop, ap, sym, ◌∙◌, append_assoc, w64, to_z, of_z, rules}
use Rattle.std.proofs.lemmas.Int.{to_z-of_z}
use Rattle.algo_check.proofs.Fresh.{from_here}
use Rattle.algo_laws.specs.declared.Case.{Case}
use Rattle.algo_resolve.proofs.kind.case_values.Goals as goal

-- the value of one case more
next_case : (cs : List Case) (i : ℕ) (c : Case) (vs ws : List ℤ)
    → i < length cs → c ≡ get_or cs i c → ws ≡ vs ++ c.value ∷ []
    → ws ++ map (λ x. x.value) (drop (i + 1) cs) ≡ vs ++ map (λ x. x.value) (drop i cs)
next_case cs i c vs ws low is more =
    ap (λ (xs : List ℤ). xs ++ map (λ x. x.value) (drop (i + 1) cs)) more
    ∙ append_assoc vs (c.value ∷ []) (map (λ x. x.value) (drop (i + 1) cs))
    ∙ ap (λ (ks : List Case). vs ++ map (λ x. x.value) ks) (sym (from_here cs i c low is))

pub loop-case-preserved : goal.loop-case-preserved
loop-case-preserved c =
    let back : to_z w64 (of_z w64 c.case-item.result.value) ≡ c.case-item.result.value = search (rules, to_z-of_z) in
    next_case c.args.cases.now _ c.case-item.result _ _ c.loop-case-test.true c.case-item.is
    (c.in_ok-push.ensures.items ∙ ap (λ (x : ℤ). c.loop-case.values.items ++ x ∷ []) back)
    ∙ c.loop-case.invariant
