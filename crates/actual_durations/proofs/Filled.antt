-- The table of operators is filled decision by decision.
use Rattle.std.proofs.Common.{◌≡◌, ℕ, zero, suc, ◌<◌, Bool, true, false, cond, List, [], ◌∷◌, length, Option, Some, None, refl, sym, ap, arith, ◌∙◌, get_or-set_same, get_or-set_other}
use Rattle.std.specs.Prelude.{slice_index_or, slice_set, option_map, is_none, replicate, ◌==◌}
use Rattle.std.specs.List.{find}
use Rattle.std.proofs.lemmas.Bool.{eqb-true, false≢true, eq-eqb}
use Rattle.std.proofs.lemmas.List.{length-replicate, length-set}
use Rattle.std.proofs.lemmas.List.FromFn.{fill_by_all}
use Rattle.schedule.specs.Given.{first_of}
use Rattle.schedule.specs.declared.decision.Decision.{Decision}
use Rattle.actual_durations.specs.Actual.{operator_of, operators_of}

abbrev pub operator_at : List (Option ℕ) → ℕ → Option ℕ
operator_at os v = slice_index_or os v None

-- with the decisions that are left, the table has the operator of each operation
pub record IsFilled (operations : ℕ) (os : List (Option ℕ)) (left ds : List Decision) : Type 0 where
  pub each : length os ≡ operations
  pub same : (v : ℕ) → first_of (operator_at os v) (operator_of left v) ≡ operator_of ds v

no_operator : (n v : ℕ) → operator_at (replicate n None) v ≡ None
no_operator zero v = refl
no_operator (suc n) zero = refl
no_operator (suc n) (suc v) = no_operator n v

pub empty : (n : ℕ) (os : List (Option ℕ)) (ds : List Decision) → os ≡ replicate n None → IsFilled n os ds ds
empty n os ds e = record {
  each = ap length e ∙ length-replicate n None;
  same = λ v. ap (λ (o : Option ℕ). first_of o (operator_of ds v)) (ap (λ (l : List (Option ℕ)). operator_at l v) e ∙ no_operator n v);
}

-- a decision whose operation has no operator yet
pub noted : (n : ℕ) (os : List (Option ℕ)) (d : Decision) (left ds : List Decision) → IsFilled n os (d ∷ left) ds → d.op < n
    → operator_at os d.op ≡ None → IsFilled n (slice_set os d.op (Some d.operator)) left ds
noted n os d left ds f less none = record { each = length-set os d.op (Some d.operator) ∙ f.each; same = λ v. by v (d.op == v) refl ∙ f.same v }
  where
    by : (v : ℕ) (b : Bool) → (d.op == v) ≡ b → first_of (operator_at (slice_set os d.op (Some d.operator)) v) (operator_of left v) ≡ first_of (operator_at os v) (operator_of (d ∷ left) v)
    by v true e =
        let at : d.op ≡ v = eqb-true d.op v e in
        let low : d.op < length os = let z = f.each in omega arith in
        let here : operator_at (slice_set os d.op (Some d.operator)) v
        ≡ Some d.operator = ap (λ (k : ℕ). operator_at (slice_set os d.op (Some d.operator)) k) (sym at)
        ∙ get_or-set_same os d.op (Some d.operator) None low in
        let before : operator_at os v ≡ None = ap (λ (k : ℕ). operator_at os k) (sym at) ∙ none in
        ap (λ (o : Option ℕ). first_of o (operator_of left v)) here
        ∙ sym (ap (λ (o : Option ℕ). first_of o (operator_of (d ∷ left) v)) before
        ∙ ap (λ (b : Bool). option_map (λ (q : Decision). q.operator) (cond b (Some d) (find (λ (q : Decision). q.op == v) left))) e)
    by v false e =
        let other : v ≡ d.op → ⊥ = λ h. false≢true (sym e ∙ eq-eqb d.op v (sym h)) in
        ap (λ (o : Option ℕ). first_of o (operator_of left v)) (get_or-set_other os d.op v (Some d.operator) None other)
        ∙ sym (ap (λ (b : Bool). first_of (operator_at os v) (option_map (λ (q : Decision). q.operator) (cond b (Some d) (find (λ (q : Decision). q.op == v) left)))) e)

-- a decision whose operation has one
pub passed : (n : ℕ) (os : List (Option ℕ)) (d : Decision) (left ds : List Decision) → IsFilled n os (d ∷ left) ds → is_none (operator_at os d.op) ≡ false → IsFilled n os left ds
passed n os d left ds f some = record { each = f.each; same = λ v. by v (d.op == v) refl (operator_at os v) refl ∙ f.same v }
  where
    by : (v : ℕ) (b : Bool) → (d.op == v) ≡ b → (o : Option ℕ) → operator_at os v ≡ o → first_of (operator_at os v) (operator_of left v) ≡ first_of (operator_at os v) (operator_of (d ∷ left) v)
    by v true e (Some p) is = ap (λ (o : Option ℕ). first_of o (operator_of left v)) is ∙ sym (ap (λ (o : Option ℕ). first_of o (operator_of (d ∷ left) v)) is)
    by v true e None is = absurd (false≢true (sym some ∙ ap is_none (ap (λ (k : ℕ). operator_at os k) (eqb-true d.op v e) ∙ is)))
    by v false e o is = sym (ap (λ (b : Bool). first_of (operator_at os v) (option_map (λ (q : Decision). q.operator) (cond b (Some d) (find (λ (q : Decision). q.op == v) left)))) e)

pub filled : (n : ℕ) (os : List (Option ℕ)) (ds : List Decision) → IsFilled n os [] ds → os ≡ operators_of ds n
filled n os ds f = fill_by_all (operator_of ds) os n None f.each (λ v h. by (operator_at os v) ∙ f.same v)
  where
    by : (o : Option ℕ) → o ≡ first_of o None
    by (Some p) = refl
    by None = refl
