-- The faults of the cases of a switch, one case after another.
use Rattle.std.proofs.Common.{◌≡◌, ℕ, ◌<◌, ◌≤◌, suc, Bool, true, false, cond, List, [], ◌∷◌, ◌++◌, Option, Some, None, Err, length, map, get_or, take, drop, ap, sym, ◌∙◌, subst, ℤ}
use Rattle.std.proofs.lemmas.List.{map-append, at_drop_all}
use Rattle.std.proofs.Math.Seq.{take-suc, drop-cons}
use Rattle.syn_base.specs.Bytes.{Bytes}
use Rattle.text_lines.specs.declared.fault.TextError.TheVariants as error
use Rattle.text_lines.specs.Refusals.{Refused, Limit}
use Rattle.algo_rules.specs.Refusals.{AlgoError, AlgoRefusal}
use Rattle.algo_rules.specs.declared.Port.{Port}
use Rattle.algo_rules.specs.declared.Case.{Case}
use Rattle.algo_rules.specs.Links.{first_of}
use Rattle.algo_rules.specs.Placed.{Checks}
use Rattle.algo_rules.specs.Frontiers.{case_fault, case_faults}
use Rattle.algo_rules.specs.declared.ports.Ports.{Ports}

-- The first refusal is that of the first that is refused.
told : (e : AlgoError) (o : Option AlgoRefusal) (os : List (Option AlgoRefusal)) → Checks {A = Unit {0}} (Err e) o → Checks {A = Unit {0}} (Err e) (first_of (o ∷ os))
told (error.Refused f) o os h = ap (λ (x : Option AlgoRefusal). first_of (x ∷ os)) h
told (error.Limit f) o os h = ap (λ (x : Option AlgoRefusal). first_of (x ∷ os)) h
told error.OutOfMemory o os h = tt

abbrev values : List Case → List ℤ
values cs = map (λ c. c.value) cs

module _ (of : Bytes → Ports) (ins outs : List Port) (cs : List Case) (i : ℕ) (rest : List (Option AlgoRefusal)) where
  -- what is told of the cases from one on, and then of the rest
  abbrev pub left : ℕ → Option AlgoRefusal
  left k = first_of (case_faults of ins outs (values (take k cs)) (drop k cs) ++ rest)

  module _ (c : Case) (p : Ports) (below : i < length cs) (here : c ≡ get_or cs i c) (ports : p ≡ of c.def) where
    values_more : values (take (suc i) cs) ≡ values (take i cs) ++ c.value ∷ []
    values_more =
        ap values (take-suc cs i c below)
        ∙ map-append (λ k. k.value) (take i cs) (get_or cs i c ∷ [])
        ∙ ap (λ (k : Case). values (take i cs) ++ k.value ∷ []) (sym here)

    abbrev given : Option AlgoRefusal
    given = case_fault (λ w. p) ins outs (values (take i cs)) c

    next_case : left i ≡ first_of (given ∷ (case_faults of ins outs (values (take (suc i) cs)) (drop (suc i) cs) ++ rest))
    next_case =
        ap (λ (ks : List Case). first_of (case_faults of ins outs (values (take i cs)) ks ++ rest)) (drop-cons cs i c below)
        ∙ ap (λ (k : Case). first_of (case_faults of ins outs (values (take i cs)) (k ∷ drop (suc i) cs) ++ rest)) (sym here)
        ∙ ap (λ (vs : List ℤ). first_of (case_fault of ins outs (values (take i cs)) c ∷ (case_faults of ins outs vs (drop (suc i) cs) ++ rest))) (sym values_more)
        ∙ ap (λ (q : Ports). first_of (case_fault (λ w. q) ins outs (values (take i cs)) c ∷ (case_faults of ins outs (values (take (suc i) cs)) (drop (suc i) cs) ++ rest))) (sym ports)

    pub refused_here : (e : AlgoError) (expected : Option AlgoRefusal) → left i ≡ expected → Checks {A = Unit {0}} (Err e) given → Checks {A = Unit {0}} (Err e) expected
    refused_here e expected so_far h =
        let P : Option AlgoRefusal → Type 0 = λ o. Checks {A = Unit {0}} (Err e) o in
        subst P (sym next_case ∙ so_far) (told e given (case_faults of ins outs (values (take (suc i) cs)) (drop (suc i) cs) ++ rest) h)

    pub passed_here : (expected : Option AlgoRefusal) → left i ≡ expected → given ≡ None → left (suc i) ≡ expected
    passed_here expected so_far h =
        ap (λ (o : Option AlgoRefusal). first_of (o ∷ (case_faults of ins outs (values (take (suc i) cs)) (drop (suc i) cs) ++ rest))) (sym h)
        ∙ sym next_case ∙ so_far

  -- after the last case
  pub only_rest : length cs ≤ i → left i ≡ first_of rest
  only_rest h = at_drop_all (λ (ks : List Case). first_of (case_faults of ins outs (values (take i cs)) ks ++ rest)) cs i h

-- what is told of `otherwise`, which has its ports or not
pub fits_last : (b : Bool) (f : Option AlgoRefusal) → true ≡ b → first_of (cond b None f ∷ []) ≡ None
fits_last b f h = ap (λ (x : Bool). first_of (cond x None f ∷ [])) (sym h)

pub fails_last : (b : Bool) (e : AlgoRefusal) → false ≡ b → first_of (cond b None (Some e) ∷ []) ≡ Some e
fails_last b e h = ap (λ (x : Bool). first_of (cond x None (Some e) ∷ [])) (sym h)
