-- Each definition of a text without a refusal has passed its own checks.
use Rattle.std.proofs.Common.{◌≡◌, ℕ, zero, suc, ◌+◌, ◌<◌, ◌≤◌, Bool, true, false, not, cond, List, [], ◌∷◌, length, get_or, Option, Some, None, inl, inr, subst, arith, if◌then◌else◌}
use Rattle.std.specs.Prelude.{◌==◌}
use Rattle.std.specs.List.{range_with_len}
use Rattle.std.specs.Str.{bytes_eq}
use Rattle.std.proofs.lemmas.Bool.{cases_lt}
use Rattle.std.proofs.lemmas.List.{length-map}
use Rattle.std.proofs.lemmas.List.FromFn.{length-map-range_with_len}
use Rattle.syn_base.specs.Bytes.{Bytes}
use Rattle.algo_rules.specs.Refusals.{AlgoRefusal}
use Rattle.algo_rules.specs.declared.Def.{Def}
use Rattle.algo_rules.specs.ReferenceLinks.{depth, depths}
use Rattle.algo_rules.specs.Links.{first_of, definition, unknown, recursive, too_deep, links_of}
use Rattle.algo_rules.specs.Resolved.{body_fault, faults_at, bodies_fault}
use Rattle.algo_laws.proofs.Firsts.{Each, none_both, none_flat}
use Rattle.algo_laws.specs.Depths.{place_of, rank}
use Rattle.algo_laws.proofs.Ranks.{rank_at, place_below, positive, not_deep}

each_range : (P : ℕ → Type 0) (n a k : ℕ) → Each P (range_with_len a n) → a ≤ k → k < a + n → P k
each_range P zero a k h le lt = absurd (omega arith)
each_range P (suc n) a k h le lt = elim (cases_lt a k) [
  | inl less ↦ each_range P n (a + 1) k h.1 (omega arith) (omega arith)
  | inr more ↦ (let same : a ≡ k = omega arith in subst P same h.0)
]

pub same_number : (n m : ℕ) → n ≡ m → (n == m) ≡ true
same_number n m e = grind arith

rest_none : (b : Bool) (o : Option AlgoRefusal) (os : List (Option AlgoRefusal)) → first_of (if b then o ∷ os else os) ≡ None → first_of os ≡ None
rest_none true o os h = (none_both o os h).1
rest_none false o os h = h

here_none : (b : Bool) (o : Option AlgoRefusal) (os : List (Option AlgoRefusal)) → b ≡ true → first_of (if b then o ∷ os else os) ≡ None → o ≡ None
here_none true o os e h = (none_both o os h).0
here_none false o os e h = cc

passed_at : (ds : List Def) (n : ℕ) (rest : List Def) (ns : List ℕ) (w : Bytes) (d : Def) → first_of (faults_at ds n rest ns) ≡ None → definition rest w ≡ Some d
    → get_or ns (place_of rest w) 0 ≡ n → place_of rest w < length ns → body_fault ds d.line d.body ≡ None
passed_at ds n [] ns w d h e at lt = cc
passed_at ds n (x ∷ rest) [] w d h e at lt = absurd (omega arith)
passed_at ds n (x ∷ rest) (m ∷ ns) w d h e at lt =
    by (λ k i j. passed_at ds n rest ns w d (rest_none (m == n) (body_fault ds x.line x.body) (faults_at ds n rest ns) h) k i j) (bytes_eq w x.name) e at lt
  where
    by : (definition rest w ≡ Some d → get_or ns (place_of rest w) 0 ≡ n → place_of rest w < length ns → body_fault ds d.line d.body ≡ None)
        → (b : Bool) → (if b then Some x else definition rest w) ≡ Some d → get_or (m ∷ ns) (cond (not b) (1 + place_of rest w) 0) 0 ≡ n → cond (not b) (1 + place_of rest w) 0 < length (m ∷ ns)
        → body_fault ds d.line d.body ≡ None
    by later true k i j =
        let same : x ≡ d = cc in
        subst (λ (y : Def). body_fault ds y.line y.body ≡ None) same (here_none (m == n) (body_fault ds x.line x.body) (faults_at ds n rest ns) (same_number m n i) h)
    by later false k i j =
        let next : 1 + place_of rest w ≡ suc (place_of rest w) = omega arith in
        later k (subst (λ (p : ℕ). get_or (m ∷ ns) p 0 ≡ n) next i) (omega arith)

-- The checks of a definition have no fault.
pub all_passed : (ds : List Def) → unknown ds ≡ None → recursive ds ≡ None → too_deep ds ≡ None → bodies_fault ds ≡ None
    → (w : Bytes) (d : Def) → definition ds w ≡ Some d → body_fault ds d.line d.body ≡ None
all_passed ds h k deep bodies w d e =
    let some = positive ds h k w d e in
    let most = not_deep ds deep w d e in
    let at = each_range (λ n. first_of (faults_at ds n ds (depths (links_of ds))) ≡ None) 8 1 (rank ds w)
    (none_flat (λ n. faults_at ds n ds (depths (links_of ds))) (range_with_len 1 8) bodies) (omega arith) (omega arith) in
    let n : length (links_of ds) ≡ length ds = length-map ds _ in
    let m : length (depths (links_of ds)) ≡ length (links_of ds) = length-map-range_with_len (depth (links_of ds)) 0 (length (links_of ds)) in
    passed_at ds (rank ds w) ds (depths (links_of ds)) w d at e (rank_at ds w d e) (omega (arith, n, m, place_below ds w d e))
