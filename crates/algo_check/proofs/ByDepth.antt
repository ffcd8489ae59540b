-- The faults of the bodies of one depth, one after the other.
use Rattle.std.proofs.Common.{◌≡◌, ℕ, zero, suc, ◌+◌, ◌-◌, ◌<◌, Bool, true, false, ◌==◌, List, [], ◌∷◌, ◌++◌, length, get_or, drop, Option, Some, None, if◌then◌else◌, refl, ap, sym, subst, ◌∙◌, arith}
use Rattle.std.specs.Prelude.{slice_get}
use Rattle.std.specs.List.{flat_map, range_with_len}
use Rattle.std.proofs.lemmas.Bool.{eqb-false, ne_eqb}
use Rattle.std.proofs.lemmas.List.FromFn.{get_or-map-range_with_len}
use Rattle.algo_rules.specs.Refusals.{AlgoError, AlgoRefusal}
use Rattle.algo_rules.specs.declared.Def.{Def}
use Rattle.algo_rules.specs.Returned.{Tells}
use Rattle.algo_rules.specs.ReferenceLinks.{depths}
use Rattle.algo_rules.specs.Links.{first_of, links_of}
use Rattle.algo_rules.specs.Resolved.{body_fault, faults_at}
use Rattle.algo_check.proofs.Fresh.{from_here}
use Rattle.algo_check.proofs.Inside.{links_count}
use Rattle.algo_check.proofs.InOrder.{both_none, front_told, none_first, one_told, one_passes}
use Rattle.algo_check.proofs.Stands.{deep}

same_number : (a b : ℕ) → a ≡ b → (a == b) ≡ true
same_number a b h = by (a == b) refl
  where
    by : (c : Bool) → (a == b) ≡ c → c ≡ true
    by true e = refl
    by false e = absurd (eqb-false a b e h)

module _ (ds : List Def) where
  -- the depth of a definition, as the list has it
  pub deep_at : (i : ℕ) → i < length ds → get_or (depths (links_of ds)) i 0 ≡ deep ds i
  deep_at i low = get_or-map-range_with_len (deep ds) 0 (length (links_of ds)) i i 0 (omega (arith, low, links_count ds)) (omega arith)

  module _ (n : ℕ) where
    abbrev pub left : List Def → List ℕ → Option AlgoRefusal
    left rest ns = first_of (faults_at ds n rest ns)

    -- the definition that is next, where it has this depth or not
    module _ (rest : List Def) (ns : List ℕ) (i m : ℕ) (d : Def) (low : i < length rest) (has : i < length ns) (at : d ≡ get_or rest i d) (is : m ≡ get_or ns i m) where
      next : left (drop i rest) (drop i ns)
          ≡ first_of (if m == n then body_fault ds d.line d.body
          ∷ faults_at ds n (drop (i + 1) rest) (drop (i + 1) ns) else faults_at ds n (drop (i + 1) rest) (drop (i + 1) ns))
      next = ap (λ (xs : List Def). left xs (drop i ns)) (from_here rest i d low at) ∙ ap (λ (xs : List ℕ). left (d ∷ drop (i + 1) rest) xs) (from_here ns i m has is)

      by : (b : Bool) → (m == n) ≡ b → left (drop i rest) (drop i ns)
          ≡ first_of (if b then body_fault ds d.line d.body
          ∷ faults_at ds n (drop (i + 1) rest) (drop (i + 1) ns) else faults_at ds n (drop (i + 1) rest) (drop (i + 1) ns))
      by b e = next ∙ ap (λ (c : Bool). first_of
          (if c then body_fault ds d.line d.body
          ∷ faults_at ds n (drop (i + 1) rest) (drop (i + 1) ns) else faults_at ds n (drop (i + 1) rest) (drop (i + 1) ns))) e

      pub refused : (e : AlgoError) (all : Option AlgoRefusal) → m ≡ n → all ≡ left (drop i rest) (drop i ns) → Tells e (body_fault ds d.line d.body) → Tells e all
      refused e all same so_far told = subst (λ (o : Option AlgoRefusal). Tells e o) (sym (so_far ∙ by true (same_number m n same))) (one_told e _ _ told)

      pub passed : (all : Option AlgoRefusal) → m ≡ n → all ≡ left (drop i rest) (drop i ns) → body_fault ds d.line d.body ≡ None → all ≡ left (drop (i + 1) rest) (drop (i + 1) ns)
      passed all same so_far none = so_far ∙ by true (same_number m n same) ∙ one_passes _ _ none

      pub other : (all : Option AlgoRefusal) → (m ≡ n → ⊥) → all ≡ left (drop i rest) (drop i ns) → all ≡ left (drop (i + 1) rest) (drop (i + 1) ns)
      other all differs so_far = so_far ∙ by false (ne_eqb m n differs)

    -- where there is no fault of this depth, a definition of this depth has none
    at_first : (d : Def) (rest : List Def) (m : ℕ) (ns : List ℕ) (b : Bool) → (m == n) ≡ b → m ≡ n
        → first_of (if b then body_fault ds d.line d.body ∷ faults_at ds n rest ns else faults_at ds n rest ns) ≡ None → body_fault ds d.line d.body ≡ None
    at_first d rest m ns true e same h = (both_none (body_fault ds d.line d.body) (faults_at ds n rest ns) h).0
    at_first d rest m ns false e same h = absurd (eqb-false m n e same)

    later : (d : Def) (rest : List Def) (ns : List ℕ) (b : Bool) → first_of (if b then body_fault ds d.line d.body ∷ faults_at ds n rest ns else faults_at ds n rest ns) ≡ None → left rest ns ≡ None
    later d rest ns true h = (both_none (body_fault ds d.line d.body) (faults_at ds n rest ns) h).1
    later d rest ns false h = h

    pub none_at : (rest : List Def) (ns : List ℕ) (i : ℕ) (d : Def) → left rest ns ≡ None → slice_get rest i ≡ Some d → i < length ns → get_or ns i 0 ≡ n → body_fault ds d.line d.body ≡ None
    none_at [] ns i d h at low is = cc
    none_at (e ∷ rest) [] i d h at low is = absurd (omega (arith, low))
    none_at (e ∷ rest) (m ∷ ns) zero d h at low is =
        let same : e ≡ d = cc in
        subst (λ (x : Def). body_fault ds x.line x.body ≡ None) same (at_first e rest m ns (m == n) refl is h)
    none_at (e ∷ rest) (m ∷ ns) (suc i) d h at low is = none_at rest ns i d (later e rest ns (m == n) h) at (omega (arith, low)) is

-- the faults of depths, one after the other
pub next_depth : (f : ℕ → List (Option AlgoRefusal)) (n : ℕ) → n < 9 → flat_map f (range_with_len n (9 - n)) ≡ f n ++ flat_map f (range_with_len (n + 1) (9 - (n + 1)))
next_depth f n low = let more : 9 - n ≡ suc (9 - (n + 1)) = omega (arith, low) in ap (λ (k : ℕ). flat_map f (range_with_len n k)) more

module _ (f : ℕ → List (Option AlgoRefusal)) (n : ℕ) (low : n < 9) (all : Option AlgoRefusal) (so_far : all ≡ first_of (flat_map f (range_with_len n (9 - n)))) where
  here : all ≡ first_of (f n ++ flat_map f (range_with_len (n + 1) (9 - (n + 1))))
  here = so_far ∙ ap first_of (next_depth f n low)

  pub depth_told : (e : AlgoError) → Tells e (first_of (f n)) → Tells e all
  depth_told e told = subst (λ (o : Option AlgoRefusal). Tells e o) (sym here) (front_told e (f n) (flat_map f (range_with_len (n + 1) (9 - (n + 1)))) told)

  pub depth_passed : first_of (f n) ≡ None → all ≡ first_of (flat_map f (range_with_len (n + 1) (9 - (n + 1))))
  depth_passed none = here ∙ none_first (f n) (flat_map f (range_with_len (n + 1) (9 - (n + 1)))) none
