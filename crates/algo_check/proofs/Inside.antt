-- Links of known definitions lead to definitions.
use Rattle.std.proofs.Common.{◌≡◌, ℕ, zero, suc, ◌<◌, Bool, true, false, cond, List, [], ◌∷◌, length, get_or, map, Some, None, nat_lt, refl, ap, sym, subst, arith}
use Rattle.std.specs.Prelude.{slice_get}
use Rattle.std.proofs.lemmas.List.{get_or_default}
use Rattle.std.proofs.lemmas.Bool.{ltb-true}
use Rattle.std.proofs.lemmas.List.FromFn.{length-range_with_len}
use Rattle.syn_base.specs.Bytes.{Bytes}
use Rattle.algo_rules.specs.declared.Def.{Def}
use Rattle.algo_rules.specs.ReferenceLinks.{Links, first_recursive}
use Rattle.algo_rules.specs.Answer.{AreInside}
use Rattle.algo_rules.specs.Links.{unknown, links_of}
use Rattle.algo_check.specs.Linked.{AreLinked, named}
use Rattle.algo_check.proofs.Leading.{all_lead}

pub there : {A : Type 0} (xs : List A) (i : ℕ) → i < length xs → (x : A) × (slice_get xs i ≡ Some x)
there [] i h = absurd (omega (arith, h))
there (x ∷ xs) zero h = (x, refl)
there (x ∷ xs) (suc i) h = there xs i (omega (arith, h))

pub linked_below : (ds : List Def) (ws : List Bytes) (ps : List ℕ) → AreLinked ds ws ps → (k d : ℕ) → k < length ps → get_or ps k d < length ds
linked_below ds ws [] h k d low = absurd (omega (arith, low))
linked_below ds [] (p ∷ ps) h k d low = absurd h
linked_below ds (w ∷ ws) (p ∷ ps) h zero d low = h.0.below
linked_below ds (w ∷ ws) (p ∷ ps) h (suc k) d low = linked_below ds ws ps h.1 k d (omega (arith, low))

pub as_many : {A B : Type 0} (f : A → B) (xs : List A) → length (map f xs) ≡ length xs
as_many f [] = refl
as_many f (x ∷ xs) = ap suc (as_many f xs)

pub links_count : (ds : List Def) → length (links_of ds) ≡ length ds
links_count ds = as_many _ ds

row_inside : (ds : List Def) → unknown ds ≡ None → (i : ℕ) (row : List ℕ) → i < length (links_of ds) → row ≡ get_or (links_of ds) i []
    → (k d : ℕ) → k < length row → get_or row k d < length (links_of ds)
row_inside ds none i row low is k d below =
    let at = there ds i (omega (arith, low, links_count ds)) in
    let linked : AreLinked ds (named at.0.body) row = subst (λ (ps : List ℕ). AreLinked ds (named at.0.body) ps) (sym is) (all_lead ds i at.0 none at.1) in
    omega (arith, links_count ds, linked_below ds (named at.0.body) row linked k d below)

pub links_inside : (ds : List Def) → unknown ds ≡ None → AreInside (links_of ds)
links_inside ds none i e low = row_inside ds none i (get_or (links_of ds) i e) low (get_or_default (links_of ds) i e [] low)

chosen : (a n p : ℕ) → cond (nat_lt a n) (Some a) None ≡ Some p → p < n
chosen a n p h = by (nat_lt a n) refl h
  where
    by : (b : Bool) → nat_lt a n ≡ b → cond b (Some a) None ≡ Some p → p < n
    by true e k = let same : a ≡ p = cc in let low = ltb-true a n e in omega arith
    by false e k = cc

-- the first that reaches itself is one of them
pub recursive_inside : (links : Links) (i : ℕ) → first_recursive links ≡ Some i → i < length links
recursive_inside links i h = let low = chosen _ _ i h in omega (arith, low, length-range_with_len 0 (length links))
