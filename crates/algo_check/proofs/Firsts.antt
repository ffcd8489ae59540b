-- The first fault of the lines of definitions, one definition after the other.
use Rattle.std.proofs.Common.{◌≡◌, ℕ, ◌+◌, ◌<◌, Bool, true, false, List, [], ◌∷◌, ◌++◌, length, get_or, drop, map, Option, Some, None, Err, refl, ap, ap₂, sym, subst, ◌∙◌, if◌then◌else◌}
use Rattle.std.specs.Prelude.{slice_get}
use Rattle.std.specs.List.{flat_map}
use Rattle.std.proofs.lemmas.List.{get_or-map}
use Rattle.syn_base.specs.Bytes.{Bytes}
use Rattle.text_lines.specs.declared.fault.TextError.TheVariants as error
use Rattle.text_lines.specs.Refusals.{Refused, Limit}
use Rattle.algo_rules.specs.Refusals.{AlgoError, AlgoRefusal}
use Rattle.algo_rules.specs.declared.Def.{Def}
use Rattle.algo_rules.specs.declared.AlgoCause.TheVariants.{Misplaced}
use Rattle.algo_rules.specs.Returned.{Tells}
use Rattle.algo_rules.specs.Links.{fault, first_of, Mention, may_stand, misplaced_by, definition}
use Rattle.algo_rules.specs.Placed.{Checks}
use Rattle.algo_check.specs.Placing.{place_of, places_of, misplaced_in}
use Rattle.algo_check.proofs.Fresh.{from_here}
use Rattle.algo_check.proofs.Found.{found}

-- an error that is told is what the call answered, and back
pub told : (A : Type 0) (e : AlgoError) (o : Option AlgoRefusal) → Tells e o → Checks {A = A} (Err e) o
told A e o h = h

pub tells : (A : Type 0) (e : AlgoError) (o : Option AlgoRefusal) → Checks {A = A} (Err e) o → Tells e o
tells A e o h = h

-- what is told of the first is told of all
some_first : (e : AlgoRefusal) (xs ys : List (Option AlgoRefusal)) → first_of xs ≡ Some e → first_of (xs ++ ys) ≡ Some e
some_first e [] ys h = cc
some_first e (None ∷ xs) ys h = some_first e xs ys h
some_first e (Some f ∷ xs) ys h = h

none_first : (xs ys : List (Option AlgoRefusal)) → first_of xs ≡ None → first_of (xs ++ ys) ≡ first_of ys
none_first [] ys h = refl
none_first (None ∷ xs) ys h = none_first xs ys h
none_first (Some f ∷ xs) ys h = cc

first_told : (e : AlgoError) (xs ys : List (Option AlgoRefusal)) → Tells e (first_of xs) → Tells e (first_of (xs ++ ys))
first_told (error.Refused f) xs ys h = some_first (Refused f) xs ys h
first_told (error.Limit f) xs ys h = some_first (Limit f) xs ys h
first_told error.OutOfMemory xs ys h = h

module _ (f : Def → List (Option AlgoRefusal)) (ds : List Def) (i : ℕ) (d : Def) (h : i < length ds) (is : d ≡ get_or ds i d)
    (before : first_of (flat_map f ds) ≡ first_of (flat_map f (drop i ds))) where
  here : first_of (flat_map f ds) ≡ first_of (f d ++ flat_map f (drop (i + 1) ds))
  here = before ∙ ap (λ xs. first_of (flat_map f xs)) (from_here ds i d h is)

  -- a definition with a fault ends the walk
  pub stops : (e : AlgoError) → Tells e (first_of (f d)) → Tells e (first_of (flat_map f ds))
  stops e k = subst (λ o. Tells e o) (sym here) (first_told e (f d) (flat_map f (drop (i + 1) ds)) k)

  -- one without goes on
  pub goes : first_of (f d) ≡ None → first_of (flat_map f ds) ≡ first_of (flat_map f (drop (i + 1) ds))
  goes k = here ∙ none_first (f d) (flat_map f (drop (i + 1) ds)) k

pub one_told : (e : AlgoError) (o : Option AlgoRefusal) (os : List (Option AlgoRefusal)) → Tells e o → Tells e (first_of (o ∷ os))
one_told (error.Refused f) o os h = rw h refl
one_told (error.Limit f) o os h = rw h refl
one_told error.OutOfMemory o os h = tt

-- A line of an owner, whose definition stands at the place that is given.
module _ (ds : List Def) (owner : Bytes) (ms : List Mention) (places : List ℕ) (k : ℕ) (m : Mention)
    (placed : places ≡ places_of ds ms) (h : k < length ms) (is : m ≡ get_or ms k m)
    (before : misplaced_in ds owner ms ≡ misplaced_in ds owner (drop k ms)) where
  place_is : get_or places k 0 ≡ place_of ds m
  place_is = ap (λ (ps : List ℕ). get_or ps k 0) placed ∙ get_or-map (place_of ds) ms k m 0 h ∙ ap (place_of ds) (sym is)

  same_standing : may_stand owner m (slice_get ds (get_or places k 0)) ≡ may_stand owner m (definition ds m.def)
  same_standing = ap (λ (p : ℕ). may_stand owner m (slice_get ds p)) place_is ∙ ap (may_stand owner m) (sym (found ds m.def))

  line : misplaced_in ds owner ms ≡ first_of (misplaced_by ds owner m ∷ map (misplaced_by ds owner) (drop (k + 1) ms))
  line = before ∙ ap (λ xs. misplaced_in ds owner xs) (from_here ms k m h is)

  fault_by : (b : Bool) → may_stand owner m (slice_get ds (get_or places k 0)) ≡ b → (if b then None else fault m.line (Misplaced m.def)) ≡ misplaced_by ds owner m
  fault_by b e = ap (λ (c : Bool). if c then None else fault m.line (Misplaced m.def)) (sym e ∙ same_standing)

  pub line_stops : (e : AlgoError) (n : ℕ) (w : Bytes) → false ≡ may_stand owner m (slice_get ds (get_or places k 0)) → n ≡ m.line → w
      ≡ m.def → Tells e (fault n (Misplaced w)) → Tells e (misplaced_in ds owner ms)
  line_stops e n w stands at named t =
      let here : fault n (Misplaced w) ≡ misplaced_by ds owner m = ap₂ (λ (l : ℕ) (x : Bytes). fault l (Misplaced x)) at named ∙ fault_by false (sym stands) in
      subst (λ o. Tells e o) (sym line) (one_told e _ _ (subst (λ o. Tells e o) here t))

  pub line_goes : true ≡ may_stand owner m (slice_get ds (get_or places k 0)) → misplaced_in ds owner ms ≡ misplaced_in ds owner (drop (k + 1) ms)
  line_goes stands = line ∙ ap (λ o. first_of (o ∷ map (misplaced_by ds owner) (drop (k + 1) ms))) (sym (fault_by true (sym stands)))

-- two faults, the first before the second
pub second_told : (e : AlgoError) (o p : Option AlgoRefusal) → o ≡ None → Tells e p → Tells e (first_of (o ∷ p ∷ []))
second_told e o p h k = subst (λ (x : Option AlgoRefusal). Tells e (first_of (x ∷ p ∷ []))) (sym h) (one_told e p [] k)

pub neither : (o p : Option AlgoRefusal) → o ≡ None → p ≡ None → first_of (o ∷ p ∷ []) ≡ None
neither o p h k = rw (h, k) refl
