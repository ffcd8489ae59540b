-- What is refused first, of checks in order.
use Rattle.std.proofs.Common.{◌≡◌, List, [], ◌∷◌, ◌++◌, Option, Some, None, Err, refl, ap, sym, subst}
use Rattle.text_lines.specs.declared.fault.TextError.TheVariants as error
use Rattle.text_lines.specs.Refusals.{Refused, Limit}
use Rattle.algo_rules.specs.Refusals.{AlgoError, AlgoRefusal}
use Rattle.algo_rules.specs.Returned.{Tells}
use Rattle.algo_rules.specs.Links.{first_of}
use Rattle.algo_rules.specs.Placed.{Checks}

-- an error that is told is what a call answered, and back
pub told : (A : Type 0) (e : AlgoError) (o : Option AlgoRefusal) → Tells e o → Checks {A = A} (Err e) o
told A e o h = h

pub tells : (A : Type 0) (e : AlgoError) (o : Option AlgoRefusal) → Checks {A = A} (Err e) o → Tells e o
tells A e o h = h

some_first : (e : AlgoRefusal) (xs ys : List (Option AlgoRefusal)) → first_of xs ≡ Some e → first_of (xs ++ ys) ≡ Some e
some_first e [] ys h = cc
some_first e (None ∷ xs) ys h = some_first e xs ys h
some_first e (Some f ∷ xs) ys h = h

pub none_first : (xs ys : List (Option AlgoRefusal)) → first_of xs ≡ None → first_of (xs ++ ys) ≡ first_of ys
none_first [] ys h = refl
none_first (None ∷ xs) ys h = none_first xs ys h
none_first (Some f ∷ xs) ys h = cc

-- what is told of the front is told of all
pub front_told : (e : AlgoError) (xs ys : List (Option AlgoRefusal)) → Tells e (first_of xs) → Tells e (first_of (xs ++ ys))
front_told (error.Refused f) xs ys h = some_first (Refused f) xs ys h
front_told (error.Limit f) xs ys h = some_first (Limit f) xs ys h
front_told error.OutOfMemory xs ys h = h

-- and of the back, where the front has none
pub back_told : (e : AlgoError) (xs ys : List (Option AlgoRefusal)) → first_of xs ≡ None → Tells e (first_of ys) → Tells e (first_of (xs ++ ys))
back_told e xs ys h k = subst (λ (o : Option AlgoRefusal). Tells e o) (sym (none_first xs ys h)) k

pub one_told : (e : AlgoError) (o : Option AlgoRefusal) (os : List (Option AlgoRefusal)) → Tells e o → Tells e (first_of (o ∷ os))
one_told (error.Refused f) o os h = rw h refl
one_told (error.Limit f) o os h = rw h refl
one_told error.OutOfMemory o os h = tt

pub next_told : (e : AlgoError) (o : Option AlgoRefusal) (os : List (Option AlgoRefusal)) → o ≡ None → Tells e (first_of os) → Tells e (first_of (o ∷ os))
next_told e o os h k = subst (λ (p : Option AlgoRefusal). Tells e (first_of (p ∷ os))) (sym h) k

pub one_passes : (o : Option AlgoRefusal) (os : List (Option AlgoRefusal)) → o ≡ None → first_of (o ∷ os) ≡ first_of os
one_passes o os h = ap (λ (p : Option AlgoRefusal). first_of (p ∷ os)) h

pub both_none : (o : Option AlgoRefusal) (os : List (Option AlgoRefusal)) → first_of (o ∷ os) ≡ None → (o ≡ None) × (first_of os ≡ None)
both_none None os h = (refl, h)
both_none (Some e) os h = cc
