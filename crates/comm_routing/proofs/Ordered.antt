-- Ascending numbers, with one more and with one less.
use Rattle.std.proofs.Common.{◌≡◌, ◌≢◌, ℕ, zero, suc, ◌+◌, ◌<◌, ◌≤◌, Bool, true, false, cond, nat_eq, List, [], ◌∷◌, ◌++◌, take, drop, length, min, max, refl, sym, ap, subst, arith, ◌∙◌}
use Rattle.std.specs.Prelude.{All, nat_lt, slice_index_or, slice_set}
use Rattle.std.specs.Bool.{beq}
use Rattle.std.specs.List.{list_any}
use Rattle.std.proofs.lemmas.Bool.{false≢true, true≢false, ltb-true, ltb-false, lt-ltb, or_left, or_right, eq-eqb, ne_eqb}
use Rattle.std.proofs.lemmas.List.{append_assoc, length-set}
use Rattle.comm_routing.specs.Ascending.{with_place, without_place}
use Rattle.comm_routing.specs.Candidates.{IsListed, places_from, sought_in}
use Rattle.comm_routing.specs.declared.candidates.Ready.{Ready}

-- One place of a list that is written.
take_set : (xs : List ℕ) (i x : ℕ) → i < length xs → take (suc i) (slice_set xs i x) ≡ take i xs ++ x ∷ []
take_set [] i x l = absurd (omega arith)
take_set (y ∷ xs) zero x l = refl
take_set (y ∷ xs) (suc i) x l = ap (λ (r : List ℕ). y ∷ r) (take_set xs i x (omega arith))

set_past : (xs : List ℕ) (i p n x : ℕ) → i < p → drop p (take n (slice_set xs i x)) ≡ drop p (take n xs)
set_past [] i p n x l = refl
set_past (y ∷ xs) i zero n x l = absurd (omega arith)
set_past (y ∷ xs) zero (suc p) zero x l = refl
set_past (y ∷ xs) zero (suc p) (suc n) x l = refl
set_past (y ∷ xs) (suc i) (suc p) zero x l = refl
set_past (y ∷ xs) (suc i) (suc p) (suc n) x l = set_past xs i p n x (omega arith)

next_of : (xs : List ℕ) (p n : ℕ) → p < n → p < length xs → drop p (take n xs) ≡ slice_index_or xs p 0 ∷ drop (suc p) (take n xs)
next_of [] p n l k = absurd (omega arith)
next_of (y ∷ xs) p zero l k = absurd (omega arith)
next_of (y ∷ xs) zero (suc n) l k = refl
next_of (y ∷ xs) (suc p) (suc n) l k = next_of xs p n (omega arith) (omega arith)

-- one place further, the lesser number stays and the greater one moves on
pub moved_on : (xs : List ℕ) (p q n v x less more : ℕ) → p < n → n < length xs → q ≡ suc p → x ≡ slice_index_or xs p 0 → less ≡ min x v → more ≡ max x v
    → take q (slice_set xs p less) ++ with_place more (drop q (take n (slice_set xs p less))) ≡ take p xs ++ with_place v (drop p (take n xs))
moved_on xs p q n v x less more l k next is le mo =
    (λ i. take (next i) (slice_set xs p less) ++ with_place more (drop (next i) (take n (slice_set xs p less))))
    ∙ (λ i. take_set xs p less (omega arith) i ++ with_place more (set_past xs p (suc p) n less (omega arith) i))
    ∙ append_assoc (take p xs) (less ∷ []) (with_place more (drop (suc p) (take n xs)))
    ∙ ap (λ (r : List ℕ). take p xs ++ r) (by (nat_lt v x) refl)
    ∙ ap (λ (r : List ℕ). take p xs ++ with_place v r) ((λ i. is i ∷ drop (suc p) (take n xs)) ∙ sym (next_of xs p n l (omega arith)))
  where
    by : (b : Bool) → nat_lt v x ≡ b → less ∷ with_place more (drop (suc p) (take n xs)) ≡ cond b (v ∷ with_place x (drop (suc p) (take n xs))) (x ∷ with_place v (drop (suc p) (take n xs)))
    by true h =
        let low = ltb-true v x h in
        let one : less ≡ v = omega arith in
        let two : more ≡ x = omega arith in
        λ i. one i ∷ with_place (two i) (drop (suc p) (take n xs))
    by false h =
        let low = ltb-false v x h in
        let one : less ≡ x = omega arith in
        let two : more ≡ v = omega arith in
        λ i. one i ∷ with_place (two i) (drop (suc p) (take n xs))

-- the last place takes what is left
pub put_last : (xs : List ℕ) (n v m : ℕ) → n < length xs → m ≡ suc n → take m (slice_set xs n v) ≡ take n xs ++ with_place v (drop n (take n xs))
put_last xs n v m l next =
    ap (λ (k : ℕ). take k (slice_set xs n v)) next ∙ take_set xs n v l ∙ ap (λ (r : List ℕ). take n xs ++ with_place v r) (sym (none xs n))
  where
    none : (ys : List ℕ) (k : ℕ) → drop k (take k ys) ≡ []
    none [] zero = refl
    none [] (suc k) = refl
    none (y ∷ ys) zero = refl
    none (y ∷ ys) (suc k) = none ys k

-- one number further: another one stays
pub other_left : (xs : List ℕ) (i j p q n v x : ℕ) → i ≤ p → p < n → n ≤ length xs → j ≡ suc i → q ≡ suc p → x ≡ slice_index_or xs p 0 → x ≢ v
    → take j (slice_set xs i x) ++ without_place v (drop q (take n (slice_set xs i x))) ≡ take i xs ++ without_place v (drop p (take n xs))
other_left xs i j p q n v x l k m one next is apart =
    (λ a. take (one a) (slice_set xs i x) ++ without_place v (drop (next a) (take n (slice_set xs i x))))
    ∙ (λ a. take_set xs i x (omega arith) a ++ without_place v (set_past xs i (suc p) n x (omega arith) a))
    ∙ append_assoc (take i xs) (x ∷ []) (without_place v (drop (suc p) (take n xs)))
    ∙ ap (λ (b : Bool). take i xs ++ cond b (without_place v (drop (suc p) (take n xs))) (x ∷ without_place v (drop (suc p) (take n xs)))) (sym (ne_eqb x v apart))
    ∙ ap (λ (r : List ℕ). take i xs ++ without_place v r) ((λ a. is a ∷ drop (suc p) (take n xs)) ∙ sym (next_of xs p n k (omega arith)))

pub this_gone : (xs : List ℕ) (i p q n v x : ℕ) → p < n → n ≤ length xs → q ≡ suc p → x ≡ slice_index_or xs p 0 → x ≡ v
    → take i xs ++ without_place v (drop q (take n xs)) ≡ take i xs ++ without_place v (drop p (take n xs))
this_gone xs i p q n v x k m next is same =
    (λ a. take i xs ++ without_place v (drop (next a) (take n xs)))
    ∙ ap (λ (b : Bool). take i xs ++ cond b (without_place v (drop (suc p) (take n xs))) (x ∷ without_place v (drop (suc p) (take n xs)))) (sym (eq-eqb x v same))
    ∙ ap (λ (r : List ℕ). take i xs ++ without_place v r) ((λ a. is a ∷ drop (suc p) (take n xs)) ∙ sym (next_of xs p n k (omega arith)))

-- Places that are set.
placed_before : (v a : ℕ) (flags : List Bool) → v < a → with_place v (places_from a flags) ≡ v ∷ places_from a flags
placed_before v a [] l = refl
placed_before v a (true ∷ flags) l =
    ap (λ (b : Bool). cond b (v ∷ with_place a (places_from (a + 1) flags)) (a ∷ with_place v (places_from (a + 1) flags))) (lt-ltb v a l)
    ∙ ap (λ (r : List ℕ). v ∷ r) (placed_before a (a + 1) flags (omega arith))
placed_before v a (false ∷ flags) l = placed_before v (a + 1) flags (omega arith)

from_set : (a i : ℕ) (flags : List Bool) → i < length flags → slice_index_or flags i false ≡ false → with_place (a + i) (places_from a flags) ≡ places_from a (slice_set flags i true)
from_set a i [] l h = absurd (omega arith)
from_set a zero (true ∷ flags) l h = absurd (true≢false h)
from_set a zero (false ∷ flags) l h =
    (let e : a + 0 ≡ a = omega arith in ap (λ (v : ℕ). with_place v (places_from (a + 1) flags)) e) ∙ placed_before a (a + 1) flags (omega arith)
from_set a (suc i) (true ∷ flags) l h =
    let e : a + suc i ≡ a + 1 + i = omega arith in
    ap (λ (b : Bool). cond b ((a + suc i) ∷ with_place a (places_from (a + 1) flags)) (a ∷ with_place (a + suc i) (places_from (a + 1) flags))) (not_less (a + suc i) a (omega arith))
    ∙ (λ j. a ∷ with_place (e j) (places_from (a + 1) flags))
    ∙ ap (λ (r : List ℕ). a ∷ r) (from_set (a + 1) i flags (omega arith) h)
  where
    not_less : (x y : ℕ) → y ≤ x → nat_lt x y ≡ false
    not_less x y m = by (nat_lt x y) refl
      where
        by : (b : Bool) → nat_lt x y ≡ b → b ≡ false
        by true k = (let z = ltb-true x y k in absurd (omega arith))
        by false k = refl
from_set a (suc i) (false ∷ flags) l h =
    let e : a + suc i ≡ a + 1 + i = omega arith in
    ap (λ (v : ℕ). with_place v (places_from (a + 1) flags)) e ∙ from_set (a + 1) i flags (omega arith) h

pub set_places : (flags : List Bool) (i : ℕ) → i < length flags → slice_index_or flags i false ≡ false → with_place i (places_from 0 flags) ≡ places_from 0 (slice_set flags i true)
set_places flags i l h = (let e : i ≡ 0 + i = omega arith in ap (λ (v : ℕ). with_place v (places_from 0 flags)) e) ∙ from_set 0 i flags l h

without_later : (v a : ℕ) (flags : List Bool) → v < a → without_place v (places_from a flags) ≡ places_from a flags
without_later v a [] l = refl
without_later v a (true ∷ flags) l =
    ap (λ (b : Bool). cond b (without_place v (places_from (a + 1) flags)) (a ∷ without_place v (places_from (a + 1) flags))) (ne_eqb a v (λ e. omega arith))
    ∙ ap (λ (r : List ℕ). a ∷ r) (without_later v (a + 1) flags (omega arith))
without_later v a (false ∷ flags) l = without_later v (a + 1) flags (omega arith)

from_cleared : (a i : ℕ) (flags : List Bool) → i < length flags → without_place (a + i) (places_from a flags) ≡ places_from a (slice_set flags i false)
from_cleared a i [] l = absurd (omega arith)
from_cleared a zero (true ∷ flags) l =
    let e : a + 0 ≡ a = omega arith in
    ap (λ (b : Bool). cond b (without_place (a + 0) (places_from (a + 1) flags)) (a ∷ without_place (a + 0) (places_from (a + 1) flags))) (eq-eqb a (a + 0) (sym e))
    ∙ ap (λ (v : ℕ). without_place v (places_from (a + 1) flags)) e ∙ without_later a (a + 1) flags (omega arith)
from_cleared a zero (false ∷ flags) l =
    (let e : a + 0 ≡ a = omega arith in ap (λ (v : ℕ). without_place v (places_from (a + 1) flags)) e) ∙ without_later a (a + 1) flags (omega arith)
from_cleared a (suc i) (true ∷ flags) l =
    let e : a + suc i ≡ a + 1 + i = omega arith in
    ap (λ (b : Bool). cond b (without_place (a + suc i) (places_from (a + 1) flags)) (a ∷ without_place (a + suc i) (places_from (a + 1) flags))) (ne_eqb a (a + suc i) (λ e. omega arith))
    ∙ (λ j. a ∷ without_place (e j) (places_from (a + 1) flags))
    ∙ ap (λ (r : List ℕ). a ∷ r) (from_cleared (a + 1) i flags (omega arith))
from_cleared a (suc i) (false ∷ flags) l =
    let e : a + suc i ≡ a + 1 + i = omega arith in
    ap (λ (v : ℕ). without_place v (places_from (a + 1) flags)) e ∙ from_cleared (a + 1) i flags (omega arith)

pub clear_places : (flags : List Bool) (i : ℕ) → i < length flags → without_place i (places_from 0 flags) ≡ places_from 0 (slice_set flags i false)
clear_places flags i l = (let e : i ≡ 0 + i = omega arith in ap (λ (v : ℕ). without_place v (places_from 0 flags)) e) ∙ from_cleared 0 i flags l

-- there are no more than flags, and fewer where one is not set
few_places : (a : ℕ) (flags : List Bool) → length (places_from a flags) ≤ length flags
few_places a [] = omega arith
few_places a (true ∷ flags) = let l = few_places (a + 1) flags in omega arith
few_places a (false ∷ flags) = let l = few_places (a + 1) flags in omega arith

pub fewer_places : (a i : ℕ) (flags : List Bool) → i < length flags → slice_index_or flags i false ≡ false → length (places_from a flags) < length flags
fewer_places a i [] l h = absurd (omega arith)
fewer_places a zero (true ∷ flags) l h = absurd (true≢false h)
fewer_places a zero (false ∷ flags) l h = let m = few_places (a + 1) flags in omega arith
fewer_places a (suc i) (true ∷ flags) l h = let m = fewer_places (a + 1) i flags (omega arith) h in omega arith
fewer_places a (suc i) (false ∷ flags) l h = let m = fewer_places (a + 1) i flags (omega arith) h in omega arith

-- what is set is among the places
from_there : (a i : ℕ) (flags : List Bool) → slice_index_or flags i false ≡ true → list_any (nat_eq (a + i)) (places_from a flags) ≡ true
from_there a i [] h = absurd (false≢true h)
from_there a zero (true ∷ flags) h = or_left (nat_eq (a + 0) a) (list_any (nat_eq (a + 0)) (places_from (a + 1) flags)) (eq-eqb (a + 0) a (omega arith))
from_there a zero (false ∷ flags) h = absurd (false≢true h)
from_there a (suc i) (true ∷ flags) h =
    let e : a + 1 + i ≡ a + suc i = omega arith in
    or_right (nat_eq (a + suc i) a) (list_any (nat_eq (a + suc i)) (places_from (a + 1) flags))
    (subst (λ (v : ℕ). list_any (nat_eq v) (places_from (a + 1) flags) ≡ true) e (from_there (a + 1) i flags h))
from_there a (suc i) (false ∷ flags) h =
    let e : a + 1 + i ≡ a + suc i = omega arith in
    subst (λ (v : ℕ). list_any (nat_eq v) (places_from (a + 1) flags) ≡ true) e (from_there (a + 1) i flags h)

pub set_there : (flags : List Bool) (i : ℕ) → slice_index_or flags i false ≡ true → list_any (nat_eq i) (places_from 0 flags) ≡ true
set_there flags i h = let e : 0 + i ≡ i = omega arith in subst (λ (v : ℕ). list_any (nat_eq v) (places_from 0 flags) ≡ true) e (from_there 0 i flags h)

places_low : (a : ℕ) (flags : List Bool) (k d : ℕ) → k < length (places_from a flags) → slice_index_or (places_from a flags) k d < a + length flags
places_low a [] k d l = absurd (omega arith)
places_low a (true ∷ flags) zero d l = omega arith
places_low a (true ∷ flags) (suc k) d l = let m = places_low (a + 1) flags k d (omega arith) in omega arith
places_low a (false ∷ flags) k d l = let m = places_low (a + 1) flags k d l in omega arith

pub places_below : (flags : List Bool) → All (λ v. v < length flags) (places_from 0 flags)
places_below flags k d l = let m = places_low 0 flags k d l in omega arith

length-first : (xs : List ℕ) (n : ℕ) → n ≤ length xs → length (take n xs) ≡ n
length-first xs zero l = refl
length-first [] (suc n) l = absurd (omega arith)
length-first (x ∷ xs) (suc n) l = ap suc (length-first xs n (omega arith))

-- where one is not set, there is room for one more
pub room : (flags : List Bool) (list : List ℕ) (count i : ℕ) → take count list ≡ places_from 0 flags → count ≤ length list → length flags
    ≡ length list → i < length flags → slice_index_or flags i false ≡ false → count < length list
room flags list count i same within size l h =
    let e = ap length same in
    let f = length-first list count within in
    let m = fewer_places 0 i flags l h in
    omega arith

-- those whose arrivals are forgotten are operations
pub sought_below : (keeps : Bool) (dependents ops : List ℕ) (r : Ready) (n : ℕ) → IsListed n r → All (λ v. v < n) dependents → ops ≡ sought_in keeps dependents r → All (λ v. v < n) ops
sought_below true dependents ops r n listed low e = subst (λ (xs : List ℕ). All (λ v. v < n) xs) (sym e) low
sought_below false dependents ops r n listed low e =
    subst (λ (k : ℕ). All (λ v. v < k) ops) listed.flags (subst (λ (xs : List ℕ). All (λ v. v < length r.flags.items) xs) (sym (e ∙ listed.ready)) (places_below r.flags.items))

-- with one more that was not set
pub listed_with : (n op : ℕ) (old new : Ready) → op < n → IsListed n old → slice_index_or old.flags.items op false ≡ false → new.flags.items ≡ slice_set old.flags.items op true
    → length new.list.items ≡ length old.list.items → new.count ≡ old.count + 1 → take (old.count + 1) new.list.items ≡ with_place op (take old.count old.list.items) → IsListed n new
listed_with n op old new l listed unset flags list count ready =
    let a = listed.flags in
    let b = listed.list in
    let c = listed.count in
    let free = room old.flags.items old.list.items old.count op listed.ready (omega arith) (omega arith) (omega arith) unset in
    record {
      flags = ap length flags ∙ length-set old.flags.items op true ∙ a;
      list = list ∙ b;
      count = omega arith;
      ready = ap (λ (k : ℕ). take k new.list.items) count ∙ ready ∙ ap (with_place op) listed.ready ∙ set_places old.flags.items op (omega arith) unset ∙ ap (places_from 0) (sym flags);
    }

-- without one
pub listed_without : (n op : ℕ) (old new : Ready) → op < n → IsListed n old → new.flags.items ≡ slice_set old.flags.items op false
    → length new.list.items ≡ length old.list.items → new.count ≤ old.count → take new.count new.list.items ≡ without_place op (take old.count old.list.items) → IsListed n new
listed_without n op old new l listed flags list count ready =
    let a = listed.flags in
    let b = listed.list in
    let c = listed.count in
    record {
      flags = ap length flags ∙ length-set old.flags.items op false ∙ a;
      list = list ∙ b;
      count = omega arith;
      ready = ready ∙ ap (without_place op) listed.ready ∙ clear_places old.flags.items op (omega arith) ∙ ap (places_from 0) (sym flags);
    }

-- what differs from a mark that is set is not set
pub unlike : (r f : Bool) → beq r f ≡ false → r ≡ true → f ≡ false
unlike true true h e = absurd (true≢false h)
unlike true false h e = refl
unlike false f h e = absurd (false≢true e)

pub at_flag : (flags : List Bool) (i : ℕ) (d e : Bool) → i < length flags → slice_index_or flags i d ≡ slice_index_or flags i e
at_flag [] i d e l = absurd (omega arith)
at_flag (x ∷ flags) zero d e l = refl
at_flag (x ∷ flags) (suc i) d e l = at_flag flags i d e (omega arith)
