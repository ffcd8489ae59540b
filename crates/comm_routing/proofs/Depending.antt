-- The lists of dependents.
use Rattle.std.proofs.Common.{◌≡◌, ℕ, zero, suc, ◌+◌, ◌<◌, ◌≤◌, Bool, true, false, cond, ◌||◌, nat_eq, List, [], ◌∷◌, ◌++◌, map, length, drop, get_or, refl, sym, ap, subst, arith, ◌∙◌}
use Rattle.std.specs.Prelude.{All, nat_lt, slice_get, slice_index_or}
use Rattle.std.specs.List.{list_all, list_any}
use Rattle.std.specs.Cmp.Derive.{both_true}
use Rattle.std.proofs.lemmas.Bool.{false≢true, and_parts, or_left, or_right, eq-eqb, lt-ltb, ltb-true}
use Rattle.std.proofs.lemmas.List.{append_assoc, drop_more}
use Rattle.std.proofs.lemmas.List.Folds.{list_all-append, list_any-append}
use Rattle.std.specs.Global.{Vec}
use Rattle.schedule.specs.Graph.{with_vertex}
use Rattle.schedule.specs.declared.Guard.{Guard}
use Rattle.schedule.specs.declared.Source.{Source}
use Rattle.schedule.specs.declared.Vertex.{Vertex}
use Rattle.schedule.specs.FlatOrder.{depends_on, get_half}
use Rattle.comm_routing.specs.Dependents.{repeated, dependents_from, list_at}
use Rattle.comm_routing.proofs.Appending.{appended}

pub repeated-append : (s u : ℕ) (xs ys : List ℕ) → repeated s u (xs ++ ys) ≡ repeated s u xs ++ repeated s u ys
repeated-append s u [] ys = refl
repeated-append s u (w ∷ ws) ys = by (nat_eq u w) (repeated-append s u ws ys)
  where
    by : (b : Bool) → repeated s u (ws ++ ys) ≡ repeated s u ws ++ repeated s u ys
        → cond b (s ∷ repeated s u (ws ++ ys)) (repeated s u (ws ++ ys)) ≡ cond b (s ∷ repeated s u ws) (repeated s u ws) ++ repeated s u ys
    by true e = ap (λ (l : List ℕ). s ∷ l) e
    by false e = e

pub repeated_by_parts : (s u : ℕ) (x : Vertex)
    → repeated s u (depends_on x) ≡ repeated s u (map (λ g. g.source.vertex) x.guards) ++ repeated s u (map (λ r. r.vertex) x.ins) ++ repeated s u (get_half x.kind x.twin)
repeated_by_parts s u x =
    repeated-append s u (map (λ g. g.source.vertex) x.guards ++ map (λ r. r.vertex) x.ins) (get_half x.kind x.twin)
    ∙ ap (λ (l : List ℕ). l ++ repeated s u (get_half x.kind x.twin)) (repeated-append s u (map (λ g. g.source.vertex) x.guards) (map (λ r. r.vertex) x.ins))

repeated_there : (s u : ℕ) (ws : List ℕ) → list_any (nat_eq u) ws ≡ true → list_any (nat_eq s) (repeated s u ws) ≡ true
repeated_there s u [] h = absurd (false≢true h)
repeated_there s u (w ∷ ws) h = by (nat_eq u w) h (repeated_there s u ws)
  where
    by : (b : Bool) → (b || list_any (nat_eq u) ws) ≡ true → (list_any (nat_eq u) ws ≡ true → list_any (nat_eq s) (repeated s u ws) ≡ true)
        → list_any (nat_eq s) (cond b (s ∷ repeated s u ws) (repeated s u ws)) ≡ true
    by true h later = or_left (nat_eq s s) (list_any (nat_eq s) (repeated s u ws)) (eq-eqb s s refl)
    by false h later = later h

any_left : (test : ℕ → Bool) (xs ys : List ℕ) → list_any test xs ≡ true → list_any test (xs ++ ys) ≡ true
any_left test xs ys h = list_any-append test xs ys ∙ or_left (list_any test xs) (list_any test ys) h

any_right : (test : ℕ → Bool) (xs ys : List ℕ) → list_any test ys ≡ true → list_any test (xs ++ ys) ≡ true
any_right test xs ys h = list_any-append test xs ys ∙ or_right (list_any test xs) (list_any test ys) h

from_there : (u s i : ℕ) (xs : List Vertex) → list_any (nat_eq u) (with_vertex (slice_get xs i) [] depends_on) ≡ true → list_any (nat_eq (s + i)) (dependents_from u s xs) ≡ true
from_there u s i [] h = absurd (false≢true h)
from_there u s zero (x ∷ xs) h =
    let e : s ≡ s + 0 = omega arith in
    subst (λ (v : ℕ). list_any (nat_eq v) (repeated s u (depends_on x) ++ dependents_from u (s + 1) xs) ≡ true) e
    (any_left (nat_eq s) (repeated s u (depends_on x)) (dependents_from u (s + 1) xs) (repeated_there s u (depends_on x) h))
from_there u s (suc i) (x ∷ xs) h =
    let e : s + 1 + i ≡ s + suc i = omega arith in
    subst (λ (v : ℕ). list_any (nat_eq v) (repeated s u (depends_on x) ++ dependents_from u (s + 1) xs) ≡ true) e
    (any_right (nat_eq (s + 1 + i)) (repeated s u (depends_on x)) (dependents_from u (s + 1) xs) (from_there u (s + 1) i xs h))

-- an operation that depends on this one is among its dependents
pub dependent_there : (u i : ℕ) (xs : List Vertex) → list_any (nat_eq u) (with_vertex (slice_get xs i) [] depends_on) ≡ true → list_any (nat_eq i) (dependents_from u 0 xs) ≡ true
dependent_there u i xs h = let e : 0 + i ≡ i = omega arith in subst (λ (v : ℕ). list_any (nat_eq v) (dependents_from u 0 xs) ≡ true) e (from_there u 0 i xs h)

repeated_below : (s u n : ℕ) (ws : List ℕ) → s < n → list_all (λ x. nat_lt x n) (repeated s u ws) ≡ true
repeated_below s u n [] l = refl
repeated_below s u n (w ∷ ws) l = by (nat_eq u w) (repeated_below s u n ws l)
  where
    by : (b : Bool) → list_all (λ x. nat_lt x n) (repeated s u ws) ≡ true → list_all (λ x. nat_lt x n) (cond b (s ∷ repeated s u ws) (repeated s u ws)) ≡ true
    by true e = both_true (lt-ltb s n l) e
    by false e = e

from_below : (u s n : ℕ) (xs : List Vertex) → s + length xs ≤ n → list_all (λ x. nat_lt x n) (dependents_from u s xs) ≡ true
from_below u s n [] l = refl
from_below u s n (x ∷ xs) l =
    list_all-append (λ x. nat_lt x n) (repeated s u (depends_on x)) (dependents_from u (s + 1) xs)
    ∙ both_true (repeated_below s u n (depends_on x) (omega arith)) (from_below u (s + 1) n xs (omega arith))

-- they are operations
pub dependents_below : (u : ℕ) (xs : List Vertex) → All (λ v. v < length xs) (dependents_from u 0 xs)
dependents_below u xs k d l = at (dependents_from u 0 xs) k l (from_below u 0 (length xs) xs (omega arith))
  where
    at : (ys : List ℕ) (k : ℕ) → k < length ys → list_all (λ x. nat_lt x (length xs)) ys ≡ true → slice_index_or ys k d < length xs
    at [] k l h = absurd (omega arith)
    at (y ∷ ys) zero l h = ltb-true y (length xs) (and_parts (nat_lt y (length xs)) (list_all (λ x. nat_lt x (length xs)) ys) h).0
    at (y ∷ ys) (suc k) l h = at ys k (omega arith) (and_parts (nat_lt y (length xs)) (list_all (λ x. nat_lt x (length xs)) ys) h).1

pub noted_by_parts : (s u : ℕ) (x : Vertex) (old one two new : List ℕ) (gs : List Guard) (rs : List Source) → gs ≡ x.guards → rs ≡ x.ins
    → one ≡ old ++ repeated s u (map (λ g. g.source.vertex) gs) → two ≡ one ++ repeated s u (map (λ r. r.vertex) rs) → new ≡ two
    ++ repeated s u (get_half x.kind x.twin) → new ≡ old ++ repeated s u (depends_on x)
noted_by_parts s u x old one two new gs rs eg er a b c =
    let guarded = repeated s u (map (λ (g : Guard). g.source.vertex) x.guards) in
    let read = repeated s u (map (λ (r : Source). r.vertex) x.ins) in
    c ∙ ap (λ (l : List ℕ). l ++ repeated s u (get_half x.kind x.twin))
    (b ∙ (λ i. a i ++ repeated s u (map (λ r. r.vertex) (er i))) ∙ (λ i. (old ++ repeated s u (map (λ g. g.source.vertex) (eg i))) ++ read) ∙ append_assoc old guarded read)
    ∙ append_assoc old (guarded ++ read) (repeated s u (get_half x.kind x.twin))
    ∙ ap (λ (l : List ℕ). old ++ l) (sym (repeated_by_parts s u x))

pub list_is : (lists : List (Vec ℕ)) (u : ℕ) (v : Vec ℕ) → u < length lists → v ≡ slice_index_or lists u v → list_at lists u ≡ v.items
list_is [] u v l e = absurd (omega arith)
list_is (x ∷ lists) zero v l e = ap (λ (w : Vec ℕ). w.items) (sym e)
list_is (x ∷ lists) (suc u) v l e = list_is lists u v (omega arith) e

-- one more empty list
pub none_more : (xs : List (Vec ℕ)) (x : Vec ℕ) → x.items ≡ [] → ((u : ℕ) → list_at xs u ≡ []) → (u : ℕ) → list_at (xs ++ x ∷ []) u ≡ []
none_more [] x e h zero = e
none_more [] x e h (suc u) = refl
none_more (y ∷ ys) x e h zero = h 0
none_more (y ∷ ys) x e h (suc u) = none_more ys x e (λ v. h (suc v)) u

-- one more operation: what is left makes the whole
pub dependents_more : (u s : ℕ) (xs : List Vertex) (x : Vertex) (old new whole : List ℕ) → s < length xs → x ≡ get_or xs s x → new ≡ old ++ repeated s u (depends_on x)
    → old ++ dependents_from u s (drop s xs) ≡ whole → new ++ dependents_from u (s + 1) (drop (s + 1) xs) ≡ whole
dependents_more u s xs x old new whole l e n w =
    appended (repeated s u (depends_on x)) (dependents_from u (s + 1) (drop (s + 1) xs)) (dependents_from u s (drop s xs)) old new whole
    (ap (dependents_from u s) (drop_more xs s x l) ∙ ap (λ (y : Vertex). dependents_from u s (y ∷ drop (s + 1) xs)) (sym e)) n w
