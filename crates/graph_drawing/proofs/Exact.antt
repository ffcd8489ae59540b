-- What is drawn is what is there, and each is drawn once.
use Rattle.std.proofs.Common.{◌≡◌, ℕ, zero, suc, ◌+◌, ◌<◌, ◌≤◌, List, [], ◌∷◌, ◌++◌, length, Option, Some, None, refl, sym, ap, subst, inl, inr, arith, ◌∙◌}
use Rattle.std.specs.Prelude.{◌↔◌, ◌⊎◌, slice_get}
use Rattle.std.proofs.lemmas.Option.{same_Some}
use Rattle.schedule.specs.declared.Source.{Source}
use Rattle.schedule.specs.declared.Guard.{Guard}
use Rattle.schedule.specs.declared.Kind.{Kind}
use Rattle.schedule.specs.declared.Kind.TheVariants.{Sensor, Actuator, Function, Constant, Get, Set, Explode, Implode, Merge}
use Rattle.schedule.specs.declared.Vertex.{Vertex}
use Rattle.graph_drawing.specs.Statements.{Statement, operation, input, condition, keeps, inputs_from, conditions_from, keeping, statements_of, statements_from}
use Rattle.graph_drawing.specs.Drawn.{At, Holds, IsMade, DrawsExactly, DrawsOnce}
use Rattle.graph_drawing.proofs.Places.{side, at_front, at_back, Once, Apart, once_both, once_one}

-- the operation of which a statement speaks, its place among those of its kind, and the kind
abbrev owner : Statement → ℕ
owner (operation v x) = v
owner (input v i s) = v
owner (condition v i g) = v
owner (keeps v u) = v

abbrev place : Statement → ℕ
place (operation v x) = 0
place (input v i s) = i
place (condition v i g) = i
place (keeps v u) = 0

abbrev sort : Statement → ℕ
sort (operation v x) = 0
sort (input v i s) = 1
sort (condition v i g) = 2
sort (keeps v u) = 3

-- a statement of an operation, whose number is forgotten
abbrev Own : Vertex → Statement → Type 0
Own x (operation v y) = x ≡ y
Own x (input v i s) = slice_get x.ins i ≡ Some s
Own x (condition v i g) = slice_get x.guards i ≡ Some g
Own x (keeps v u) = (x.kind ≡ Set) × (x.twin ≡ Some u)

-- what stands in each part

record IsInput (v i n : ℕ) (ss : List Source) (st : Statement) : Type 0 where
  source : Source
  is : st ≡ input v (i + n) source
  there : slice_get ss n ≡ Some source

input_at : (v i : ℕ) (ss : List Source) (n : ℕ) (st : Statement) → slice_get (inputs_from v i ss) n ≡ Some st → IsInput v i n ss st
input_at v i [] n st e = absurd cc
input_at v i (s ∷ ss) zero st e =
    let same : i ≡ i + 0 = omega arith in
    record { source = s; is = sym (same_Some (input v i s) st e) ∙ ap (λ (k : ℕ). input v k s) same; there = refl }
input_at v i (s ∷ ss) (suc n) st e =
    let r = input_at v (suc i) ss n st e in
    let same : suc i + n ≡ i + suc n = omega arith in
    record { source = r.source; is = r.is ∙ ap (λ (k : ℕ). input v k r.source) same; there = r.there }

at_input : (v i : ℕ) (ss : List Source) (n : ℕ) (s : Source) → slice_get ss n ≡ Some s → slice_get (inputs_from v i ss) n ≡ Some (input v (i + n) s)
at_input v i [] n s e = absurd cc
at_input v i (t ∷ ss) zero s e =
    let same : i ≡ i + 0 = omega arith in
    ap (λ (x : Source). Some (input v i x)) (same_Some t s e) ∙ ap (λ (k : ℕ). Some (input v k s)) same
at_input v i (t ∷ ss) (suc n) s e =
    let same : suc i + n ≡ i + suc n = omega arith in
    at_input v (suc i) ss n s e ∙ ap (λ (k : ℕ). Some (input v k s)) same

record IsCondition (v i n : ℕ) (gs : List Guard) (st : Statement) : Type 0 where
  guard : Guard
  is : st ≡ condition v (i + n) guard
  there : slice_get gs n ≡ Some guard

condition_at : (v i : ℕ) (gs : List Guard) (n : ℕ) (st : Statement) → slice_get (conditions_from v i gs) n ≡ Some st → IsCondition v i n gs st
condition_at v i [] n st e = absurd cc
condition_at v i (s ∷ gs) zero st e =
    let same : i ≡ i + 0 = omega arith in
    record { guard = s; is = sym (same_Some (condition v i s) st e) ∙ ap (λ (k : ℕ). condition v k s) same; there = refl }
condition_at v i (s ∷ gs) (suc n) st e =
    let r = condition_at v (suc i) gs n st e in
    let same : suc i + n ≡ i + suc n = omega arith in
    record { guard = r.guard; is = r.is ∙ ap (λ (k : ℕ). condition v k r.guard) same; there = r.there }

at_condition : (v i : ℕ) (gs : List Guard) (n : ℕ) (s : Guard) → slice_get gs n ≡ Some s → slice_get (conditions_from v i gs) n ≡ Some (condition v (i + n) s)
at_condition v i [] n s e = absurd cc
at_condition v i (t ∷ gs) zero s e =
    let same : i ≡ i + 0 = omega arith in
    ap (λ (x : Guard). Some (condition v i x)) (same_Some t s e) ∙ ap (λ (k : ℕ). Some (condition v k s)) same
at_condition v i (t ∷ gs) (suc n) s e =
    let same : suc i + n ≡ i + suc n = omega arith in
    at_condition v (suc i) gs n s e ∙ ap (λ (k : ℕ). Some (condition v k s)) same

record IsKept (v : ℕ) (k : Kind) (t : Option ℕ) (n : ℕ) (st : Statement) : Type 0 where
  get : ℕ
  is : st ≡ keeps v get
  set : k ≡ Set
  twin : t ≡ Some get
  first : n ≡ 0

kept_at : (v : ℕ) (k : Kind) (t : Option ℕ) (n : ℕ) (st : Statement) → slice_get (keeping v k t) n ≡ Some st → IsKept v k t n st
unfolding keeping
kept_at v Set (Some u) zero st e = record { get = u; is = sym (same_Some (keeps v u) st e); set = refl; twin = refl; first = refl }
kept_at v Set (Some u) (suc n) st e = absurd cc
kept_at v Set None n st e = absurd cc
kept_at v (Sensor i) t n st e = absurd cc
kept_at v (Actuator i) t n st e = absurd cc
kept_at v (Function b) t n st e = absurd cc
kept_at v (Constant z) t n st e = absurd cc
kept_at v (Get z) t n st e = absurd cc
kept_at v Explode t n st e = absurd cc
kept_at v Implode t n st e = absurd cc
kept_at v (Merge z) t n st e = absurd cc

-- the statements of one operation

record IsOwn (v : ℕ) (x : Vertex) (st : Statement) : Type 0 where
  owned : owner st ≡ v
  own : Own x st

of_input : (v : ℕ) (x : Vertex) (n : ℕ) (st : Statement) → IsInput v 0 n x.ins st → IsOwn v x st
of_input v x n st r =
    let same : 0 + n ≡ n = omega arith in
    let is : st ≡ input v n r.source = r.is ∙ ap (λ (k : ℕ). input v k r.source) same in
    record { owned = ap owner is; own = subst (λ (z : Statement). Own x z) (sym is) r.there }

of_condition : (v : ℕ) (x : Vertex) (n : ℕ) (st : Statement) → IsCondition v 0 n x.guards st → IsOwn v x st
of_condition v x n st r =
    let same : 0 + n ≡ n = omega arith in
    let is : st ≡ condition v n r.guard = r.is ∙ ap (λ (k : ℕ). condition v k r.guard) same in
    record { owned = ap owner is; own = subst (λ (z : Statement). Own x z) (sym is) r.there }

of_kept : (v : ℕ) (x : Vertex) (n : ℕ) (st : Statement) → IsKept v x.kind x.twin n st → IsOwn v x st
of_kept v x n st r = record { owned = ap owner r.is; own = subst (λ (z : Statement). Own x z) (sym r.is) (r.set, r.twin) }

own_at : (v : ℕ) (x : Vertex) (n : ℕ) (st : Statement) → slice_get (statements_of v x) n ≡ Some st → IsOwn v x st
own_at v x zero st e =
    let is = same_Some (operation v x) st e in
    record { owned = ap owner (sym is); own = subst (λ (z : Statement). Own x z) is refl }
own_at v x (suc n) st e = by (side (inputs_from v 0 x.ins) (conditions_from v 0 x.guards ++ keeping v x.kind x.twin) n st e)
  where
    last : (k : ℕ) → (slice_get (conditions_from v 0 x.guards) k ≡ Some st)
        ⊎ ((m : ℕ) × (k ≡ length (conditions_from v 0 x.guards) + m) × (slice_get (keeping v x.kind x.twin) m ≡ Some st)) → IsOwn v x st
    last k (inl h) = of_condition v x k st (condition_at v 0 x.guards k st h)
    last k (inr h) = of_kept v x h.0 st (kept_at v x.kind x.twin h.0 st h.2)

    by : (slice_get (inputs_from v 0 x.ins) n ≡ Some st)
        ⊎ ((k : ℕ) × (n ≡ length (inputs_from v 0 x.ins) + k)
        × (slice_get (conditions_from v 0 x.guards ++ keeping v x.kind x.twin) k ≡ Some st)) → IsOwn v x st
    by (inl h) = of_input v x n st (input_at v 0 x.ins n st h)
    by (inr h) = last h.0 (side (conditions_from v 0 x.guards) (keeping v x.kind x.twin) h.0 st h.2)

at_own : (v : ℕ) (x : Vertex) (st : Statement) → owner st ≡ v → Own x st → (n : ℕ) × (slice_get (statements_of v x) n ≡ Some st)
unfolding keeping
at_own v x (operation w y) o own = (0, λ j. Some (operation (sym o j) (own j)))
at_own v x (input w i s) o own =
    let same : 0 + i ≡ i = omega arith in
    (suc i, at_front (inputs_from v 0 x.ins) (conditions_from v 0 x.guards ++ keeping v x.kind x.twin) i (input v (0 + i) s) (at_input v 0 x.ins i s own) ∙ (λ j. Some (input (sym o j) (same j) s)))
at_own v x (condition w i g) o own =
    let same : 0 + i ≡ i = omega arith in (
      suc (length (inputs_from v 0 x.ins) + i),
      at_back (inputs_from v 0 x.ins) (conditions_from v 0 x.guards ++ keeping v x.kind x.twin) i
          ∙ at_front (conditions_from v 0 x.guards) (keeping v x.kind x.twin) i (condition v (0 + i) g) (at_condition v 0 x.guards i g own) ∙ (λ j. Some (condition (sym o j) (same j) g)),
    )
at_own v x (keeps w u) o own = (
  suc (length (inputs_from v 0 x.ins) + (length (conditions_from v 0 x.guards) + 0)),
  at_back (inputs_from v 0 x.ins) (conditions_from v 0 x.guards ++ keeping v x.kind x.twin) (length (conditions_from v 0 x.guards) + 0)
      ∙ at_back (conditions_from v 0 x.guards) (keeping v x.kind x.twin) 0
      ∙ (λ j. slice_get (keeping v (own.0 j) (own.1 j)) 0) ∙ (λ j. Some (keeps (sym o j) u)),
)

-- the statements of all

record IsThere (v : ℕ) (xs : List Vertex) (st : Statement) : Type 0 where
  number : ℕ
  vertex : Vertex
  there : slice_get xs number ≡ Some vertex
  own : IsOwn (v + number) vertex st

there_at : (v : ℕ) (xs : List Vertex) (n : ℕ) (st : Statement) → slice_get (statements_from v xs) n ≡ Some st → IsThere v xs st
there_at v [] n st e = absurd cc
there_at v (x ∷ xs) n st e = by (λ k d. there_at (suc v) xs k st d) (side (statements_of v x) (statements_from (suc v) xs) n st e)
  where
    later : IsThere (suc v) xs st → IsThere v (x ∷ xs) st
    later r =
        let same : suc v + r.number ≡ v + suc r.number = omega arith in
        record { number = suc r.number; vertex = r.vertex; there = r.there; own = subst (λ (k : ℕ). IsOwn k r.vertex st) same r.own }

    by : ((k : ℕ) → slice_get (statements_from (suc v) xs) k ≡ Some st → IsThere (suc v) xs st)
        → (slice_get (statements_of v x) n ≡ Some st) ⊎ ((k : ℕ) × (n ≡ length (statements_of v x) + k) × (slice_get (statements_from (suc v) xs) k ≡ Some st)) → IsThere v (x ∷ xs) st
    by rest (inl h) =
        let same : v ≡ v + 0 = omega arith in
        record { number = 0; vertex = x; there = refl; own = subst (λ (k : ℕ). IsOwn k x st) same (own_at v x n st h) }
    by rest (inr h) = later (rest h.0 h.2)

at_there : (v : ℕ) (xs : List Vertex) (k : ℕ) (x : Vertex) (st : Statement) → slice_get xs k ≡ Some x → owner st ≡ v + k → Own x st → (n : ℕ) × (slice_get (statements_from v xs) n ≡ Some st)
at_there v [] k x st e o own = absurd cc
at_there v (y ∷ xs) zero x st e o own =
    let here = same_Some y x e in
    let r = at_own v y st (omega arith) (subst (λ (z : Vertex). Own z st) (sym here) own) in
    (r.0, at_front (statements_of v y) (statements_from (suc v) xs) r.0 st r.1)
at_there v (y ∷ xs) (suc k) x st e o own =
    let r = at_there (suc v) xs k x st e (omega arith) own in
    (length (statements_of v y) + r.0, at_back (statements_of v y) (statements_from (suc v) xs) r.0 ∙ r.1)

made_holds : (xs : List Vertex) (st : Statement) → IsThere 0 xs st → Holds xs st
made_holds xs (operation v x) r =
    let same : r.number ≡ v = (let o = r.own.owned in omega arith) in
    (λ j. slice_get xs (sym same j)) ∙ r.there ∙ ap (λ (z : Vertex). Some z) r.own.own
made_holds xs (input v i s) r =
    let same : v ≡ r.number = (let o = r.own.owned in omega arith) in
    (r.vertex, ap (λ (k : ℕ). slice_get xs k) same ∙ r.there, r.own.own)
made_holds xs (condition v i g) r =
    let same : v ≡ r.number = (let o = r.own.owned in omega arith) in
    (r.vertex, ap (λ (k : ℕ). slice_get xs k) same ∙ r.there, r.own.own)
made_holds xs (keeps v u) r =
    let same : v ≡ r.number = (let o = r.own.owned in omega arith) in
    (r.vertex, ap (λ (k : ℕ). slice_get xs k) same ∙ r.there, r.own.own)

holds_made : (xs : List Vertex) (st : Statement) → Holds xs st → IsMade xs st
holds_made xs (operation v x) h = at_there 0 xs v x (operation v x) h (omega arith) refl
holds_made xs (input v i s) h = at_there 0 xs v h.0 (input v i s) h.1 (omega arith) h.2
holds_made xs (condition v i g) h = at_there 0 xs v h.0 (condition v i g) h.1 (omega arith) h.2
holds_made xs (keeps v u) h = at_there 0 xs v h.0 (keeps v u) h.1 (omega arith) h.2

pub draws_exactly : DrawsExactly
draws_exactly xs st = ((λ (m : IsMade xs st). made_holds xs st (there_at 0 xs m.0 st m.1)), holds_made xs st)

-- each once

inputs_once : (v i : ℕ) (ss : List Source) → Once (inputs_from v i ss)
inputs_once v i ss st m n d e =
    let p = input_at v i ss m st d in
    let q = input_at v i ss n st e in
    let same : i + m ≡ i + n = ap place (sym p.is ∙ q.is) in
    omega arith

conditions_once : (v i : ℕ) (gs : List Guard) → Once (conditions_from v i gs)
conditions_once v i gs st m n d e =
    let p = condition_at v i gs m st d in
    let q = condition_at v i gs n st e in
    let same : i + m ≡ i + n = ap place (sym p.is ∙ q.is) in
    omega arith

kept_once : (v : ℕ) (k : Kind) (t : Option ℕ) → Once (keeping v k t)
kept_once v k t st m n d e = (kept_at v k t m st d).first ∙ sym (kept_at v k t n st e).first

rest_once : (v : ℕ) (x : Vertex) → Once (conditions_from v 0 x.guards ++ keeping v x.kind x.twin)
rest_once v x =
    once_both (conditions_from v 0 x.guards) (keeping v x.kind x.twin) (conditions_once v 0 x.guards) (kept_once v x.kind x.twin)
    (λ st m n d e. let same = ap sort (sym (condition_at v 0 x.guards m st d).is ∙ (kept_at v x.kind x.twin n st e).is) in absurd (omega arith))

rest_sort : (v : ℕ) (x : Vertex) (st : Statement) (n : ℕ) → slice_get (conditions_from v 0 x.guards ++ keeping v x.kind x.twin) n ≡ Some st → 2 ≤ sort st
rest_sort v x st n e = by (side (conditions_from v 0 x.guards) (keeping v x.kind x.twin) n st e)
  where
    by : (slice_get (conditions_from v 0 x.guards) n ≡ Some st) ⊎ ((m : ℕ) × (n ≡ length (conditions_from v 0 x.guards) + m) × (slice_get (keeping v x.kind x.twin) m ≡ Some st)) → 2 ≤ sort st
    by (inl h) = let z = ap sort (condition_at v 0 x.guards n st h).is in omega arith
    by (inr h) = let z = ap sort (kept_at v x.kind x.twin h.0 st h.2).is in omega arith

edges_once : (v : ℕ) (x : Vertex) → Once (inputs_from v 0 x.ins ++ (conditions_from v 0 x.guards ++ keeping v x.kind x.twin))
edges_once v x =
    once_both (inputs_from v 0 x.ins) (conditions_from v 0 x.guards ++ keeping v x.kind x.twin) (inputs_once v 0 x.ins) (rest_once v x)
    (λ st m n d e. let same = ap sort (input_at v 0 x.ins m st d).is in let high = rest_sort v x st n e in absurd (omega arith))

edges_sort : (v : ℕ) (x : Vertex) (st : Statement) (n : ℕ) → slice_get (inputs_from v 0 x.ins ++ (conditions_from v 0 x.guards ++ keeping v x.kind x.twin)) n ≡ Some st → 1 ≤ sort st
edges_sort v x st n e = by (side (inputs_from v 0 x.ins) (conditions_from v 0 x.guards ++ keeping v x.kind x.twin) n st e)
  where
    by : (slice_get (inputs_from v 0 x.ins) n ≡ Some st)
        ⊎ ((m : ℕ) × (n ≡ length (inputs_from v 0 x.ins) + m) × (slice_get (conditions_from v 0 x.guards ++ keeping v x.kind x.twin) m ≡ Some st)) → 1 ≤ sort st
    by (inl h) = let z = ap sort (input_at v 0 x.ins n st h).is in omega arith
    by (inr h) = let z = rest_sort v x st h.0 h.2 in omega arith

of_once : (v : ℕ) (x : Vertex) → Once (statements_of v x)
of_once v x =
    once_both (operation v x ∷ []) (inputs_from v 0 x.ins ++ (conditions_from v 0 x.guards ++ keeping v x.kind x.twin)) (once_one (operation v x)) (edges_once v x)
    (λ st m n d e. let high = edges_sort v x st n e in let low = only m st d in absurd (omega arith))
  where
    only : (m : ℕ) (st : Statement) → slice_get (operation v x ∷ []) m ≡ Some st → sort st ≡ 0
    only zero st d = ap sort (sym (same_Some (operation v x) st d))
    only (suc m) st d = absurd cc

from_once : (v : ℕ) (xs : List Vertex) → Once (statements_from v xs)
from_once v [] = λ st m n d e. absurd cc
from_once v (x ∷ xs) =
    once_both (statements_of v x) (statements_from (suc v) xs) (of_once v x) (from_once (suc v) xs)
    (λ st m n d e. let o = (own_at v x m st d).owned in let r = there_at (suc v) xs n st e in let p = r.own.owned in absurd (omega arith))

pub draws_once : DrawsOnce
draws_once xs st m n d e = from_once 0 xs st m n d e
