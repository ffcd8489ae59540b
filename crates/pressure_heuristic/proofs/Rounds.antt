-- Tails, round by round.
use Rattle.std.proofs.Common.{◌≡◌, ℕ, zero, suc, ◌+◌, ◌<◌, ◌≤◌, Bool, true, false, cond, nat_eq, List, [], ◌∷◌, ◌++◌, map, max, length, Option, Some, None, refl, sym, ap, arith, ◌∙◌}
use Rattle.std.specs.Prelude.{slice_get, slice_index_or}
use Rattle.std.specs.List.{filter, list_any, range_with_len}
use Rattle.std.proofs.lemmas.List.Elements.{filter-append}
use Rattle.schedule.specs.declared.Vertex.{Vertex}
use Rattle.schedule.specs.Graph.{with_vertex}
use Rattle.schedule.specs.FlatOrder.{depends_on}
use Rattle.schedule.specs.Table.{Table, least_of, row_in, entry_in}
use Rattle.comm_routing.specs.Placing.{ticks_in}
use Rattle.comm_routing.specs.Task.{Task}
use Rattle.pressure_heuristic.specs.Pressure.{least, tail_within, dependents}
use Rattle.pressure_heuristic.specs.Tails.{least_in, so_far, tails_in, raised}
use Rattle.comm_routing.specs.Candidates.{needs_of}
use Rattle.syn_base.specs.Numbers.{greatest, lesser}

range_last : (a n : ℕ) → range_with_len a (n + 1) ≡ range_with_len a n ++ (a + n) ∷ []
range_last a zero = (let e : a ≡ a + 0 = omega arith in λ i. e i ∷ [])
range_last a (suc n) =
    let s : suc n + 1 ≡ suc (n + 1) = omega arith in
    let e : a + 1 + n ≡ a + suc n = omega arith in
    ap (range_with_len a) s ∙ ap (λ (l : List ℕ). a ∷ l) (range_last (a + 1) n ∙ ap (λ (k : ℕ). range_with_len (a + 1) n ++ k ∷ []) e)

map-append : (f : ℕ → ℕ) (xs ys : List ℕ) → map f (xs ++ ys) ≡ map f xs ++ map f ys
map-append f [] ys = refl
map-append f (x ∷ xs) ys = ap (λ (l : List ℕ). f x ∷ l) (map-append f xs ys)

greatest-append : (xs ys : List ℕ) → greatest (xs ++ ys) ≡ max (greatest xs) (greatest ys)
greatest-append [] ys = omega arith
greatest-append (x ∷ xs) ys = let e = greatest-append xs ys in omega arith

module _ (vertices : List Vertex) (table : Table) where
  -- one operation more
  pub so_far_step : (before : ℕ → ℕ) (i v : ℕ) (x : Vertex) (date old new : ℕ) → slice_get vertices i ≡ Some x → date ≡ least_in table i + before i → old ≡ so_far vertices table before i v
      → new ≡ raised (depends_on x) v date old → new ≡ so_far vertices table before (i + 1) v
  so_far_step before i v x date old new is d o n =
      let test = λ (s : ℕ). list_any (nat_eq v) (needs_of vertices s) in
      let value = λ (s : ℕ). least_in table s + before s in
      let z : 0 + i ≡ i = omega arith in
      n ∙ by (list_any (nat_eq v) (depends_on x))
      ∙ sym (ap (λ (l : List ℕ). greatest
      (map (λ s. least_in table s + before s) (filter (λ s. list_any (nat_eq v) (needs_of vertices s)) l)))
      (range_last 0 i ∙ ap (λ (k : ℕ). range_with_len 0 i ++ k ∷ []) z)
      ∙ ap (λ (l : List ℕ). greatest (map (λ s. least_in table s + before s) l)) (filter-append (λ s. list_any (nat_eq v) (needs_of vertices s)) (range_with_len 0 i) (i ∷ []))
      ∙ ap greatest (map-append (λ s. least_in table s + before s)
      (filter (λ s. list_any (nat_eq v) (needs_of vertices s)) (range_with_len 0 i)) (filter (λ s. list_any (nat_eq v) (needs_of vertices s)) (i ∷ [])))
      ∙ greatest-append (map (λ s. least_in table s + before s)
      (filter (λ s. list_any (nat_eq v) (needs_of vertices s)) (range_with_len 0 i)))
      (map (λ s. least_in table s + before s) (filter (λ s. list_any (nat_eq v) (needs_of vertices s)) (i ∷ [])))
      ∙ ap (λ (r : Option Vertex). max (so_far vertices table before i v)
      (greatest (map (λ s. least_in table s + before s) (cond (list_any (nat_eq v) (with_vertex r [] depends_on)) (i ∷ []) [])))) is)
    where
      by : (b : Bool) → cond b (max old date) old ≡ max (so_far vertices table before i v) (greatest (map (λ s. least_in table s + before s) (cond b (i ∷ []) [])))
      by true = (λ j. max (o j) (d j))
          ∙ (let e : max (so_far vertices table before i v) (least_in table i + before i)
          ≡ max (so_far vertices table before i v) (max (least_in table i + before i) 0) = omega arith in e)
      by false = o ∙ (let e : so_far vertices table before i v ≡ max (so_far vertices table before i v) 0 = omega arith in e)

  -- what was before counts below this number alone
  pub so_far_same : (f g : ℕ → ℕ) (n v : ℕ) → ((s : ℕ) → s < n → f s ≡ g s) → so_far vertices table f n v ≡ so_far vertices table g n v
  so_far_same f g n v h = ap greatest (by 0 n (λ i l. (let e : 0 + i ≡ i = omega arith in ap f e ∙ h i l ∙ ap g (sym e))))
    where
      by : (a m : ℕ) → ((i : ℕ) → i < m → f (a + i) ≡ g (a + i))
          → map (λ s. least_in table s + f s) (filter (λ s. list_any (nat_eq v) (needs_of vertices s)) (range_with_len a m))
          ≡ map (λ s. least_in table s + g s) (filter (λ s. list_any (nat_eq v) (needs_of vertices s)) (range_with_len a m))
      by a zero h = refl
      by a (suc m) h =
          let z : a ≡ a + 0 = omega arith in
          let first : f a ≡ g a = ap f z ∙ h 0 (omega arith) ∙ ap g (sym z) in
          one (list_any (nat_eq v) (needs_of vertices a)) first (by (a + 1) m (λ i l. (let e : a + 1 + i ≡ a + suc i = omega arith in ap f e ∙ h (suc i) (omega arith) ∙ ap g (sym e))))
        where
          one : (b : Bool) → f a ≡ g a
              → map (λ s. least_in table s + f s) (filter (λ s. list_any (nat_eq v) (needs_of vertices s)) (range_with_len (a + 1) m))
              ≡ map (λ s. least_in table s + g s) (filter (λ s. list_any (nat_eq v) (needs_of vertices s)) (range_with_len (a + 1) m))
              → map (λ s. least_in table s + f s)
              (cond b (a ∷ filter (λ s. list_any (nat_eq v) (needs_of vertices s)) (range_with_len (a + 1) m))
              (filter (λ s. list_any (nat_eq v) (needs_of vertices s)) (range_with_len (a + 1) m)))
              ≡ map (λ s. least_in table s + g s)
              (cond b (a ∷ filter (λ s. list_any (nat_eq v) (needs_of vertices s)) (range_with_len (a + 1) m))
              (filter (λ s. list_any (nat_eq v) (needs_of vertices s)) (range_with_len (a + 1) m)))
          one true e rest = λ i. (least_in table a + e i) ∷ rest i
          one false e rest = rest

  -- once a round changes nothing, none does
  pub settled : (k : ℕ) → ((v : ℕ) → v < length vertices → tails_in vertices table k v ≡ tails_in vertices table (suc k) v)
      → (m : ℕ) (v : ℕ) → v < length vertices → tails_in vertices table (m + k) v ≡ tails_in vertices table k v
  settled k h zero v l = ap (λ (n : ℕ). tails_in vertices table n v) (let e : 0 + k ≡ k = omega arith in e)
  settled k h (suc m) v l =
      ap (λ (n : ℕ). tails_in vertices table n v) (let e : suc m + k ≡ suc (m + k) = omega arith in e)
      ∙ so_far_same (tails_in vertices table (m + k)) (tails_in vertices table k) (length vertices) v (λ s q. settled k h m s q)
      ∙ sym (h v l)

-- the least duration is the least entry of the row
least_entry : (f : ℕ → Option ℕ) (a m : ℕ) (xs : List (Option ℕ)) → length xs ≤ m → ((i : ℕ) → f (a + i) ≡ slice_index_or xs i None) → least_of (map f (range_with_len a m)) ≡ least_of xs
least_entry f a zero [] l h = refl
least_entry f a zero (x ∷ xs) l h = absurd (omega arith)
least_entry f a (suc m) [] l h =
    let z : a ≡ a + 0 = omega arith in
    (λ i. lesser ((ap f z ∙ h 0) i) (least_of (map f (range_with_len (a + 1) m)))) ∙ least_entry f (a + 1) m [] (omega arith) (λ i. (let e : a + 1 + i ≡ a + suc i = omega arith in ap f e ∙ h (suc i)))
least_entry f a (suc m) (x ∷ xs) l h =
    let z : a ≡ a + 0 = omega arith in
    λ i. lesser ((ap f z ∙ h 0) i) (least_entry f (a + 1) m xs (omega arith) (λ i. (let e : a + 1 + i ≡ a + suc i = omega arith in ap f e ∙ h (suc i))) i)

pub tails_same : (t : Task) (table : Table) → ((v o : ℕ) → t.ticks v o ≡ entry_in table v o)
    → ((v : ℕ) → length (row_in table v) ≤ length t.archi.operators) → (n v : ℕ) → tails_in t.graph.vertices table n v ≡ tail_within t n v
tails_same t table ticks rows zero v = refl
tails_same t table ticks rows (suc n) v = ap greatest (by (dependents t v) (λ s. tails_same t table ticks rows n s))
  where
    least_same : (s : ℕ) → least_in table s ≡ least t s
    least_same s = ap ticks_in (sym (least_entry (t.ticks s) 0 (length t.archi.operators) (row_in table s) (rows s) (λ i. (let e : 0 + i ≡ i = omega arith in ap (t.ticks s) e ∙ ticks s i))))

    by : (ss : List ℕ) → ((s : ℕ) → tails_in t.graph.vertices table n s ≡ tail_within t n s)
        → map (λ s. least_in table s + tails_in t.graph.vertices table n s) ss ≡ map (λ s. least t s + tail_within t n s) ss
    by [] h = refl
    by (s ∷ ss) h = λ i. (least_same s i + h s i) ∷ by ss h i
