-- The rounds that the code makes are those of the definition.
use Rattle.std.proofs.Common.{◌≡◌, ℕ, zero, suc, ◌+◌, ◌<◌, ◌≤◌, Bool, true, false, ◌&&◌, ◌||◌, List, [], ◌∷◌, ◌++◌, map, length, take, refl, sym, ap, subst, arith, add-zero, ◌∙◌, below_more}
use Rattle.std.specs.Prelude.{slice_get, slice_index_or, slice_set, Option, None, Some, nat_lt, replicate}
use Rattle.std.specs.List.{list_all, range_with_len}
use Rattle.std.proofs.lemmas.Bool.{and_parts, and_from, false≢true, ltb-true, ltb-false}
use Rattle.std.proofs.lemmas.List.{get_or-set_same, get_or-set_other}
use Rattle.std.proofs.lemmas.Option.{slice_get_past}
use Rattle.std.proofs.lemmas.List.Folds.{list_all-append, list_all-map}
use Rattle.flat_graph.specs.declared.vertex.Source.{Source}
use Rattle.flat_graph.specs.declared.vertex.Guard.{Guard}
use Rattle.flat_graph.specs.declared.vertex.Vertex.{Vertex}
use Rattle.flat_graph.specs.Graph.{with_vertex}
use Rattle.flat_graph.specs.Order.{depends_on, get_half, is_done, is_acyclic}

-- what an operation depends on, part by part
pub ready_by_parts : (done : ℕ → Bool) (x : Vertex)
    → list_all done (depends_on x) ≡ (list_all (λ g. done g.source.vertex) x.guards && list_all (λ s. done s.vertex) x.ins && list_all done (get_half x.kind x.twin))
ready_by_parts done x =
    list_all-append done (map (λ g. g.source.vertex) x.guards ++ map (λ s. s.vertex) x.ins) (get_half x.kind x.twin)
    ∙ ap (λ b. b && list_all done (get_half x.kind x.twin)) (list_all-append done (map (λ g. g.source.vertex) x.guards) (map (λ s. s.vertex) x.ins))
    ∙ (λ i. list_all-map done (λ (g : Guard). g.source.vertex) x.guards i && list_all-map done (λ (s : Source). s.vertex) x.ins i && list_all done (get_half x.kind x.twin))

all_imply : (f g : ℕ → Bool) → ((u : ℕ) → f u ≡ true → g u ≡ true) → (us : List ℕ) → list_all f us ≡ true → list_all g us ≡ true
all_imply f g h [] e = refl
all_imply f g h (u ∷ us) e = let a = and_parts (f u) (list_all f us) e in and_from (g u) (list_all g us) (h u a.0) (all_imply f g h us a.1)

all_same : (f g : ℕ → Bool) → ((u : ℕ) → f u ≡ g u) → (us : List ℕ) → list_all f us ≡ list_all g us
all_same f g h [] = refl
all_same f g h (u ∷ us) = λ i. h u i && all_same f g h us i

-- what is done stays done
pub stays_done : (vertices : List Vertex) (rounds v : ℕ) → is_done vertices rounds v ≡ true → is_done vertices (suc rounds) v ≡ true
stays_done vertices zero v e = absurd (false≢true e)
stays_done vertices (suc rounds) v e = by (slice_get vertices v) (stays_done vertices rounds) e
  where
    by : (o : Option Vertex) → ((u : ℕ) → is_done vertices rounds u ≡ true → is_done vertices (suc rounds) u ≡ true)
        → with_vertex o false (λ x. list_all (is_done vertices rounds) (depends_on x)) ≡ true → with_vertex o false (λ x. list_all (is_done vertices (suc rounds)) (depends_on x)) ≡ true
    by None h e = e
    by (Some x) h e = all_imply (is_done vertices rounds) (is_done vertices (suc rounds)) h (depends_on x) e

or_false : (a : Bool) → (a || false) ≡ a
or_false true = refl
or_false false = refl

or_after : (a b : Bool) → (a ≡ true → b ≡ true) → (a || b) ≡ b
or_after true b h = sym (h refl)
or_after false b h = refl

pub after_a_round : (vertices : List Vertex) (before done : List Bool) (rounds : ℕ)
    → ((v : ℕ) → slice_index_or before v false ≡ is_done vertices rounds v)
    → ((v : ℕ) → slice_index_or done v false ≡ (slice_index_or before v false || with_vertex (slice_get vertices v) false (λ x. list_all (λ u. slice_index_or before u false) (depends_on x))))
    → (v : ℕ) → slice_index_or done v false ≡ is_done vertices (rounds + 1) v
after_a_round vertices before done rounds so_far step v =
    subst (λ (n : ℕ). slice_index_or done v false ≡ is_done vertices n v) (let e : suc rounds ≡ rounds + 1 = omega arith in e)
    (step v ∙ (λ i. so_far v i || same (slice_get vertices v) i) ∙ or_after (is_done vertices rounds v) (is_done vertices (suc rounds) v) (stays_done vertices rounds v))
  where
    same : (o : Option Vertex)
        → with_vertex o false (λ x. list_all (λ u. slice_index_or before u false) (depends_on x)) ≡ with_vertex o false (λ x. list_all (is_done vertices rounds) (depends_on x))
    same None = refl
    same (Some x) = all_same (λ u. slice_index_or before u false) (is_done vertices rounds) so_far (depends_on x)

flags_same : (f : ℕ → Bool) (flags : List Bool) (a n : ℕ) → n ≤ length flags → ((o : ℕ) → slice_index_or flags o false ≡ f (a + o))
    → list_all (λ is_set. is_set) (take n flags) ≡ list_all f (range_with_len a n)
flags_same f flags a zero h same = refl
flags_same f [] a (suc n) h same = absurd (omega arith)
flags_same f (x ∷ flags) a (suc n) h same =
    let first : x ≡ f a = subst (λ (k : ℕ). x ≡ f k) (add-zero a) (same 0) in
    let rest = flags_same f flags (a + 1) n (omega arith) (λ o.
    subst (λ (k : ℕ). slice_index_or flags o false ≡ f k) (let e : a + suc o ≡ a + 1 + o = omega arith in e) (same (suc o))) in
    λ i. first i && rest i

pub all_done : (vertices : List Vertex) (flags : List Bool) (rounds : ℕ) → rounds ≡ length vertices → length vertices ≤ length flags
    → ((v : ℕ) → slice_index_or flags v false ≡ is_done vertices rounds v)
    → list_all (λ is_set. is_set) (take (length vertices) flags) ≡ is_acyclic vertices
all_done vertices flags rounds all long same =
    flags_same (is_done vertices (length vertices)) flags 0 (length vertices) long (λ v.
    subst (λ (n : ℕ). slice_index_or flags v false ≡ is_done vertices n (0 + v)) all
    (subst (λ (u : ℕ). slice_index_or flags v false ≡ is_done vertices rounds u) (let e : v ≡ 0 + v = omega arith in e) (same v)))

pub no_flag : (n v : ℕ) → slice_index_or (replicate n false) v false ≡ false
no_flag zero v = refl
no_flag (suc n) zero = refl
no_flag (suc n) (suc v) = no_flag n v

-- One round, operation by operation.
module _ (vertices : List Vertex) (before : List Bool) where
  abbrev pub ready : Vertex → Bool
  ready x = list_all (λ w. slice_index_or before w false) (depends_on x)

  abbrev pub then_done : ℕ → Bool
  then_done u = slice_index_or before u false || with_vertex (slice_get vertices u) false (λ x. list_all (λ w. slice_index_or before w false) (depends_on x))

  pub past_more : (done : List Bool) (v : ℕ) (x : Vertex) (b : Bool) → v < length vertices → v < length done → x ≡ slice_index_or vertices v x
      → b ≡ (slice_index_or before v false || ready x) → ((u : ℕ) → u < v → slice_index_or done u false ≡ then_done u)
      → (u : ℕ) → u < v + 1 → slice_index_or (slice_set done v b) u false ≡ then_done u
  past_more done v x b l k is e past = below_more (λ u. slice_index_or (slice_set done v b) u false ≡ then_done u) v
      (λ u m. get_or-set_other done v u b false (λ same. omega (arith, same)) ∙ past u m)
      (get_or-set_same done v b false k ∙ e
      ∙ ap (λ (o : Option Vertex). slice_index_or before v false
      || with_vertex o false (λ y. list_all (λ w. slice_index_or before w false) (depends_on y))) (sym (found vertices v x l is)))
    where
      found : (xs : List Vertex) (i : ℕ) (y : Vertex) → i < length xs → y ≡ slice_index_or xs i y → slice_get xs i ≡ Some y
      found [] i y l e = absurd (omega arith)
      found (z ∷ xs) zero y l e = ap Some (sym e)
      found (z ∷ xs) (suc i) y l e = found xs i y (omega arith) e

  pub rest_more : (done : List Bool) (v : ℕ) (b : Bool) → ((u : ℕ) → v ≤ u → slice_index_or done u false ≡ slice_index_or before u false)
      → (u : ℕ) → v + 1 ≤ u → slice_index_or (slice_set done v b) u false ≡ slice_index_or before u false
  rest_more done v b rest u l = get_or-set_other done v u b false (λ same. omega (arith, same)) ∙ rest u (omega arith)

  pub whole_round : (done : List Bool) (v : ℕ) → length vertices ≤ v → ((u : ℕ) → u < v → slice_index_or done u false ≡ then_done u)
      → ((u : ℕ) → v ≤ u → slice_index_or done u false ≡ slice_index_or before u false) → (u : ℕ) → slice_index_or done u false ≡ then_done u
  whole_round done v l past rest u = elim (nat_lt u v) as (λ b. nat_lt u v ≡ b → slice_index_or done u false ≡ then_done u) [
    | true ↦ λ e. past u (ltb-true u v e)
    | false ↦ λ e. let far = ltb-false u v e in
        rest u far ∙ sym (ap (λ (o : Option Vertex). slice_index_or before u false || with_vertex o false ready) (slice_get_past vertices u (omega arith)) ∙ or_false (slice_index_or before u false))
  ] refl
