-- A table that is renewed says of each operation whether it depends on one.
use Rattle.std.proofs.Common.{
  ◌≡◌,
  ℕ,
  zero,
  suc,
  ◌+◌,
  ◌<◌,
  ◌≤◌,
  Bool,
  true,
  false,
  ◌&&◌,
  ◌||◌,
  nat_eq,
  List,
  [],
  ◌∷◌,
  ◌++◌,
  map,
  length,
  Option,
  Some,
  None,
  refl,
  sym,
  ap,
  ap₂,
  subst,
  arith,
  ◌∙◌,
  below_more,
  inl,
  inr,
}
use Rattle.std.specs.Prelude.{slice_get, slice_index_or, slice_set}
use Rattle.std.specs.List.{list_all, list_any, range_with_len}
use Rattle.std.proofs.lemmas.Bool.{false≢true, and_parts, cases_eq, cases_lt}
use Rattle.std.proofs.lemmas.List.{get_or-set_same, get_or-set_other}
use Rattle.std.proofs.lemmas.Option.{slice_get_read}
use Rattle.sequence_build_laws.specs.declared.Vertex.{Vertex}
use Rattle.sequence_build_laws.specs.Graph.{with_vertex}
use Rattle.sequence_build_laws.specs.FlatOrder.{depends_on, get_half, is_acyclic, is_done}
use Rattle.sequence_build_laws.proofs.Rounds.{stays_done}
use Rattle.self_timed.specs.Latency.{is_after, leads_to, leads_within, reads, reads_of}
use Rattle.self_timed.specs.Turns.{at, renewed, AreRight, AreSettled}

pub any-append : (test : ℕ → Bool) (xs ys : List ℕ) → list_any test (xs ++ ys) ≡ (list_any test xs || list_any test ys)
any-append test [] ys = refl
any-append test (x ∷ xs) ys = ap (λ (b : Bool). test x || b) (any-append test xs ys) ∙ by (test x)
  where
    by : (b : Bool) → (b || (list_any test xs || list_any test ys)) ≡ ((b || list_any test xs) || list_any test ys)
    by true = refl
    by false = refl

-- what is read is among what is depended on
all_front : (test : ℕ → Bool) (xs ys : List ℕ) → list_all test (xs ++ ys) ≡ true → list_all test xs ≡ true
all_front test [] ys h = refl
all_front test (x ∷ xs) ys h = let p = and_parts (test x) (list_all test (xs ++ ys)) h in ap₂ (λ (a b : Bool). a && b) p.0 (all_front test xs ys p.1)

same_where : (v : ℕ) (f g : ℕ → Bool) (test : ℕ → Bool) → ((u : ℕ) → test u ≡ true → f u ≡ g u) → (us : List ℕ) → list_all test us ≡ true
    → list_any (λ u. nat_eq u v || f u) us ≡ list_any (λ u. nat_eq u v || g u) us
same_where v f g test same [] h = refl
same_where v f g test same (u ∷ us) h =
    let both = and_parts (test u) (list_all test us) h in
    ap₂ (λ (a b : Bool). (nat_eq u v || a) || b) (same u both.0) (same_where v f g test same us both.1)

all_in_range : (f : ℕ → Bool) (a n v : ℕ) → list_all f (range_with_len a n) ≡ true → a ≤ v → v < a + n → f v ≡ true
all_in_range f a zero v h l u = absurd (omega arith)
all_in_range f a (suc n) v h l u =
    let both = and_parts (f a) (list_all f (range_with_len (a + 1) n)) h in
    elim (cases_lt a v) [
      | inl low ↦ all_in_range f (a + 1) n v both.1 (omega arith) (omega arith)
      | inr far ↦ (let same : v ≡ a = omega arith in ap f same ∙ both.0)
    ]

within : (rounds : ℕ) (vertices xs : List Vertex) (u : ℕ) → with_vertex (slice_get xs u) false (λ x. list_all (is_done vertices rounds) (depends_on x)) ≡ true → u < length xs
within rounds vertices [] u e = absurd (false≢true e)
within rounds vertices (y ∷ xs) zero e = omega arith
within rounds vertices (y ∷ xs) (suc u) e = let z = within rounds vertices xs u e in omega arith

module _ (vertices : List Vertex) (v : ℕ) where
  -- what is done after a round reads what was done before it
  after_same : (f g : ℕ → Bool) (rounds w : ℕ) → ((u : ℕ) → is_done vertices rounds u ≡ true → f u ≡ g u) → is_done vertices (suc rounds) w ≡ true → is_after vertices v f w ≡ is_after vertices v g w
  after_same f g rounds w same h = by (slice_get vertices w) h
    where
      by : (o : Option Vertex) → with_vertex o false (λ x. list_all (is_done vertices rounds) (depends_on x)) ≡ true
          → list_any (λ u. nat_eq u v || f u) (with_vertex o [] reads_of) ≡ list_any (λ u. nat_eq u v || g u) (with_vertex o [] reads_of)
      by None h = refl
      by (Some x) h = same_where v f g (is_done vertices rounds) same (reads_of x) (all_front (is_done vertices rounds) (reads_of x) (get_half x.kind x.twin) h)

  -- once enough operations are followed, one more changes nothing
  pub no_longer : (k m w : ℕ) → k ≤ m → is_done vertices k w ≡ true → leads_within vertices m v w ≡ leads_within vertices (suc m) v w
  no_longer zero m w l h = absurd (false≢true h)
  no_longer (suc k) zero w l h = absurd (omega arith)
  no_longer (suc k) (suc m) w l h = after_same (leads_within vertices m v) (leads_within vertices (suc m) v) k w (λ u d. no_longer k m u (omega arith) d) h

  -- the table so far in a turn: those before had theirs
  pub record HadTurn (rounds op : ℕ) (table : List Bool) : Type 0 where
    pub all : AreRight vertices v rounds table
    pub past : (w : ℕ) → w < op → is_done vertices (suc rounds) w ≡ true → at table w ≡ leads_to vertices v w

  module _ (acyclic : is_acyclic vertices ≡ true) where
    pub all_done : (w : ℕ) → w < length vertices → is_done vertices (length vertices) w ≡ true
    all_done w l = all_in_range (is_done vertices (length vertices)) 0 (length vertices) w acyclic (omega arith) (omega arith)

    leads_is : (w : ℕ) → w < length vertices → leads_to vertices v w ≡ is_after vertices v (leads_to vertices v) w
    leads_is w l = no_longer (length vertices) (length vertices) w (omega arith) (all_done w l)

    -- from what it reads, an operation's entry becomes right
    becomes_right : (rounds : ℕ) (table : List Bool) → AreRight vertices v rounds table → (w : ℕ) → w < length vertices
        → is_done vertices (suc rounds) w ≡ true → renewed vertices v table w ≡ leads_to vertices v w
    becomes_right rounds table right w l h = after_same (at table) (leads_to vertices v) rounds w right h ∙ sym (leads_is w l)

    -- what a turn leaves as it is is right
    pub settled_is_right : (table : List Bool) → AreSettled vertices v table → (rounds : ℕ) → AreRight vertices v rounds table
    settled_is_right table settled zero w h = absurd (false≢true h)
    settled_is_right table settled (suc rounds) w h =
        let l = within rounds vertices vertices w h in
        settled w l ∙ becomes_right rounds table (settled_is_right table settled rounds) w l h

    pub turn_more : (rounds op : ℕ) (table after : List Bool) → op < length vertices → op < length table → after
        ≡ slice_set table op (renewed vertices v table op) → HadTurn rounds op table → HadTurn rounds (op + 1) after
    turn_more rounds op table after l m is had = record {
      all = λ w h. (elim (cases_eq w op) [
        | inl e ↦ (let d = stays_done vertices rounds w h in
            ap (at after) e ∙ here ∙ becomes_right rounds table had.all op l (ap (is_done vertices (suc rounds)) (sym e) ∙ d) ∙ ap (leads_to vertices v) (sym e))
        | inr e ↦ other w e ∙ had.all w h
      ]);
      past = below_more (λ w. is_done vertices (suc rounds) w ≡ true → at after w ≡ leads_to vertices v w) op
          (λ w k h. other w (λ e. (omega (arith, e))) ∙ had.past w k h)
          (λ h. here ∙ becomes_right rounds table had.all op l h);
    }
      where
        here : at after op ≡ renewed vertices v table op
        here = ap (λ (xs : List Bool). at xs op) is ∙ get_or-set_same table op (renewed vertices v table op) false m

        other : (w : ℕ) → (w ≡ op → ⊥) → at after w ≡ at table w
        other w n = ap (λ (xs : List Bool). at xs w) is ∙ get_or-set_other table op w (renewed vertices v table op) false n

    pub turn_done : (rounds op : ℕ) (table : List Bool) → length vertices ≤ op → HadTurn rounds op table → AreRight vertices v (suc rounds) table
    turn_done rounds op table l had w h = had.past w (let k = within rounds vertices vertices w h in omega arith) h

  -- an entry that is renewed and stays leaves all as they are
  pub settled_more : (op : ℕ) (table after : List Bool) → op < length table → after ≡ slice_set table op (renewed vertices v table op) → at table op ≡ renewed vertices v table op
      → ((w : ℕ) → w < op → at table w ≡ renewed vertices v table w) → (w : ℕ) → w < op + 1 → at after w ≡ renewed vertices v after w
  settled_more op table after l is stays past =
      let same : table ≡ after = sym (is ∙ set_same table op (renewed vertices v table op) l stays) in
      subst (λ (xs : List Bool). (w : ℕ) → w < op + 1 → at xs w ≡ renewed vertices v xs w) same
      (below_more (λ w. at table w ≡ renewed vertices v table w) op past stays)
    where
      set_same : (xs : List Bool) (i : ℕ) (y : Bool) → i < length xs → at xs i ≡ y → slice_set xs i y ≡ xs
      set_same [] i y l e = absurd (omega arith)
      set_same (x ∷ xs) zero y l e = ap (λ (z : Bool). z ∷ xs) (sym e)
      set_same (x ∷ xs) (suc i) y l e = ap (λ (zs : List Bool). x ∷ zs) (set_same xs i y (omega arith) e)

-- the entry of an operation that is read from a list
pub renewed_is : (vertices : List Vertex) (v : ℕ) (table : List Bool) (op : ℕ) (x : Vertex) (is : Bool) → op < length vertices → x
    ≡ slice_index_or vertices op x → is ≡ list_any (λ u. nat_eq u v || at table u) (reads_of x)
    → is ≡ renewed vertices v table op
renewed_is vertices v table op x is l at_op h =
    h ∙ sym (ap (λ (o : Option Vertex). list_any (λ u. nat_eq u v || at table u) (with_vertex o [] reads_of)) (slice_get_read vertices (length vertices) op x refl l at_op))

-- an entry that is written and stays was this one before
pub kept_is : (table after : List Bool) (op : ℕ) (value : Bool) → op < length table → after ≡ slice_set table op value → at after op ≡ at table op → at table op ≡ value
kept_is table after op value l is same = sym same ∙ ap (λ (xs : List Bool). at xs op) is ∙ get_or-set_same table op value false l
