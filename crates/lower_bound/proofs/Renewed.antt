-- Dates that are renewed become the chains to their operations.
use Rattle.std.proofs.Common.{
  ◌≡◌,
  ℕ,
  zero,
  suc,
  ◌+◌,
  ◌*◌,
  ◌<◌,
  ◌≤◌,
  Bool,
  true,
  false,
  cond,
  ◌||◌,
  List,
  [],
  ◌∷◌,
  ◌++◌,
  map,
  max,
  min,
  length,
  Option,
  Some,
  None,
  refl,
  sym,
  ap,
  subst,
  arith,
  ◌∙◌,
  below_more,
  inl,
  inr,
}
use Rattle.std.specs.Prelude.{is_some, nat_lt, slice_get, slice_index_or, slice_set, unwrap_or, IfSome}
use Rattle.std.specs.List.{list_all, range_with_len}
use Rattle.std.proofs.lemmas.Bool.{false≢true, and_parts, cases_eq}
use Rattle.std.proofs.lemmas.List.{get_or-set_same, get_or-set_other}
use Rattle.std.proofs.lemmas.List.Folds.{list_all-append}
use Rattle.self_timed.specs.declared.Guard.{Guard}
use Rattle.self_timed.specs.declared.Source.{Source}
use Rattle.self_timed.specs.declared.Vertex.{Vertex}
use Rattle.self_timed.specs.Graph.{len_of, with_vertex}
use Rattle.self_timed.specs.FlatOrder.{depends_on, get_half, is_acyclic, is_done}
use Rattle.self_timed.proofs.Rounds.{stays_done}
use Rattle.self_timed.specs.declared.Medium.{Medium}
use Rattle.self_timed.specs.Table.{least_of}
use Rattle.self_timed.specs.Acts.{sources_of}
use Rattle.lower_bound.specs.Bound.{arrival, carried_to, carried_within, end_on, first_end, later_by, least_transfer, start_on}
use Rattle.lower_bound.specs.Turns.{at, most_date, renewed, AreChains, AreSettled, AreShort}
use Rattle.lower_bound.proofs.Done.{all_done, done_within, same_where}
use Rattle.lower_bound.proofs.Lesser.{lesser_low}
use Rattle.syn_base.specs.Numbers.{greatest, lesser}

pub greatest-append : (xs ys : List ℕ) → greatest (xs ++ ys) ≡ max (greatest xs) (greatest ys)
greatest-append [] ys = omega arith
greatest-append (x ∷ xs) ys = let e = greatest-append xs ys in omega arith

pub map-append : (f : ℕ → ℕ) (xs ys : List ℕ) → map f (xs ++ ys) ≡ map f xs ++ map f ys
map-append f [] ys = refl
map-append f (x ∷ xs) ys = ap (λ (l : List ℕ). f x ∷ l) (map-append f xs ys)

-- what an operation depends on, part by part
pub latest_by_parts : (f : ℕ → ℕ) (x : Vertex)
    → greatest (map f (depends_on x)) ≡ max (max (greatest (map f (map (λ g. g.source.vertex) x.guards))) (greatest (map f (map (λ s. s.vertex) x.ins)))) (greatest (map f (get_half x.kind x.twin)))
latest_by_parts f x =
    let guards = map (λ g. g.source.vertex) x.guards in
    let ins = map (λ s. s.vertex) x.ins in
    let half = get_half x.kind x.twin in
    let e = ap greatest (map-append f (guards ++ ins) half) in
    let h = greatest-append (map f (guards ++ ins)) (map f half) in
    let k = ap greatest (map-append f guards ins) in
    let m = greatest-append (map f guards) (map f ins) in
    omega arith

pub greatest_low : (f : ℕ → ℕ) (date : ℕ) → ((v : ℕ) → f v ≤ date) → (vs : List ℕ) → greatest (map f vs) ≤ date
greatest_low f date h [] = omega arith
greatest_low f date h (v ∷ vs) = let l = h v in let r = greatest_low f date h vs in omega arith

module _ (operators : ℕ) (ticks : ℕ → ℕ → Option ℕ) (vertices : List Vertex) (media : List Medium) where
  -- what arrives from operations of the same dates arrives at the same date
  arrivals_same : (f g : ℕ → ℕ) (test : ℕ → Bool) → ((u : ℕ) → test u ≡ true → f u ≡ g u) → (o : ℕ) (gs : List Guard) (xs : List Source)
      → list_all test (map (λ d. d.source.vertex) gs ++ map (λ s. s.vertex) xs) ≡ true
      → greatest (map (arrival operators ticks vertices media f o) (map (λ d. d.source) gs ++ xs)) ≡ greatest (map (arrival operators ticks vertices media g o) (map (λ d. d.source) gs ++ xs))
  arrivals_same f g test same o [] [] h = refl
  arrivals_same f g test same o [] (x ∷ xs) h =
      let both = and_parts (test x.vertex) (list_all test (map (λ s. s.vertex) xs)) h in
      let e = same x.vertex both.0 in
      let r = arrivals_same f g test same o [] xs both.1 in
      omega arith
  arrivals_same f g test same o (d ∷ gs) xs h =
      let both = and_parts (test d.source.vertex) (list_all test (map (λ d. d.source.vertex) gs ++ map (λ s. s.vertex) xs)) h in
      let e = same d.source.vertex both.0 in
      let r = arrivals_same f g test same o gs xs both.1 in
      omega arith

  -- what is done after a round needs what was done before it
  end_same : (f g : ℕ → ℕ) (rounds v : ℕ) → ((u : ℕ) → is_done vertices rounds u ≡ true → f u ≡ g u) → is_done vertices (suc rounds) v
      ≡ true → first_end operators ticks vertices media f v ≡ first_end operators ticks vertices media g v
  end_same f g rounds v same h = λ i. unwrap_or (least_of (map (λ o. later_by (ticks v o) (by o (slice_get vertices v) h i)) (range_with_len 0 operators))) 0
    where
      by : (o : ℕ) (y : Option Vertex) → with_vertex y false (λ x. list_all (is_done vertices rounds) (depends_on x)) ≡ true
          → with_vertex y 0 (start_on operators ticks vertices media f o) ≡ with_vertex y 0 (start_on operators ticks vertices media g o)
      by o None h = refl
      by o (Some x) h =
          let guards = map (λ d. d.source.vertex) x.guards in
          let ins = map (λ s. s.vertex) x.ins in
          let both = and_parts (list_all (is_done vertices rounds) (guards ++ ins))
          (list_all (is_done vertices rounds) (get_half x.kind x.twin))
          (sym (list_all-append (is_done vertices rounds) (guards ++ ins) (get_half x.kind x.twin)) ∙ h) in
          let r = arrivals_same f g (is_done vertices rounds) same o x.guards x.ins both.0 in
          let e = same_where f g (is_done vertices rounds) same (get_half x.kind x.twin) both.1 in
          omega arith

  -- once enough operations are followed, one more changes nothing
  no_longer : (k m v : ℕ) → k ≤ m → is_done vertices k v ≡ true → carried_within operators ticks vertices media m v ≡ carried_within operators ticks vertices media (suc m) v
  no_longer zero m v l h = absurd (false≢true h)
  no_longer (suc k) zero v l h = absurd (omega arith)
  no_longer (suc k) (suc m) v l h = end_same (carried_within operators ticks vertices media m) (carried_within operators ticks vertices media (suc m)) k v (λ u d. no_longer k m u (omega arith) d) h

  -- the dates so far in a turn: those before had theirs
  pub record HadTurn (rounds op : ℕ) (dates : List ℕ) : Type 0 where
    pub all : AreChains operators ticks vertices media rounds dates
    pub past : (v : ℕ) → v < op → is_done vertices (suc rounds) v ≡ true → at dates v ≡ carried_to operators ticks vertices media v

  module _ (acyclic : is_acyclic vertices ≡ true) where
    chain_is : (v : ℕ) → v < length vertices → carried_to operators ticks vertices media v ≡ first_end operators ticks vertices media (carried_to operators ticks vertices media) v
    chain_is v l = no_longer (length vertices) (length vertices) v (omega arith) (all_done vertices acyclic v l)

    module _ (few : length vertices ≤ 2048) (low : (v o : ℕ) → IfSome (ticks v o) (λ t. t ≤ 1000000000)) (short : AreShort media vertices) where
      arrivals_low : (f : ℕ → ℕ) (o date : ℕ) → ((v : ℕ) → f v ≤ date) → (xs : List Source) → greatest (map (arrival operators ticks vertices media f o) xs) ≤ date + 65000000
      arrivals_low f o date h [] = omega arith
      arrivals_low f o date h (x ∷ xs) =
          let l = h x.vertex in
          let one = waits (is_some (ticks x.vertex o)) in
          let r = arrivals_low f o date h xs in
          omega arith
        where
          waits : (b : Bool) → cond b 0 (least_transfer media o (len_of vertices x)) ≤ 65000000
          waits true = omega arith
          waits false = short o x

      first_end_low : (f : ℕ → ℕ) (date v : ℕ) → ((v : ℕ) → f v ≤ date) → first_end operators ticks vertices media f v ≤ date + 1065000000
      first_end_low f date v h = bound (least_of (map (end_on operators ticks vertices media f v) (range_with_len 0 operators))) (all (range_with_len 0 operators))
        where
          bound : (o : Option ℕ) → IfSome o (λ t. t ≤ date + 1065000000) → unwrap_or o 0 ≤ date + 1065000000
          bound None l = omega arith
          bound (Some t) l = l

          start : (o : ℕ) (y : Option Vertex) → with_vertex y 0 (start_on operators ticks vertices media f o) ≤ date + 65000000
          start o None = omega arith
          start o (Some x) =
              let a = arrivals_low f o date h (sources_of (Some x)) in
              let b = greatest_low f date h (get_half x.kind x.twin) in
              omega arith

          later : (o : Option ℕ) (n : ℕ) → IfSome o (λ t. t ≤ 1000000000) → n ≤ date + 65000000 → IfSome (later_by o n) (λ t. t ≤ date + 1065000000)
          later None n l m = tt
          later (Some t) n l m = omega arith

          all : (os : List ℕ) → IfSome (least_of (map (end_on operators ticks vertices media f v) os)) (λ t. t ≤ date + 1065000000)
          all [] = tt
          all (o ∷ os) = lesser_low (date + 1065000000) (end_on operators ticks vertices media f v o)
              (least_of (map (end_on operators ticks vertices media f v) os))
              (later (ticks v o) (with_vertex (slice_get vertices v) 0 (start_on operators ticks vertices media f o)) (low v o)
              (start o (slice_get vertices v))) (all os)

      chain_low : (n v : ℕ) → carried_within operators ticks vertices media n v ≤ 1065000000 * n
      chain_low zero v = omega arith
      chain_low (suc n) v =
          let l = first_end_low (carried_within operators ticks vertices media n) (1065000000 * n) v (chain_low n) in
          omega arith

      -- from the chains to those that it needs, an operation's date becomes the chain to it
      becomes_chain : (rounds : ℕ) (dates : List ℕ) → AreChains operators ticks vertices media rounds dates → (v : ℕ) → v < length vertices → is_done vertices (suc rounds) v ≡ true
          → renewed operators ticks vertices media dates v ≡ carried_to operators ticks vertices media v
      becomes_chain rounds dates chains v l h =
          let e = end_same (at dates) (carried_to operators ticks vertices media) rounds v chains h in
          let c = chain_is v l in
          let b = chain_low (length vertices) v in
          omega arith

      -- what a turn leaves as it is are the chains
      pub settled_are_chains : (dates : List ℕ) → AreSettled operators ticks vertices media dates → (rounds : ℕ) → AreChains operators ticks vertices media rounds dates
      settled_are_chains dates settled zero v h = absurd (false≢true h)
      settled_are_chains dates settled (suc rounds) v h =
          let l = done_within vertices (suc rounds) v h in
          settled v l ∙ becomes_chain rounds dates (settled_are_chains dates settled rounds) v l h
        where
          within : (xs : List Vertex) (u : ℕ) → with_vertex (slice_get xs u) false (λ x. list_all (is_done vertices rounds) (depends_on x)) ≡ true → u < length xs
          within [] u e = absurd (false≢true e)
          within (y ∷ xs) zero e = omega arith
          within (y ∷ xs) (suc u) e = let z = within xs u e in omega arith

      pub turn_more : (rounds op : ℕ) (dates after : List ℕ) → op < length vertices → op < length dates → after
          ≡ slice_set dates op (renewed operators ticks vertices media dates op) → HadTurn rounds op dates → HadTurn rounds (op + 1) after
      turn_more rounds op dates after l m is had = record {
        all = λ v h. (elim (cases_eq v op) [
          | inl e ↦ (let d = stays_done vertices rounds v h in
              ap (at after) e ∙ here ∙ becomes_chain rounds dates had.all op l (ap (is_done vertices (suc rounds)) (sym e) ∙ d) ∙ ap (carried_to operators ticks vertices media) (sym e))
          | inr e ↦ other v e ∙ had.all v h
        ]);
        past = below_more (λ v. is_done vertices (suc rounds) v ≡ true → at after v ≡ carried_to operators ticks vertices media v) op
            (λ v k h. other v (λ e. (omega (arith, e))) ∙ had.past v k h)
            (λ h. here ∙ becomes_chain rounds dates had.all op l h);
      }
        where
          here : at after op ≡ renewed operators ticks vertices media dates op
          here = ap (λ (xs : List ℕ). at xs op) is ∙ get_or-set_same dates op (renewed operators ticks vertices media dates op) 0 m

          other : (v : ℕ) → (v ≡ op → ⊥) → at after v ≡ at dates v
          other v n = ap (λ (xs : List ℕ). at xs v) is ∙ get_or-set_other dates op v (renewed operators ticks vertices media dates op) 0 n

      pub turn_done : (rounds op : ℕ) (dates : List ℕ) → length vertices ≤ op → HadTurn rounds op dates → AreChains operators ticks vertices media (suc rounds) dates
      turn_done rounds op dates l had v h = had.past v (let k = done_within vertices (suc rounds) v h in omega arith) h

  -- a date that is renewed and stays leaves all as they are
  pub settled_more : (op : ℕ) (dates after : List ℕ) → op < length dates → after
      ≡ slice_set dates op (renewed operators ticks vertices media dates op) → at dates op ≡ renewed operators ticks vertices media dates op
      → ((v : ℕ) → v < op → at dates v ≡ renewed operators ticks vertices media dates v) → (v : ℕ) → v < op + 1 → at after v ≡ renewed operators ticks vertices media after v
  settled_more op dates after l is stays past =
      let same : dates ≡ after = sym (is ∙ set_same dates op (renewed operators ticks vertices media dates op) l stays) in
      subst (λ (xs : List ℕ). (v : ℕ) → v < op + 1 → at xs v ≡ renewed operators ticks vertices media xs v) same
      (below_more (λ v. at dates v ≡ renewed operators ticks vertices media dates v) op past stays)
    where
      set_same : (xs : List ℕ) (i y : ℕ) → i < length xs → at xs i ≡ y → slice_set xs i y ≡ xs
      set_same [] i y l e = absurd (omega arith)
      set_same (x ∷ xs) zero y l e = ap (λ (z : ℕ). z ∷ xs) (sym e)
      set_same (x ∷ xs) (suc i) y l e = ap (λ (zs : List ℕ). x ∷ zs) (set_same xs i y (omega arith) e)

-- a date that is written leaves all low, if it is low
pub written_low : (dates after : List ℕ) (op date most : ℕ) → op < length dates → after ≡ slice_set dates op date → date ≤ most → ((v : ℕ) → at dates v ≤ most) → (v : ℕ) → at after v ≤ most
written_low dates after op date most l is low all v = elim (cases_eq v op) [
  | inl e ↦ (let h = ap (λ (xs : List ℕ). at xs v) is ∙ ap (at (slice_set dates op date)) e ∙ get_or-set_same dates op date 0 l in omega arith)
  | inr e ↦ (let h = ap (λ (xs : List ℕ). at xs v) is ∙ get_or-set_other dates op v date 0 e in let b = all v in omega arith)
]

-- a date that is written and stays was this one before
pub kept_is : (dates after : List ℕ) (op date : ℕ) → op < length dates → after ≡ slice_set dates op date → at after op ≡ at dates op → at dates op ≡ date
kept_is dates after op date l is same = sym same ∙ ap (λ (xs : List ℕ). at xs op) is ∙ get_or-set_same dates op date 0 l
