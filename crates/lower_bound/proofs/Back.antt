-- The way back along a longest chain: what it takes at each step, and what it lasts.
use Rattle.std.proofs.Common.{
  ◌≡◌,
  ℕ,
  zero,
  suc,
  ◌+◌,
  ◌<◌,
  ◌≤◌,
  Bool,
  true,
  false,
  cond,
  ◌&&◌,
  nat_eq,
  List,
  [],
  ◌∷◌,
  ◌++◌,
  map,
  max,
  length,
  Option,
  Some,
  None,
  refl,
  sym,
  ap,
  subst,
  arith,
  inl,
  inr,
  ◌∙◌,
}
use Rattle.std.specs.Prelude.{IsTrue, slice_get, sum_by}
use Rattle.std.specs.List.{list_all, list_any, range_with_len}
use Rattle.std.proofs.lemmas.Bool.{false≢true, and_parts, and_from, or_cases, or_left, or_right, eqb-true, eq-eqb, cases_lt}
use Rattle.std.proofs.lemmas.List.Sums.{sum_by-cons}
use Rattle.self_timed.specs.declared.Vertex.{Vertex}
use Rattle.self_timed.specs.Graph.{with_vertex}
use Rattle.self_timed.specs.FlatOrder.{depends_on, is_acyclic, is_done}
use Rattle.lower_bound.specs.Bound.{all_operations, chain_to, chain_within, end_after, least, longest_chain}
use Rattle.lower_bound.specs.Chain.{back_within, chain_back, first_at, goes_back, goes_on, latest_of, ChainLastsLongest}
use Rattle.lower_bound.proofs.Done.{all_done, done_within, same_where}
use Rattle.comm_routing.specs.Candidates.{needs_of}
use Rattle.syn_base.specs.Numbers.{greatest}

-- the first with a date, where there is one
pub record Found (dates : ℕ → ℕ) (date : ℕ) (vs : List ℕ) : Type 0 where
  pub op : ℕ
  pub is : first_at dates date vs ≡ Some op
  pub dated : dates op ≡ date
  pub among : list_any (nat_eq op) vs ≡ true

first_is : (dates : ℕ → ℕ) (date : ℕ) (vs : List ℕ) → list_any (λ v. nat_eq (dates v) date) vs ≡ true → Found dates date vs
first_is dates date [] h = absurd (false≢true h)
first_is dates date (v ∷ vs) h = by (nat_eq (dates v) date) refl (λ k. first_is dates date vs k)
  where
    by : (b : Bool) → nat_eq (dates v) date ≡ b → (list_any (λ v. nat_eq (dates v) date) vs ≡ true → Found dates date vs) → Found dates date (v ∷ vs)
    by true e later = record {
      op = v;
      is = ap (λ (b : Bool). cond b (Some v) (first_at dates date vs)) e;
      dated = eqb-true (dates v) date e;
      among = or_left (nat_eq v v) (list_any (nat_eq v) vs) (eq-eqb v v refl);
    }
    by false e later = elim (or_cases (nat_eq (dates v) date) (list_any (λ v. nat_eq (dates v) date) vs) h) [
      | inl k ↦ absurd (false≢true (sym e ∙ k))
      | inr k ↦
          (let r = later k in
          record {
            op = r.op;
            is = ap (λ (b : Bool). cond b (Some v) (first_at dates date vs)) e ∙ r.is;
            dated = r.dated;
            among = or_right (nat_eq r.op v) (list_any (nat_eq r.op) vs) r.among;
          })
    ]

any_greatest : (dates : ℕ → ℕ) (v : ℕ) (vs : List ℕ) → list_any (λ u. nat_eq (dates u) (greatest (map dates (v ∷ vs)))) (v ∷ vs) ≡ true
any_greatest dates v [] = or_left (nat_eq (dates v) (max (dates v) 0)) false (eq-eqb (dates v) (max (dates v) 0) (omega arith))
any_greatest dates v (w ∷ ws) = elim (cases_lt (dates v) (greatest (map dates (w ∷ ws)))) [
  | inl less ↦
      (let same : greatest (map dates (w ∷ ws)) ≡ max (dates v) (greatest (map dates (w ∷ ws))) = omega arith in
      or_right (nat_eq (dates v) (max (dates v) (greatest (map dates (w ∷ ws))))) (list_any (λ u. nat_eq (dates u) (max (dates v) (greatest (map dates (w ∷ ws))))) (w ∷ ws))
      (subst (λ (n : ℕ). list_any (λ u. nat_eq (dates u) n) (w ∷ ws) ≡ true) same (any_greatest dates w ws)))
  | inr more ↦ or_left (nat_eq (dates v) (max (dates v) (greatest (map dates (w ∷ ws))))) (list_any (λ u. nat_eq (dates u) (max (dates v) (greatest (map dates (w ∷ ws))))) (w ∷ ws))
      (eq-eqb (dates v) (max (dates v) (greatest (map dates (w ∷ ws)))) (omega arith))
]

-- of some operations one is the latest
pub latest_is : (dates : ℕ → ℕ) (v : ℕ) (vs : List ℕ) → Found dates (greatest (map dates (v ∷ vs))) (v ∷ vs)
latest_is dates v vs = first_is dates (greatest (map dates (v ∷ vs))) (v ∷ vs) (any_greatest dates v vs)

-- what holds of all holds of one among them
pub holds_among : (test : ℕ → Bool) (u : ℕ) (vs : List ℕ) → list_all test vs ≡ true → list_any (nat_eq u) vs ≡ true → test u ≡ true
holds_among test u [] all h = absurd (false≢true h)
holds_among test u (v ∷ vs) all h =
    let both = and_parts (test v) (list_all test vs) all in
    elim (or_cases (nat_eq u v) (list_any (nat_eq u) vs) h) [
      | inl e ↦ ap test (eqb-true u v e) ∙ both.0
      | inr k ↦ holds_among test u vs both.1 k
    ]

module _ (operators : ℕ) (ticks : ℕ → ℕ → Option ℕ) (vertices : List Vertex) where
  -- what is done after a round needs what was done before it
  pub needs_done : (rounds v : ℕ) → is_done vertices (suc rounds) v ≡ true → list_all (is_done vertices rounds) (needs_of vertices v) ≡ true
  needs_done rounds v h = by (slice_get vertices v) h
    where
      by : (o : Option Vertex) → with_vertex o false (λ x. list_all (is_done vertices rounds) (depends_on x)) ≡ true → list_all (is_done vertices rounds) (with_vertex o [] depends_on) ≡ true
      by None e = refl
      by (Some x) e = e

  end_same : (f g : ℕ → ℕ) (rounds v : ℕ) → ((u : ℕ) → is_done vertices rounds u ≡ true → f u ≡ g u) → is_done vertices (suc rounds) v
      ≡ true → end_after operators ticks vertices f v ≡ end_after operators ticks vertices g v
  end_same f g rounds v same h = let e = same_where f g (is_done vertices rounds) same (needs_of vertices v) (needs_done rounds v h) in omega arith

  -- once enough operations are followed, one more changes nothing
  no_longer : (k m v : ℕ) → k ≤ m → is_done vertices k v ≡ true → chain_within operators ticks vertices m v ≡ chain_within operators ticks vertices (suc m) v
  no_longer zero m v l h = absurd (false≢true h)
  no_longer (suc k) zero v l h = absurd (omega arith)
  no_longer (suc k) (suc m) v l h = end_same (chain_within operators ticks vertices m) (chain_within operators ticks vertices (suc m)) k v (λ u d. no_longer k m u (omega arith) d) h

  pub back_none : (n : ℕ) → back_within operators ticks vertices n None ≡ []
  back_none zero = refl
  back_none (suc n) = refl

  goes_to : (n u w : ℕ) (ws : List ℕ) → is_done vertices n u ≡ true → list_any (nat_eq u) (w ∷ ws) ≡ true → goes_on (w ∷ ws) (back_within operators ticks vertices n (Some u)) ≡ true
  goes_to zero u w ws done among = absurd (false≢true done)
  goes_to (suc n) u w ws done among = among

  -- the way back from an operation lasts as long as the chain to it
  pub record LastsFrom (n v : ℕ) : Type 0 where
    pub sum : sum_by (least operators ticks) (back_within operators ticks vertices n (Some v)) ≡ chain_to operators ticks vertices v
    pub back : goes_back operators ticks vertices (back_within operators ticks vertices n (Some v)) ≡ true

  -- the way back from the latest of some operations lasts as long as the longest chain to one of them
  pub record LastsOver (n : ℕ) (us : List ℕ) : Type 0 where
    pub sum : sum_by (least operators ticks) (back_within operators ticks vertices n (latest_of (chain_to operators ticks vertices) us)) ≡ greatest (map (chain_to operators ticks vertices) us)
    pub on : goes_on us (back_within operators ticks vertices n (latest_of (chain_to operators ticks vertices) us)) ≡ true
    pub back : goes_back operators ticks vertices (back_within operators ticks vertices n (latest_of (chain_to operators ticks vertices) us)) ≡ true

  over_lasts : (n : ℕ) (us : List ℕ) → list_all (is_done vertices n) us ≡ true → ((u : ℕ) → is_done vertices n u ≡ true → LastsFrom n u) → LastsOver n us
  over_lasts n [] done from =
      let none = back_none n in
      record {
        sum = ap (sum_by (least operators ticks)) none;
        on = ap (goes_on []) none;
        back = ap (goes_back operators ticks vertices) none;
      }
  over_lasts n (w ∷ ws) done from =
      let r = latest_is (chain_to operators ticks vertices) w ws in
      let there = holds_among (is_done vertices n) r.op (w ∷ ws) done r.among in
      let same = ap (back_within operators ticks vertices n) r.is in
      let t = from r.op there in
      record {
        sum = ap (sum_by (least operators ticks)) same ∙ t.sum ∙ r.dated;
        on = ap (goes_on (w ∷ ws)) same ∙ goes_to n r.op w ws there r.among;
        back = ap (goes_back operators ticks vertices) same ∙ t.back;
      }

  module _ (acyclic : is_acyclic vertices ≡ true) where
    from_lasts : (n v : ℕ) → is_done vertices n v ≡ true → LastsFrom n v
    from_lasts zero v h = absurd (false≢true h)
    from_lasts (suc n) v h =
        let us = needs_of vertices v in
        let rest = back_within operators ticks vertices n (latest_of (chain_to operators ticks vertices) us) in
        let t = over_lasts n us (needs_done n v h) (λ u e. from_lasts n u e) in
        let c = no_longer (length vertices) (length vertices) v (omega arith) (all_done vertices acyclic v (done_within vertices (suc n) v h)) in
        let s = sum_by-cons (least operators ticks) v rest in
        let z = t.sum in
        record { sum = omega arith; back = and_from (goes_on us rest) (goes_back operators ticks vertices rest) t.on t.back }

    pub all_lasts : LastsOver (length vertices) (all_operations (length vertices))
    all_lasts = over_lasts (length vertices) (all_operations (length vertices)) acyclic (λ u e. from_lasts (length vertices) u e)

pub chain_lasts_longest : ChainLastsLongest
chain_lasts_longest operators ticks vertices acyclic = let t = all_lasts operators ticks vertices acyclic in (t.sum, t.back)
