-- Distinct sources, found by marks.
use Rattle.std.proofs.Common.{◌≡◌, ℕ, zero, suc, ◌+◌, ◌*◌, ◌<◌, ◌≤◌, Bool, true, false, cond, ◌||◌, ◌==◌, nat_eq, List, [], ◌∷◌, ◌++◌, length, refl, sym, ap, arith, ◌∙◌, length-append, append_assoc}
use Rattle.std.specs.Prelude.{slice_index_or, slice_set}
use Rattle.std.specs.List.{list_any}
use Rattle.std.specs.Cmp.Derive.{both_true}
use Rattle.std.proofs.lemmas.Bool.{false≢true, and_parts, eqb-true, eq-eqb, ne_eqb}
use Rattle.std.proofs.lemmas.List.{get_or-set_same, get_or-set_other, length-set}
use Rattle.std.proofs.lemmas.List.Folds.{list_any-append}
use Rattle.schedule.specs.declared.Source.{Source}
use Rattle.schedule.specs.Graph.{same_source}
use Rattle.comm_routing.specs.Walk.{distinct_after}
use Rattle.comm_routing.specs.Start.{IsThere, place_of, IsMarked, tally, with_source}

-- what was seen counts as a set
pub distinct_same : (seen seen' xs : List Source) → ((y : Source) → list_any (same_source y) seen ≡ list_any (same_source y) seen') → distinct_after seen xs ≡ distinct_after seen' xs
distinct_same seen seen' [] h = refl
distinct_same seen seen' (x ∷ xs) h =
    (λ i. cond (h x i) (distinct_after seen xs) (x ∷ distinct_after (x ∷ seen) xs))
    ∙ (λ i. cond (list_any (same_source x) seen') (distinct_same seen seen' xs h i) (x ∷ distinct_same (x ∷ seen) (x ∷ seen') xs (λ y. ap (λ (b : Bool). same_source y x || b) (h y)) i))

or_swap : (a b : Bool) → (a || b) ≡ (b || a)
or_swap true true = refl
or_swap true false = refl
or_swap false true = refl
or_swap false false = refl

or_false : (b : Bool) → (b || false) ≡ b
or_false true = refl
or_false false = refl

-- one more source, seen or not
pub one_more : (out : List Source) (x : Source) (rest : List Source) → with_source out x ++ distinct_after (with_source out x) rest ≡ out ++ distinct_after out (x ∷ rest)
one_more out x rest = by (list_any (same_source x) out)
  where
    last : (y : Source) → list_any (same_source y) (out ++ x ∷ []) ≡ list_any (same_source y) (x ∷ out)
    last y = list_any-append (same_source y) out (x ∷ []) ∙ ap (λ (b : Bool). list_any (same_source y) out || b) (or_false (same_source y x)) ∙ or_swap (list_any (same_source y) out) (same_source y x)

    by : (b : Bool) → cond b out (out ++ x ∷ []) ++ distinct_after (cond b out (out ++ x ∷ [])) rest ≡ out ++ cond b (distinct_after out rest) (x ∷ distinct_after (x ∷ out) rest)
    by true = refl
    by false = ap (λ (l : List Source). (out ++ x ∷ []) ++ l) (distinct_same (out ++ x ∷ []) (x ∷ out) rest last) ∙ append_assoc out (x ∷ []) (distinct_after (x ∷ out) rest)

tally_step : (mark : ℕ) (marks : List ℕ) (k : ℕ) → k < length marks → (slice_index_or marks k 0 == mark) ≡ false → tally mark (slice_set marks k mark) ≡ 1 + tally mark marks
tally_step mark [] k l e = absurd (omega arith)
tally_step mark (m ∷ marks) zero l e = (λ i. cond (eq-eqb mark mark refl i) (1 + tally mark marks) (tally mark marks)) ∙ (λ i. 1 + cond (sym e i) (1 + tally mark marks) (tally mark marks))
tally_step mark (m ∷ marks) (suc k) l e = by (m == mark) (tally_step mark marks k (omega arith) e)
  where
    by : (b : Bool) → tally mark (slice_set marks k mark) ≡ 1 + tally mark marks
        → cond b (1 + tally mark (slice_set marks k mark)) (tally mark (slice_set marks k mark)) ≡ 1 + cond b (1 + tally mark marks) (tally mark marks)
    by true h = ap (λ (n : ℕ). 1 + n) h
    by false h = h

tally_within : (mark : ℕ) (marks : List ℕ) → tally mark marks ≤ length marks
tally_within mark [] = omega arith
tally_within mark (m ∷ marks) = by (m == mark) (tally_within mark marks)
  where
    by : (b : Bool) → tally mark marks ≤ length marks → cond b (1 + tally mark marks) (tally mark marks) ≤ length (m ∷ marks)
    by true h = omega arith
    by false h = omega arith

tally_none : (mark : ℕ) (marks : List ℕ) → ((i : ℕ) → slice_index_or marks i 0 < mark) → tally mark marks ≡ 0
tally_none mark [] h = refl
tally_none mark (m ∷ marks) h =
    (λ i. cond (ne_eqb m mark (λ e. let z = h 0 in omega arith) i) (1 + tally mark marks) (tally mark marks)) ∙ tally_none mark marks (λ i. h (suc i))

source_is : (x y : Source) → same_source x y ≡ true → x ≡ y
source_is x y h =
    let both = and_parts (nat_eq x.vertex y.vertex) (nat_eq x.port y.port) h in
    let v = eqb-true x.vertex y.vertex both.0 in
    let k = eqb-true x.port y.port both.1 in
    λ i. record { vertex = v i; port = k i }

module _ (operations mark : ℕ) where
  pub place_within : (x : Source) → IsThere operations x → place_of x < operations * 64
  place_within x h =
      let v = h.vertex in
      let p = h.port in
      let m : suc x.vertex * 64 ≤ operations * 64 = omega arith in
      omega arith

  set_low : (marks : List ℕ) (k : ℕ) → ((i : ℕ) → slice_index_or marks i 0 ≤ mark) → (i : ℕ) → slice_index_or (slice_set marks k mark) i 0 ≤ mark
  set_low [] k h i = h i
  set_low (m ∷ marks) zero h zero = omega arith
  set_low (m ∷ marks) zero h (suc i) = h (suc i)
  set_low (m ∷ marks) (suc k) h zero = h zero
  set_low (m ∷ marks) (suc k) h (suc i) = set_low marks k (λ j. h (suc j)) i

  -- a source that is marked was seen
  pub seen : (marks : List ℕ) (out : List Source) → IsMarked operations mark marks out → (x : Source) → IsThere operations x → slice_index_or marks (place_of x) 0 ≡ mark → with_source out x ≡ out
  seen marks out h x there e = ap (λ (b : Bool). cond b out (out ++ x ∷ [])) (sym (h.told x there) ∙ eq-eqb (slice_index_or marks (place_of x) 0) mark e)

  -- one that is not marked is put last, and marked
  pub noted : (marks : List ℕ) (out : List Source) → IsMarked operations mark marks out → (x : Source) → IsThere operations x → (slice_index_or marks (place_of x) 0 ≡ mark → ⊥)
      → (with_source out x ≡ out ++ x ∷ []) × IsMarked operations mark (slice_set marks (place_of x) mark) (out ++ x ∷ [])
  noted marks out h x there ne =
      let size = h.size in
      let within = place_within x there in
      let new = ne_eqb (slice_index_or marks (place_of x) 0) mark ne in (
        ap (λ (b : Bool). cond b out (out ++ x ∷ [])) (sym (h.told x there) ∙ new),
        record {
          size = length-set marks (place_of x) mark ∙ size;
          low = set_low marks (place_of x) h.low;
          told = λ y t. by y t (same_source y x) refl (omega arith);
          count = tally_step mark marks (place_of x) (omega arith) new ∙ (let c = h.count in let l = length-append out (x ∷ []) in omega arith);
        },
      )
    where
      last : (y : Source) → list_any (same_source y) (out ++ x ∷ []) ≡ (list_any (same_source y) out || same_source y x)
      last y = list_any-append (same_source y) out (x ∷ []) ∙ ap (λ (b : Bool). list_any (same_source y) out || b) (or_false (same_source y x))

      by : (y : Source) → IsThere operations y → (b : Bool) → same_source y x ≡ b → place_of x < length marks
          → (slice_index_or (slice_set marks (place_of x) mark) (place_of y) 0 == mark) ≡ list_any (same_source y) (out ++ x ∷ [])
      by y t true e l =
          let same = source_is y x e in
          ap (λ (z : Source). slice_index_or (slice_set marks (place_of x) mark) (place_of z) 0 == mark) same
          ∙ ap (λ (n : ℕ). n == mark) (get_or-set_same marks (place_of x) mark 0 l) ∙ eq-eqb mark mark refl
          ∙ sym (last y ∙ (λ i. list_any (same_source y) out || e i) ∙ or_true (list_any (same_source y) out))
        where
          or_true : (c : Bool) → (c || true) ≡ true
          or_true true = refl
          or_true false = refl
      by y t false e l =
          ap (λ (n : ℕ). n == mark) (get_or-set_other marks (place_of x) (place_of y) mark 0 (λ q. apart y x t there e q))
          ∙ h.told y t ∙ sym (last y ∙ (λ i. list_any (same_source y) out || e i) ∙ or_false (list_any (same_source y) out))
        where
          apart : (y x : Source) → IsThere operations y → IsThere operations x → same_source y x ≡ false → place_of y ≡ place_of x → ⊥
          apart y x a b e q =
              let p = a.port in
              let r = b.port in
              let v : y.vertex ≡ x.vertex = omega arith in
              let k : y.port ≡ x.port = omega arith in
              false≢true (sym e ∙ both_true (eq-eqb y.vertex x.vertex v) (eq-eqb y.port x.port k))

  -- none is marked at the start
  pub none_marked : (marks : List ℕ) → length marks ≡ operations * 64 → ((i : ℕ) → slice_index_or marks i 0 < mark) → IsMarked operations mark marks []
  none_marked marks size h = record {
    size = size;
    low = λ i. (let z = h i in omega arith);
    told = λ x t. ne_eqb (slice_index_or marks (place_of x) 0) mark (λ e. let z = h (place_of x) in omega arith);
    count = tally_none mark marks h;
  }

  -- there are at most as many as places
  pub few : (marks : List ℕ) (out : List Source) → IsMarked operations mark marks out → operations ≤ 2048 → length out ≤ 131072
  few marks out h l = let t = tally_within mark marks in let s = h.size in let c = h.count in omega arith
