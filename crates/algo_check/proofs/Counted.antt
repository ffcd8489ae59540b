-- One round of counts more.
use Rattle.std.proofs.Common.{◌≡◌, ℕ, zero, suc, ◌+◌, ◌*◌, ◌<◌, ◌≤◌, List, [], ◌∷◌, ◌++◌, length, get_or, map, codes, Some, None, refl, ap, ap₂, sym, subst, ◌∙◌, arith}
use Rattle.std.specs.Prelude.{slice_get, slice_index, replicate}
use Rattle.std.specs.List.{All, position_or_len, sum_by}
use Rattle.std.specs.Str.{bytes_eq}
use Rattle.std.proofs.lemmas.List.{get_or_default, length-append}
use Rattle.std.proofs.lemmas.List.Sums.{sum_by-append, sum_by-cons, sum_by-le}
use Rattle.std.proofs.lemmas.Nat.{mul-le}
use Rattle.std.proofs.lemmas.Option.{get_or_from_slice_get, slice_get_past}
use Rattle.syn_base.specs.Bytes.{Bytes}
use Rattle.algo_rules.specs.declared.Def.{Def}
use Rattle.algo_rules.specs.declared.Body.{Body}
use Rattle.algo_rules.specs.declared.Body.TheVariants.{Sensor, Actuator, Constant, Delay, Function, Graph, Switch, Repeat}
use Rattle.algo_rules.specs.declared.Frontier.{Frontier}
use Rattle.algo_rules.specs.declared.Frontier.TheVariants.{Fork, Diffuse, Iterate, Join}
use Rattle.algo_rules.specs.declared.FrontierLine.{FrontierLine}
use Rattle.algo_rules.specs.Links.{definition, unknown}
use Rattle.algo_rules.specs.Resolved.{count_by, count_in, count_within, operations, vertices_of_line}
use Rattle.algo_rules.specs.WellRead.{IsWellRead}
use Rattle.algo_check.specs.Linked.{AreLinked, IsLinked, named}
use Rattle.algo_check.proofs.Found.{found}
use Rattle.algo_check.proofs.Leading.{all_lead}
use Rattle.algo_check.specs.Counts.{AreCounts, count_here, next_from, row, count_bound}
use Rattle.algo_check.proofs.Inside.{as_many, linked_below, there}

pub linked_count : (ds : List Def) (ws : List Bytes) (ps : List ℕ) → AreLinked ds ws ps → length ps ≡ length ws
linked_count ds [] [] h = refl
linked_count ds [] (p ∷ ps) h = absurd h
linked_count ds (w ∷ ws) [] h = absurd h
linked_count ds (w ∷ ws) (p ∷ ps) h = ap suc (linked_count ds ws ps h.1)

pub named_few : (b : Body) → IsWellRead b → length (named b) ≤ 65
named_few (Sensor n) h = omega arith
named_few (Actuator n) h = omega arith
named_few (Constant values) h = omega arith
named_few (Delay depth values) h = omega arith
named_few (Function ins outs) h = omega arith
named_few (Graph ins outs references edges) h = omega (arith, as_many (λ r. r.def) references, h.few)
named_few (Switch on ins outs cases otherwise last) h = omega (arith, length-append (map (λ c. c.def) cases) (otherwise ∷ []), as_many (λ c. c.def) cases, h.few)
named_few (Repeat copies def lines) h = omega arith

pub sum_mapped : {A : Type 0} (g : Bytes → ℕ) (f : A → Bytes) (xs : List A) → sum_by g (map f xs) ≡ sum_by (λ x. g (f x)) xs
sum_mapped g f [] = refl
sum_mapped g f (x ∷ xs) = omega (arith, sum_by-cons g (f x) (map f xs), sum_by-cons (λ y. g (f y)) x xs, sum_mapped g f xs)

one_fork : (f : Frontier) (n : ℕ) → vertices_of_line (record { frontier = f; line = n }) ≤ 1
one_fork (Fork p x) n = omega arith
one_fork (Diffuse p x) n = omega arith
one_fork (Iterate p x y q) n = omega arith
one_fork (Join y q) n = omega arith

forks_few : (ls : List FrontierLine) → sum_by vertices_of_line ls ≤ length ls
forks_few [] = omega arith
forks_few (l ∷ ls) = omega (arith, sum_by-cons vertices_of_line l ls, forks_few ls, one_fork l.frontier l.line)

some_most : (n : ℕ) → 1 ≤ count_bound n
some_most zero = omega arith
some_most (suc n) = omega (arith, some_most n)

-- seven rounds
pub most_upto : (n : ℕ) → n < 8 → count_bound n ≤ 12800000000000000
most_upto zero h = omega arith
most_upto (suc zero) h = omega arith
most_upto (suc (suc zero)) h = omega arith
most_upto (suc (suc (suc zero))) h = omega arith
most_upto (suc (suc (suc (suc zero)))) h = omega arith
most_upto (suc (suc (suc (suc (suc zero))))) h = omega arith
most_upto (suc (suc (suc (suc (suc (suc zero)))))) h = omega arith
most_upto (suc (suc (suc (suc (suc (suc (suc zero))))))) h = omega arith
most_upto (suc (suc (suc (suc (suc (suc (suc (suc n)))))))) h = absurd (omega (arith, h))

next_count : (ds : List Def) (counts : List ℕ) (j : ℕ) (xs : List Def) → length (next_from ds counts j xs) ≡ length xs
next_count ds counts j [] = refl
next_count ds counts j (x ∷ xs) = ap suc (next_count ds counts (suc j) xs)

next_at : (ds : List Def) (counts : List ℕ) (xs : List Def) (j k : ℕ) (d : Def) → slice_get xs k ≡ Some d
    → slice_index (next_from ds counts j xs) k ≡ count_here (sum_by (slice_index counts) (row ds (j + k))) d.body
next_at ds counts [] j k d h = cc
next_at ds counts (x ∷ xs) j zero d h =
    let same : x ≡ d = cc in
    let here : j ≡ j + zero = omega arith in
    ap₂ (λ (i : ℕ) (e : Def). count_here (sum_by (slice_index counts) (row ds i)) e.body) here same
next_at ds counts (x ∷ xs) j (suc k) d h =
    let here : suc j + k ≡ j + suc k = omega arith in
    next_at ds counts xs (suc j) k d h ∙ ap (λ (i : ℕ). count_here (sum_by (slice_index counts) (row ds i)) d.body) here

module _ (ds : List Def) (n : ℕ) (counts : List ℕ) (a : AreCounts ds n counts) where
  sums : (ws : List Bytes) (ps : List ℕ) → AreLinked ds ws ps → sum_by (slice_index counts) ps ≡ sum_by (count_within ds n) ws
  sums [] [] h = refl
  sums [] (p ∷ ps) h = absurd h
  sums (w ∷ ws) [] h = absurd h
  sums (w ∷ ws) (p ∷ ps) h =
      sum_by-cons (slice_index counts) p ps ∙ ap₂ (λ (x y : ℕ). x + y) (a.within p w h.0) (sums ws ps h.1) ∙ sym (sum_by-cons (count_within ds n) w ws)

  abbrev of : Bytes → ℕ
  of w = count_within ds n w

  body_is : (b : Body) (ps : List ℕ) → AreLinked ds (named b) ps → count_here (sum_by (slice_index counts) ps) b ≡ count_by of b
  body_is (Sensor m) ps h = refl
  body_is (Actuator m) ps h = refl
  body_is (Constant values) ps h = refl
  body_is (Delay depth values) ps h = refl
  body_is (Function ins outs) ps h = refl
  body_is (Graph ins outs references edges) ps h = sums _ ps h ∙ sum_mapped of (λ r. r.def) references
  body_is (Switch on ins outs cases otherwise last) ps h =
      let all : sum_by (slice_index counts) ps ≡ sum_by (λ c. of c.def) cases + of otherwise
      = omega (
        arith,
        sums (map (λ c. c.def) cases ++ otherwise ∷ []) ps h,
        sum_by-append of (map (λ c. c.def) cases) (otherwise ∷ []),
        sum_mapped of (λ c. c.def) cases,
        sum_by-cons of otherwise [],
      ) in
      ap (λ (m : ℕ). m + length outs) all
  body_is (Repeat copies def lines) ps h =
      let all : sum_by (slice_index counts) ps ≡ of def = omega (arith, sums (def ∷ []) ps h, sum_by-cons of def []) in
      ap (λ (m : ℕ). copies * m + sum_by vertices_of_line lines) all

  sum_most : (ws : List Bytes) (ps : List ℕ) → AreLinked ds ws ps → sum_by (slice_index counts) ps ≤ length ws * count_bound n
  sum_most ws ps h = subst (λ (m : ℕ). sum_by (slice_index counts) ps ≤ m * count_bound n) (linked_count ds ws ps h)
      (sum_by-le (slice_index counts) (count_bound n) ps (λ k d low. a.bounded (get_or ps k d) 0 (omega (arith, linked_below ds ws ps h k d low, a.rows))))

  times : (x y : ℕ) → x ≤ y → x * count_bound n ≤ y * count_bound n
  times x y h = mul-le x (count_bound n) y (count_bound n) h (omega arith)

  body_most : (b : Body) (ps : List ℕ) → AreLinked ds (named b) ps → IsWellRead b → count_here (sum_by (slice_index counts) ps) b ≤ 200 * count_bound n
  body_most (Sensor m) ps h r = omega (arith, some_most n)
  body_most (Actuator m) ps h r = omega (arith, some_most n)
  body_most (Constant values) ps h r = omega (arith, some_most n)
  body_most (Delay depth values) ps h r = omega (arith, some_most n, r.most)
  body_most (Function ins outs) ps h r = omega (arith, some_most n)
  body_most (Graph ins outs references edges) ps h r =
      omega (arith, sum_most _ ps h, times (length (map (λ x. x.def) references)) 65 (named_few (Graph ins outs references edges) r), some_most n)
  body_most (Switch on ins outs cases otherwise last) ps h r =
      omega (arith, sum_most _ ps h, times (length (map (λ c. c.def) cases ++ otherwise ∷ [])) 65 (named_few (Switch on ins outs cases otherwise last) r), some_most n, r.outputs.few)
  body_most (Repeat copies def lines) ps h r =
      let one : sum_by (slice_index counts) ps ≤ count_bound n = omega (arith, sum_most (def ∷ []) ps h) in
      omega (arith, mul-le copies (sum_by (slice_index counts) ps) 64 (count_bound n) r.most one, forks_few lines, r.few, some_most n)

  module _ (none : unknown ds ≡ None) (read : All (λ d. IsWellRead d.body) ds) where
    next_bounded : (k : ℕ) (d : Def) → slice_get ds k ≡ Some d → k < length ds → slice_index (next_from ds counts 0 ds) k ≤ 200 * count_bound n
    next_bounded k d at low =
        let here : zero + k ≡ k = omega arith in
        let well : IsWellRead d.body = subst (λ (e : Def). IsWellRead e.body) (get_or_from_slice_get ds k d d at) (read k d low) in
        omega (arith, next_at ds counts ds 0 k d at, ap (λ (i : ℕ). count_here (sum_by (slice_index counts) (row ds i)) d.body) here, body_most d.body (row ds k) (all_lead ds k d none at) well)

    -- one round more
    pub next_round : AreCounts ds (suc n) (next_from ds counts 0 ds)
    next_round = record { rows = next_count ds counts 0 ds; bounded = bounded; within = within }
      where
        bounded : All (λ m. m ≤ 200 * count_bound n) (next_from ds counts 0 ds)
        bounded k e low =
            let inside : k < length ds = omega (arith, low, next_count ds counts 0 ds) in
            let d = there ds k inside in
            omega (arith, get_or_default (next_from ds counts 0 ds) k e 0 low, next_bounded k d.0 d.1 inside)

        within : (k : ℕ) (w : Bytes) → IsLinked ds w k → slice_index (next_from ds counts 0 ds) k ≡ count_within ds (suc n) w
        within k w h =
            let d = there ds k h.below in
            let here : zero + k ≡ k = omega arith in
            next_at ds counts ds 0 k d.0 d.1
            ∙ ap (λ (i : ℕ). count_here (sum_by (slice_index counts) (row ds i)) d.0.body) here
            ∙ body_is d.0.body (row ds k) (all_lead ds k d.0 none d.1)
            ∙ ap (count_in (count_within ds n)) (sym (h.found ∙ d.1))

zeros : (n k : ℕ) → slice_index (replicate n 0) k ≡ 0
zeros zero k = refl
zeros (suc n) zero = refl
zeros (suc n) (suc k) = zeros n k

zeros_count : (n : ℕ) → length {A = ℕ} (replicate n 0) ≡ n
zeros_count zero = refl
zeros_count (suc n) = ap suc (zeros_count n)

pub no_rounds : (ds : List Def) → AreCounts ds 0 (replicate (length ds) 0)
no_rounds ds = record {
  rows = zeros_count (length ds);
  bounded = λ k d low. omega (arith, get_or_default (replicate (length ds) 0) k d 0 low, zeros (length ds) k);
  within = λ k w h. zeros (length ds) k;
}

-- the count of `main`, at its place if it has one
module _ (ds : List Def) (counts : List ℕ) (a : AreCounts ds 8 counts) (p : ℕ) (is : p ≡ position_or_len (λ d. bytes_eq (codes "main") d.name) ds) where
  main_found : definition ds (codes "main") ≡ slice_get ds p
  main_found = found ds (codes "main") ∙ ap (slice_get ds) (sym is)

  pub main_at : p < length counts → slice_index counts p ≡ operations ds
  main_at low = a.within p (codes "main") (record { below = omega (arith, low, a.rows); found = main_found })

  pub no_main_at : length counts ≤ p → 0 ≡ operations ds
  no_main_at past = sym (ap (count_in (count_within ds 7)) (main_found ∙ slice_get_past ds p (omega (arith, past, a.rows))))
