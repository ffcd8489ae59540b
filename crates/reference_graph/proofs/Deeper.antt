-- Depths followed in rounds.
use Rattle.std.proofs.Common.{◌≡◌, ℕ, zero, suc, ◌+◌, ◌<◌, ◌≤◌, List, [], ◌∷◌, length, map, get_or, arith, refl, sym, ap, subst, ◌∙◌, replicate}
use Rattle.std.specs.Prelude.{slice_index}
use Rattle.std.specs.List.{All, range_with_len}
use Rattle.std.proofs.lemmas.List.Elements.{All-contains, All-head, All-tail}
use Rattle.std.proofs.lemmas.List.FromFn.{fill_by_all, get_or-map-range_with_len, length-map-range_with_len}
use Rattle.reference_graph.specs.Links.{Links, from, depth_within, numbers}
use Rattle.reference_graph.specs.Answer.{AreInside}
use Rattle.reference_graph.specs.Settled.{depth_by}
use Rattle.reference_graph.proofs.SettledDepths.{same_greatest, greatest_below}
use Rattle.syn_base.specs.Numbers.{greatest}

-- How deep references go below each vertex, followed so often.
abbrev pub depths_within : Links → ℕ → List ℕ
depths_within links n = map (depth_within links n) (numbers links)

-- one round more
pub deeper_within : (g : Links) → AreInside g → (n a : ℕ) → a < length g → depth_by g (depths_within g n) a ≡ depth_within g (n + 1) a
deeper_within g inside n a l =
    let row : All (λ b. b < length g) (from g a) = inside a [] l in
    let same : greatest (map (slice_index (depths_within g n)) (from g a)) ≡ greatest (map (depth_within g n) (from g a)) =
    same_greatest (slice_index (depths_within g n)) (depth_within g n) (from g a)
    (λ b r. get_or-map-range_with_len (depth_within g n) 0 (length g) b b 0 (All-contains (λ x. x < length g) (from g a) b row r) (omega arith)) in
    let next : n + 1 ≡ suc n = omega arith in
    let own : depth_by g (depths_within g n) a ≡ depth_within g (suc n) a = omega (arith, same) in
    subst (λ (m : ℕ). depth_by g (depths_within g n) a ≡ depth_within g m a) (sym next) own

map_same : {X : Type 0} (f h : ℕ → X) (n : ℕ) → ((k : ℕ) → k < n → f k ≡ h k) → map f (range_with_len 0 n) ≡ map h (range_with_len 0 n)
map_same f h zero same = fill_by_all h (map f (range_with_len 0 zero)) 0 (f 0) (length-map-range_with_len f 0 zero) (λ k l. absurd (omega arith))
map_same f h (suc n) same =
    fill_by_all h (map f (range_with_len 0 (suc n))) (suc n) (f 0) (length-map-range_with_len f 0 (suc n))
    (λ k l. get_or-map-range_with_len f 0 (suc n) k k (f 0) l (omega arith) ∙ same k l)

pub one_round : (g : Links) → AreInside g → (n : ℕ) → map (depth_by g (depths_within g n)) (numbers g) ≡ depths_within g (n + 1)
one_round g inside n = map_same (depth_by g (depths_within g n)) (depth_within g (n + 1)) (length g) (λ a l. deeper_within g inside n a l)

no_depth : (n a : ℕ) → get_or (replicate {A = ℕ} n 0) a 0 ≡ 0
no_depth zero a = refl
no_depth (suc n) zero = refl
no_depth (suc n) (suc a) = no_depth n a

len_replicate : (n : ℕ) → length (replicate {A = ℕ} n 0) ≡ n
len_replicate zero = refl
len_replicate (suc n) = ap suc (len_replicate n)

pub no_round : (g : Links) (n : ℕ) → n ≡ length g → replicate n 0 ≡ depths_within g 0
no_round g n e = fill_by_all (depth_within g 0) (replicate n 0) (length g) 0 (len_replicate n ∙ e) (λ k l. no_depth n k)

-- no depth is above the number of rounds
within_bound : (g : Links) (n a : ℕ) → depth_within g n a ≤ n
within_bound g zero a = omega arith
within_bound g (suc n) a = let most = greatest_below (depth_within g n) n (from g a) (within_bound g n) in omega (arith, most)

rows_bound : (m : ℕ) (ds : List ℕ) → All (λ d. d ≤ m) ds → (b : ℕ) → get_or ds b 0 ≤ m
rows_bound m [] all b = omega arith
rows_bound m (x ∷ xs) all zero = All-head (λ d. d ≤ m) x xs all
rows_bound m (x ∷ xs) all (suc b) = rows_bound m xs (All-tail (λ d. d ≤ m) x xs all) b

pub rounds_bound : (g : Links) (n b : ℕ) → get_or (depths_within g n) b 0 ≤ n
rounds_bound g n = rows_bound n (depths_within g n)
    (λ k d l.
    let len = length-map-range_with_len (depth_within g n) 0 (length g) in
    let same : get_or (depths_within g n) k d ≡ depth_within g n k = get_or-map-range_with_len (depth_within g n) 0 (length g) k k d (omega (arith, len, l)) (omega arith) in
    omega (arith, same, within_bound g n k))

pub rounds_length : (g : Links) (n : ℕ) → length (depths_within g n) ≡ length g
rounds_length g n = length-map-range_with_len (depth_within g n) 0 (length g)
