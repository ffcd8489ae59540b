-- How deep a definition is: more than all that it names, and at most 8.
use Rattle.std.proofs.Common.{
  ◌≡◌,
  ℕ,
  zero,
  suc,
  ◌+◌,
  ◌<◌,
  ◌≤◌,
  Bool,
  true,
  false,
  not,
  cond,
  List,
  [],
  ◌∷◌,
  map,
  length,
  get_or,
  Option,
  Some,
  None,
  refl,
  ap,
  sym,
  subst,
  ◌∙◌,
  arith,
  if◌then◌else◌,
  nat_lt,
}
use Rattle.std.specs.Prelude.{slice_get}
use Rattle.std.specs.List.{All, flat_map}
use Rattle.std.specs.Str.{bytes_eq}
use Rattle.std.proofs.lemmas.Bool.{ltb-false}
use Rattle.std.proofs.lemmas.List.{length-map}
use Rattle.std.proofs.lemmas.List.FromFn.{get_or-map-range_with_len, length-range_with_len}
use Rattle.std.proofs.lemmas.List.Quantifiers.{position-Some}
use Rattle.std.proofs.lemmas.Option.{slice_get_within}
use Rattle.syn_base.specs.declared.limits.LimitKind.TheVariants.{Depth}
use Rattle.syn_base.specs.Limits.{bound_of}
use Rattle.syn_base.specs.Bytes.{Bytes}
use Rattle.algo_rules.specs.declared.Def.{Def}
use Rattle.algo_rules.specs.ReferenceLinks.{from, depth, depths, numbers, first_recursive, reaches_itself}
use Rattle.algo_rules.specs.Answer.{AreInside}
use Rattle.algo_rules.proofs.Enough.{one_deeper}
use Rattle.algo_rules.specs.Links.{Mention, mentions, definition, unknown_by, unknown, links_of, recursive_by, recursive, too_deep_by, too_deep}
use Rattle.algo_laws.specs.Depths.{place_of, rank}
use Rattle.algo_laws.proofs.Firsts.{Each, none_each, each_flat, each_gives}
use Rattle.algo_laws.proofs.Standing.{definition_by}
use Rattle.syn_base.specs.Numbers.{greatest}
use Rattle.text_lines.specs.Refusals.{Limit}

-- The definition of a name stands at its place.
found : (ds : List Def) (w : Bytes) → definition ds w ≡ slice_get ds (place_of ds w)
found [] w = refl
found (d ∷ ds) w = by (bytes_eq w d.name) (found ds w)
  where
    by : (b : Bool) → definition ds w ≡ slice_get ds (place_of ds w) → (if b then Some d else definition ds w) ≡ slice_get (d ∷ ds) (cond (not b) (1 + place_of ds w) 0)
    by true rest = refl
    by false rest = let next : 1 + place_of ds w ≡ suc (place_of ds w) = omega arith in rw next rest

-- the definition of a name is there
abbrev pub IsKnown : List Def → Bytes → Type 0
IsKnown ds w = (d : Def) × (definition ds w ≡ Some d)

known_by : (m : Mention) (o : Option Def) → unknown_by m o ≡ None → (d : Def) × (o ≡ Some d)
known_by m None h = cc
known_by m (Some d) h = (d, refl)

all_known_in : (ds : List Def) → unknown ds ≡ None → Each (λ d. Each (λ m. IsKnown ds m.def) (mentions d)) ds
all_known_in ds h =
    each_flat (λ m. IsKnown ds m.def) mentions ds
    (each_gives (λ m. unknown_by m (definition ds m.def) ≡ None) (λ m. IsKnown ds m.def) (λ m k. known_by m (definition ds m.def) k) (flat_map mentions ds)
    (none_each (λ m. unknown_by m (definition ds m.def)) (flat_map mentions ds) h))

pub all_known : (ds : List Def) → unknown ds ≡ None → (w : Bytes) (d : Def) → definition ds w ≡ Some d → Each (λ m. IsKnown ds m.def) (mentions d)
all_known ds h w d e = definition_by (λ d. Each (λ m. IsKnown ds m.def) (mentions d)) ds w d (all_known_in ds h) e

pub place_below : (ds : List Def) (w : Bytes) (d : Def) → definition ds w ≡ Some d → place_of ds w < length ds
place_below ds w d e = slice_get_within ds (place_of ds w) d (sym (found ds w) ∙ e)

all_map : {A B : Type 0} (P : A → Type 0) (Q : B → Type 0) (f : A → B) → ((x : A) → P x → Q (f x)) → (xs : List A) → Each P xs → All Q (map f xs)
all_map P Q f g [] h k d lt = absurd (omega arith)
all_map P Q f g (x ∷ xs) h zero d lt = g x h.0
all_map P Q f g (x ∷ xs) h (suc k) d lt = all_map P Q f g xs h.1 k d (omega arith)

abbrev places : List Def → List Mention → List ℕ
places ds ms = map (λ m. place_of ds m.def) ms

links_inside : (ds : List Def) → unknown ds ≡ None → AreInside (links_of ds)
links_inside ds h =
    let n : length ds ≡ length (links_of ds) = sym (length-map ds (λ d. places ds (mentions d))) in
    subst (λ (n : ℕ). All (All (λ b. b < n)) (links_of ds)) n
    (all_map (λ d. Each (λ m. IsKnown ds m.def) (mentions d)) (All (λ b. b < length ds)) (λ d. places ds (mentions d))
    (λ d k. all_map (λ m. IsKnown ds m.def) (λ b. b < length ds) (λ m. place_of ds m.def) (λ m j. place_below ds m.def j.0 j.1) (mentions d) k) ds (all_known_in ds h))

no_recursion : (ds : List Def) → recursive ds ≡ None → first_recursive (links_of ds) ≡ None
no_recursion ds h = by (first_recursive (links_of ds)) refl h
  where
    absent : (xs : List Def) (k : ℕ) → k < length xs → slice_get xs k ≡ None → ⊥
    absent [] k lt e = absurd (omega arith)
    absent (x ∷ xs) zero lt e = cc
    absent (x ∷ xs) (suc k) lt e = absent xs k (omega arith) e

    some : (i : ℕ) (o : Option Def) → slice_get ds i ≡ o → i < length ds → recursive_by ds (Some i) ≡ None → ⊥
    some i None e lt k = absent ds i lt e
    some i (Some d) e lt k = cc

    by : (o : Option ℕ) → first_recursive (links_of ds) ≡ o → recursive_by ds o ≡ None → o ≡ None
    by None e k = refl
    by (Some i) e k =
        let at = position-Some (reaches_itself (links_of ds)) (numbers (links_of ds)) i 0 e in
        absurd (some i (slice_get ds i) refl (omega (arith, at.0, length-range_with_len 0 (length (links_of ds)), length-map ds (λ d. places ds (mentions d)))) k)

pub map_at : {A B : Type 0} (f : A → B) (xs : List A) (i : ℕ) (x : A) (y : B) → slice_get xs i ≡ Some x → get_or (map f xs) i y ≡ f x
map_at f [] i x y h = cc
map_at f (z ∷ xs) zero x y h = let same : z ≡ x = cc in ap f same
map_at f (z ∷ xs) (suc i) x y h = map_at f xs i x y h

below_all : (ds : List Def) (f : ℕ → ℕ) (n : ℕ) (ms : List Mention) → greatest (map f (places ds ms)) < n → Each (λ m. f (place_of ds m.def) < n) ms
below_all ds f n [] h = tt
below_all ds f n (m ∷ ms) h = (omega (arith, h), below_all ds f n ms (omega (arith, h)))

pub all_lower : (ds : List Def) → unknown ds ≡ None → recursive ds ≡ None → (w : Bytes) (d : Def) → definition ds w ≡ Some d → Each (λ m. rank ds m.def < rank ds w) (mentions d)
all_lower ds h k w d e =
    let n : length (links_of ds) ≡ length ds = length-map ds (λ d. places ds (mentions d)) in
    let deeper = one_deeper (links_of ds) (links_inside ds h) (no_recursion ds k) (place_of ds w) (omega (arith, n, place_below ds w d e)) in
    let at : from (links_of ds) (place_of ds w) ≡ places ds (mentions d) = map_at (λ d. places ds (mentions d)) ds (place_of ds w) d [] (sym (found ds w) ∙ e) in
    let is : rank ds w ≡ suc (greatest (map (depth (links_of ds)) (places ds (mentions d)))) = subst (λ (ks : List ℕ). rank ds w ≡ suc (greatest (map (depth (links_of ds)) ks))) at deeper in
    below_all ds (depth (links_of ds)) (rank ds w) (mentions d) (omega (arith, is))

pub positive : (ds : List Def) → unknown ds ≡ None → recursive ds ≡ None → (w : Bytes) (d : Def) → definition ds w ≡ Some d → 0 < rank ds w
positive ds h k w d e =
    let n : length (links_of ds) ≡ length ds = length-map ds (λ d. places ds (mentions d)) in
    let deeper = one_deeper (links_of ds) (links_inside ds h) (no_recursion ds k) (place_of ds w) (omega (arith, n, place_below ds w d e)) in
    omega (arith, deeper)

few_by : (ns : List ℕ) → too_deep_by ns ≡ None → (k : ℕ) → get_or ns k 0 ≤ 8
few_by [] h k = omega arith
few_by (n ∷ ns) h k = by (λ j i. few_by ns j i) (nat_lt 8 n) refl h k
  where
    by : (too_deep_by ns ≡ None → (i : ℕ) → get_or ns i 0 ≤ 8) → (b : Bool) → nat_lt 8 n ≡ b
        → (if b then Some (Limit (record { which = Depth; count = n; bound = bound_of Depth })) else too_deep_by ns) ≡ None → (k : ℕ) → get_or (n ∷ ns) k 0 ≤ 8
    by rest true e j i = cc
    by rest false e j zero = omega (arith, ltb-false 8 n e)
    by rest false e j (suc i) = rest j i

pub rank_at : (ds : List Def) (w : Bytes) (d : Def) → definition ds w ≡ Some d → get_or (depths (links_of ds)) (place_of ds w) 0 ≡ rank ds w
rank_at ds w d e =
    let n : length (links_of ds) ≡ length ds = length-map ds (λ d. places ds (mentions d)) in
    get_or-map-range_with_len (depth (links_of ds)) 0 (length (links_of ds)) (place_of ds w) (place_of ds w) 0 (omega (arith, n, place_below ds w d e)) (omega arith)

pub not_deep : (ds : List Def) → too_deep ds ≡ None → (w : Bytes) (d : Def) → definition ds w ≡ Some d → rank ds w ≤ 8
not_deep ds h w d e = subst (λ (n : ℕ). n ≤ 8) (rank_at ds w d e) (few_by (depths (links_of ds)) h (place_of ds w))
