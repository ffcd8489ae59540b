-- Flags that agree with the operators reached so far agree with them after one hop more.
use Rattle.std.proofs.Common.{◌≡◌, ℕ, zero, suc, ◌+◌, ◌<◌, ◌≤◌, Bool, false, ◌&&◌, ◌||◌, List, [], ◌∷◌, length, take, refl, ap, subst, arith, add-zero, ◌∙◌}
use Rattle.std.specs.Prelude.{All, slice_index_or}
use Rattle.std.specs.List.{list_all, list_any, range_with_len}
use Rattle.archi_graph.specs.declared.medium.Medium.{Medium}
use Rattle.archi_graph.specs.Archi.{reached_within, stands_at, are_joined}
use Rattle.archi_graph.specs.Routes.{AreOperators}

list_any_same : {X : Type 0} (f g : X → Bool) (xs : List X) → All (λ x. f x ≡ g x) xs → list_any f xs ≡ list_any g xs
list_any_same f g [] h = refl
list_any_same f g (x ∷ xs) h = let e = h 0 x (omega arith) in let es = list_any_same f g xs (λ k d l. h (suc k) d (omega arith)) in
    λ i. e i || es i

-- by one hop more
abbrev pub further : List Medium → (ℕ → Bool) → ℕ → Bool
further media f o = f o || list_any (λ m. stands_at m o && list_any f m.stands) media

pub further_same : (bound : ℕ) (media : List Medium) (f g : ℕ → Bool) → AreOperators bound media → ((o : ℕ) → o < bound → f o ≡ g o)
    → (o : ℕ) → o < bound → further media f o ≡ further media g o
further_same bound media f g known same o l =
    let here = same o l in
    let there = list_any_same (λ m. stands_at m o && list_any f m.stands) (λ m. stands_at m o && list_any g m.stands) media (λ k m b.
    let s = list_any_same f g (slice_index_or media k m).stands (λ j p c. same _ (known k m b j p c)) in
    ap (λ x. stands_at (slice_index_or media k m) o && x) s) in
    λ i. here i || there i

pub after_one_hop : (media : List Medium) (near far : List Bool) (hops : ℕ) → AreOperators 16 media
    → ((o : ℕ) → o < 16 → slice_index_or near o false ≡ reached_within media hops o)
    → ((o : ℕ) → o < 16 → slice_index_or far o false ≡ (slice_index_or near o false || list_any (λ m. stands_at m o && list_any (λ p. slice_index_or near p false) m.stands) media))
    → (o : ℕ) → o < 16 → slice_index_or far o false ≡ reached_within media (hops + 1) o
after_one_hop media near far hops known so_far step o l =
    subst (λ (n : ℕ). slice_index_or far o false ≡ reached_within media n o) (let e : suc hops ≡ hops + 1 = omega arith in e)
    (step o l ∙ further_same 16 media (λ p. slice_index_or near p false) (reached_within media hops) known so_far o l)

all_same : (f : ℕ → Bool) (flags : List Bool) (a n : ℕ) → n ≤ length flags → ((o : ℕ) → o < n → slice_index_or flags o false ≡ f (a + o))
    → list_all (λ is_set. is_set) (take n flags) ≡ list_all f (range_with_len a n)
all_same f flags a zero h same = refl
all_same f [] a (suc n) h same = absurd (omega arith)
all_same f (x ∷ flags) a (suc n) h same =
    let first : x ≡ f a = subst (λ (k : ℕ). x ≡ f k) (add-zero a) (same 0 (omega arith)) in
    let rest = all_same f flags (a + 1) n (omega arith) (λ o l.
    subst (λ (k : ℕ). slice_index_or flags o false ≡ f k) (let e : a + suc o ≡ a + 1 + o = omega arith in e) (same (suc o) (omega arith))) in
    λ i. first i && rest i

pub all_reached : (media : List Medium) (flags : List Bool) (operators : ℕ) → operators ≤ 16 → operators ≤ length flags
    → ((o : ℕ) → o < 16 → slice_index_or flags o false ≡ reached_within media operators o)
    → list_all (λ is_set. is_set) (take operators flags) ≡ are_joined operators media
all_reached media flags operators few long same =
    all_same (reached_within media operators) flags 0 operators long (λ o l.
    subst (λ (k : ℕ). slice_index_or flags o false ≡ reached_within media operators k) (let e : o ≡ 0 + o = omega arith in e) (same o (omega arith)))
