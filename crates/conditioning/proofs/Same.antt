-- Sources and guards that stay as they are.
use Rattle.std.proofs.Common.{◌≡◌, ℕ, zero, suc, ◌+◌, ◌<◌, List, [], ◌∷◌, ◌++◌, length, map, take, drop, drop-cons, get_or, refl, sym, ap, ap₂, ◌∙◌, zero-add, append_assoc, arith}
use Rattle.algo_tree.specs.declared.Source.{Source}
use Rattle.algo_tree.specs.declared.Source.TheVariants.{Own, Of}
use Rattle.algo_tree.specs.declared.Guard.{Guard}
use Rattle.flat_laws.specs.Guarded.{shift, own_guards}

zero_shifted : (ss : List Source) → map (shift 0) ss ≡ ss
zero_shifted [] = refl
zero_shifted (Own k ∷ ss) = ap₂ (λ (n : ℕ) (rest : List Source). Own n ∷ rest) (zero-add k) (zero_shifted ss)
zero_shifted (Of r p ∷ ss) = ap (λ (rest : List Source). Of r p ∷ rest) (zero_shifted ss)

-- sources before which nothing further stands
pub not_shifted : (n : ℕ) (ss : List Source) → n ≡ 0 → map (shift n) ss ≡ ss
not_shifted n ss is = ap (λ (m : ℕ). map (shift m) ss) is ∙ zero_shifted ss

-- a guard on its own input
own_guard : (i : ℕ) (g : Guard) → g.source ≡ Own i → record { source = Own i; values = g.values; case = g.case } ≡ g
own_guard i g is = ap (λ (s : Source). let h : Guard = record { source = s; values = g.values; case = g.case } in h) (sym is)

-- one guard more
pub own_more : (gs : List Guard) (i : ℕ) (g : Guard) → i < length gs → g ≡ get_or gs i g → g.source ≡ Own i
    → take i gs ++ own_guards i (drop i gs) ≡ own_guards 0 gs → take (i + 1) gs ++ own_guards (i + 1) (drop (i + 1) gs) ≡ own_guards 0 gs
own_more gs i g lt at own so_far =
    let one : suc i ≡ i + 1 = omega arith in
    let split : drop i gs ≡ g ∷ drop (i + 1) gs = drop-cons gs i g lt ∙ ap₂ (λ v j. v ∷ drop j gs) (sym at) one in
    let rest = own_guards (i + 1) (drop (i + 1) gs) in
    let next : own_guards i (drop i gs) ≡ g ∷ rest =
    ap (own_guards i) split ∙ ap₂ (λ (h : Guard) (j : ℕ). h ∷ own_guards j (drop (i + 1) gs)) (own_guard i g own) one in
    ap (λ (hs : List Guard). hs ++ rest) (ap (λ (j : ℕ). take j gs) (sym one) ∙ taken gs i g lt at)
    ∙ append_assoc (take i gs) (g ∷ []) rest
    ∙ ap (λ (hs : List Guard). take i gs ++ hs) (sym next)
    ∙ so_far
  where
    taken : (gs : List Guard) (i : ℕ) (g : Guard) → i < length gs → g ≡ get_or gs i g → take (suc i) gs ≡ take i gs ++ g ∷ []
    taken [] i g lt at = absurd (omega arith)
    taken (h ∷ gs) zero g lt at = ap (λ (x : Guard). x ∷ []) (sym at)
    taken (h ∷ gs) (suc i) g lt at = ap (λ (hs : List Guard). h ∷ hs) (taken gs i g (omega arith) at)

-- all guards
pub own_all : (gs : List Guard) (i : ℕ) → length gs ≡ i → take i gs ++ own_guards i (drop i gs) ≡ own_guards 0 gs → own_guards 0 gs ≡ gs
own_all gs i n so_far = sym so_far ∙ taken gs i i n
  where
    taken : (gs : List Guard) (i j : ℕ) → length gs ≡ i → take i gs ++ own_guards j (drop i gs) ≡ gs
    taken [] zero j n = refl
    taken [] (suc i) j n = absurd (omega arith)
    taken (g ∷ gs) zero j n = absurd (omega arith)
    taken (g ∷ gs) (suc i) j n = ap (λ (hs : List Guard). g ∷ hs) (taken gs i j (omega arith))
