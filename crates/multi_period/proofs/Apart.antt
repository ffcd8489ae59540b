-- The vertices of the graph that a marked reference becomes have distinct parts.
use Rattle.std.proofs.Common.{◌≡◌, ℕ, zero, suc, ◌<◌, List, [], ◌∷◌, ◌++◌, length, map, false, slice_index_or, codes, refl, sym, subst, arith}
use Rattle.std.proofs.lemmas.List.{map-append}
use Rattle.std.specs.Str.{bytes_eq}
use Rattle.algo_tree.specs.declared.Part.{Part}
use Rattle.algo_tree.specs.declared.Part.TheVariants.{Named}
use Rattle.algo_tree.specs.Level.{Node, same_part}
use Rattle.algo_tree.specs.Parts.{IsApart, HasDistinctParts}
use Rattle.algo_tree.specs.Tree.{Label, Vertices}
use Rattle.algo_tree.specs.Well.{IsNewName, AreDistinctNames}
use Rattle.multi_period.specs.declared.mark.Mark.{Mark}
use Rattle.multi_period.specs.Marks.{IsMark}
use Rattle.multi_period.proofs.Inner.{kid, heart, level}
use Rattle.syn_base.specs.Numbers.{numbers_below}

-- each of these differs from y
abbrev AllBut : Node → List Node → Type 0
AllBut y [] = Unit {0}
AllBut y (x ∷ xs) = (same_part x.part y.part ≡ false) × AllBut y xs

but-append : (y : Node) (xs ys : List Node) → AllBut y xs → AllBut y ys → AllBut y (xs ++ ys)
but-append y [] ys h g = g
but-append y (x ∷ xs) ys h g = (h.0, but-append y xs ys h.1 g)

but-below : (y : Node) (f : ℕ → Node) (n : ℕ) → ((i : ℕ) → i < n → same_part (f i).part y.part ≡ false) → AllBut y (map f (numbers_below n))
but-below y f zero h = tt
but-below y f (suc n) h =
    subst (AllBut y) (sym (map-append f (numbers_below n) (n ∷ []))) (but-append y (map f (numbers_below n)) (f n ∷ []) (but-below y f n (λ i lt. h i (omega arith))) (h n (omega arith), tt))

apart-snoc : (p : Part) (xs : List Node) (y : Node) → IsApart p xs → same_part p y.part ≡ false → IsApart p (xs ++ y ∷ [])
apart-snoc p [] y h e = (e, tt)
apart-snoc p (x ∷ xs) y h e = (h.0, apart-snoc p xs y h.1 e)

apart-below : (p : Part) (f : ℕ → Node) (n : ℕ) → ((i : ℕ) → i < n → same_part p (f i).part ≡ false) → IsApart p (map f (numbers_below n))
apart-below p f zero h = tt
apart-below p f (suc n) h =
    subst (IsApart p) (sym (map-append f (numbers_below n) (n ∷ []))) (apart-snoc p (map f (numbers_below n)) (f n) (apart-below p f n (λ i lt. h i (omega arith))) (h n (omega arith)))

distinct-snoc : (xs : List Node) (y : Node) → HasDistinctParts xs → AllBut y xs → HasDistinctParts (xs ++ y ∷ [])
distinct-snoc [] y h e = (tt, tt)
distinct-snoc (x ∷ xs) y h e = (apart-snoc x.part xs y h.0 e.0, distinct-snoc xs y h.1 e.1)

distinct-below : (f : ℕ → Node) (n : ℕ) → ((i j : ℕ) → i < j → j < n → same_part (f i).part (f j).part ≡ false) → HasDistinctParts (map f (numbers_below n))
distinct-below f zero h = tt
distinct-below f (suc n) h =
    subst HasDistinctParts (sym (map-append f (numbers_below n) (n ∷ [])))
    (distinct-snoc (map f (numbers_below n)) (f n) (distinct-below f n (λ i j a b. h i j a (omega arith))) (but-below (f n) f n (λ i lt. h i n lt (omega arith))))

new-at : (x : List ℕ) (ys : List (List ℕ)) (j : ℕ) → IsNewName x ys → j < length ys → bytes_eq x (slice_index_or ys j []) ≡ false
new-at x [] j h lt = absurd (omega arith)
new-at x (y ∷ ys) zero h lt = h.0
new-at x (y ∷ ys) (suc j) h lt = new-at x ys j h.1 (omega arith)

names-apart : (xs : List (List ℕ)) (i j : ℕ) → AreDistinctNames xs → i < j → j < length xs → bytes_eq (slice_index_or xs i []) (slice_index_or xs j []) ≡ false
names-apart [] i j h a b = absurd (omega arith)
names-apart (x ∷ xs) i zero h a b = absurd (omega arith)
names-apart (x ∷ xs) zero (suc j) h a b = new-at x xs j h.0 (omega arith)
names-apart (x ∷ xs) (suc i) (suc j) h a b = names-apart xs i j h.1 (omega arith) (omega arith)

pub level-distinct : (m : Mark) (l : Label) (us : Vertices) → IsMark m l → HasDistinctParts (level m l us)
level-distinct m l us h = (
  apart-snoc (Named (codes "count")) (map (kid m l us) (numbers_below (length l.outs))) (heart m l us) (apart-below (Named (codes "count")) (kid m l us) (length l.outs) (λ i lt. refl)) refl,
  distinct-snoc (map (kid m l us) (numbers_below (length l.outs))) (heart m l us)
      (distinct-below (kid m l us) (length l.outs) (λ i j a b. names-apart l.names i j h.distinct a (omega (arith, h.named))))
      (but-below (heart m l us) (kid m l us) (length l.outs) (λ i lt. refl)),
)
