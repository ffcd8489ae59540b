-- A level in order, segment by segment.
use Rattle.std.proofs.Common.{◌≡◌, ℕ, zero, suc, ◌+◌, ◌<◌, ◌⊎◌, inl, inr, List, [], ◌∷◌, ◌++◌, length, map, Some, slice_get, refl, sym, ap, ◌∙◌, subst, arith, length-append}
use Rattle.std.proofs.lemmas.List.{map-append}
use Rattle.level_meaning.specs.declared.source.Source.{Source}
use Rattle.level_meaning.specs.Level.{Node}
use Rattle.level_meaning.specs.Order.{IsBefore, AreBefore, GuardsBefore, IsInOrder}
use Rattle.algo_tree.specs.Tree.{Kind, sensor, actuator, constant, delay, function, explode, implode, merge, graph, switch, repeat}
use Rattle.algo_tree.specs.Meaning.{asked_by}
use Rattle.syn_base.specs.Numbers.{numbers_below}

abbrev pub OrderFrom : ℕ → List Node → Type 0
OrderFrom k [] = Unit {0}
OrderFrom k (c ∷ cs) = (GuardsBefore k c.guards × AreBefore k c.asked) × OrderFrom (suc k) cs

abbrev pub BothBefore : ℕ → Node → Type 0
BothBefore k c = GuardsBefore k c.guards × AreBefore k c.asked

order_at : (k : ℕ) (cs : List Node) → OrderFrom k cs → (r : ℕ) (c : Node) → slice_get cs r ≡ Some c → BothBefore (k + r) c
order_at k [] h r c e = cc
order_at k (d ∷ cs) h zero c e =
    let same : d ≡ c = cc in
    subst (λ m. BothBefore m c) (omega arith) (subst (BothBefore k) same h.0)
order_at k (d ∷ cs) h (suc r) c e = subst (λ m. BothBefore m c) (omega arith) (order_at (suc k) cs h.1 r c e)

pub in_order-from : (cs : List Node) → OrderFrom 0 cs → IsInOrder cs
in_order-from cs h r c e = subst (λ m. BothBefore m c) (omega arith) (order_at 0 cs h r c e)

pub order-append : (k : ℕ) (xs ys : List Node) → OrderFrom k xs → OrderFrom (k + length xs) ys → OrderFrom k (xs ++ ys)
order-append k [] ys h g = subst (λ m. OrderFrom m ys) (omega arith) g
order-append k (x ∷ xs) ys h g = (h.0, order-append (suc k) xs ys h.1 (subst (λ m. OrderFrom m ys) (omega arith) g))

pub before-append : (k : ℕ) (xs ys : List Source) → AreBefore k xs → AreBefore k ys → AreBefore k (xs ++ ys)
before-append k [] ys h g = g
before-append k (x ∷ xs) ys h g = (h.0, before-append k xs ys h.1 g)

-- one source for each of the numbers below n
pub before_below : (k n : ℕ) (f : ℕ → Source) → ((i : ℕ) → i < n → IsBefore k (f i)) → AreBefore k (map f (numbers_below n))
before_below k zero f h = tt
before_below k (suc n) f h =
    subst (AreBefore k) (sym (map-append f (numbers_below n) (n ∷ []))) (before-append k _ _ (before_below k n f (λ i lt. h i (omega arith))) (h n (omega arith), tt))

-- one vertex for each of the numbers below n
pub order_below : (k n : ℕ) (f : ℕ → Node) → ((i : ℕ) → i < n → BothBefore (k + i) (f i)) → (length (map f (numbers_below n)) ≡ n) × OrderFrom k (map f (numbers_below n))
order_below k zero f h = (refl, tt)
order_below k (suc n) f h =
    let before = order_below k n f (λ i lt. h i (omega arith)) in
    let len = before.0 in
    let e = map-append f (numbers_below n) (n ∷ []) in (
      ap length e ∙ length-append (map f (numbers_below n)) (f n ∷ []) ∙ omega (arith, len),
      subst (OrderFrom k) (sym e) (order-append k _ _ before.1 (subst (λ m. BothBefore (k + m) (f n)) (sym len) (h n (omega arith)), tt)),
    )

-- what a vertex asks for is nothing, or all its inputs
pub asked_or : (k : Kind) (ss : List Source) → (asked_by k ss ≡ []) ⊎ (asked_by k ss ≡ ss)
asked_or (sensor m) ss = inr refl
asked_or (actuator m) ss = inr refl
asked_or (constant v) ss = inr refl
asked_or (delay v) ss = inl refl
asked_or (function es) ss = inr refl
asked_or explode ss = inr refl
asked_or implode ss = inr refl
asked_or (merge values) ss = inr refl
asked_or (graph sources) ss = inr refl
asked_or (switch values names) ss = inr refl
asked_or (repeat m feeds gives) ss = inr refl

pub before-asked : (r : ℕ) (k : Kind) (ss : List Source) → AreBefore r ss → AreBefore r (asked_by k ss)
before-asked r k ss h = elim (asked_or k ss) [ inl e ↦ subst (AreBefore r) (sym e) tt | inr e ↦ subst (AreBefore r) (sym e) h ]
