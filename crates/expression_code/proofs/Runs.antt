-- Steps one after another, and the stores in which they have run.
use Rattle.std.proofs.Common.{◌≡◌, ℕ, ◌+◌, ◌<◌, ◌≤◌, ℤ, pos, List, [], ◌∷◌, ◌++◌, ◌-◌, length, get_or, take, drop, refl, sym, ap, subst, ◌∙◌, arith, add-one}
use Rattle.std.proofs.Math.Seq.{drop-cons}
use Rattle.std.proofs.lemmas.List.{get_or-take, get_or-drop, drop-take, take-take}
use Rattle.expression_code.specs.Code.{word, words, given, IsWithin, AreWithin, IsRun, end_of}
use Rattle.expression_code.specs.declared.step.Step.{Step}

pub end_of_more : (at : ℕ) (steps : List Step) (step : Step) → end_of at (steps ++ step ∷ []) ≡ end_of at steps + step.len
end_of_more at [] step = refl
end_of_more at (x ∷ steps) step = end_of_more (at + x.len) steps step

pub end_above : (at : ℕ) (steps : List Step) → at ≤ end_of at steps
end_above at [] = omega arith
end_above at (x ∷ steps) = omega (arith, end_above (at + x.len) steps)

pub within_more : (at : ℕ) (steps : List Step) (step : Step) → AreWithin at steps → IsWithin (end_of at steps) step.len step.action → AreWithin at (steps ++ step ∷ [])
within_more at [] step w h = (h, tt)
within_more at (x ∷ steps) step w h = (w.0, within_more (at + x.len) steps step w.1 h)

-- what has run has run without its last step, and the last step has its words
pub run_before : (at : ℕ) (steps : List Step) (step : Step) (store : List ℤ) → IsRun at (steps ++ step ∷ []) store → IsRun at steps store
run_before at [] step store r = tt
run_before at (x ∷ steps) step store r = (r.0, run_before (at + x.len) steps step store r.1)

pub run_last : (at : ℕ) (steps : List Step) (step : Step) (store : List ℤ) → IsRun at (steps ++ step ∷ []) store
    → (j : ℕ) → j < step.len → word store (end_of at steps + j) ≡ given step.action (take (end_of at steps) store) j
run_last at [] step store r = r.0
run_last at (x ∷ steps) step store r = run_last (at + x.len) steps step store r.1

-- the steps from number i on are this one and those after it
pub steps_from : (steps : List Step) (i : ℕ) (d : Step) → i < length steps → drop i steps ≡ get_or steps i d ∷ drop (i + 1) steps
steps_from steps i d h = drop-cons steps i d h ∙ ap (λ n. get_or steps i d ∷ drop n steps) (sym (add-one i))

module _ (at : ℕ) (steps : List Step) (i : ℕ) (d : Step) (h : i < length steps) where
  pub within_next : AreWithin at (drop i steps) → IsWithin at (get_or steps i d).len (get_or steps i d).action × AreWithin (at + (get_or steps i d).len) (drop (i + 1) steps)
  within_next w = subst (λ ss. AreWithin at ss) (steps_from steps i d h) w

  pub end_next : end_of at (drop i steps) ≡ end_of (at + (get_or steps i d).len) (drop (i + 1) steps)
  end_next = ap (end_of at) (steps_from steps i d h)

  pub room_next : at + (get_or steps i d).len ≤ end_of at (drop i steps)
  room_next = omega (arith, end_next, end_above (at + (get_or steps i d).len) (drop (i + 1) steps))

  pub run_next : (store : List ℤ)
      → ((j : ℕ) → j < (get_or steps i d).len → word store (at + j) ≡ given (get_or steps i d).action (take at store) j)
      → IsRun (at + (get_or steps i d).len) (drop (i + 1) steps) store → IsRun at (drop i steps) store
  run_next store e r = subst (λ ss. IsRun at ss store) (sym (steps_from steps i d h)) (e, r)

-- what is known below n
pub word_known : (n : ℕ) (store : List ℤ) (k : ℕ) → k < n → word (take n store) k ≡ word store k
word_known n store k h = get_or-take n store k (pos 0) h

-- stores that agree below n have the same words there
pub same_word : (n k : ℕ) (s t : List ℤ) → k < n → take n s ≡ take n t → word s k ≡ word t k
same_word n k s t h e = sym (word_known n s k h) ∙ ap (λ x. word x k) e ∙ word_known n t k h

-- stores that agree below n agree below less
pub same_below : (n m : ℕ) (s t : List ℤ) → m ≤ n → take n s ≡ take n t → take m s ≡ take m t
same_below n m s t h e = sym (take-take m n s h) ∙ ap (take m) e ∙ take-take m n t h

pub words_known : (n : ℕ) (store : List ℤ) (from count : ℕ) → from + count ≤ n → words (take n store) from count ≡ words store from count
words_known n store from count h =
    let e : n ≡ from + (n - from) = omega arith in
    ap (λ m. take count (drop from (take m store))) e
    ∙ ap (take count) (drop-take from (n - from) store)
    ∙ take-take count (n - from) (drop from store) (omega arith)

-- a word of a part of a store
pub word_part : (store : List ℤ) (from end j : ℕ) → from + j < end → word (take (end - from) (drop from store)) j ≡ word store (from + j)
word_part store from end j h = get_or-take (end - from) (drop from store) j (pos 0) (omega arith) ∙ get_or-drop from store j (pos 0)

-- what one more step does to a store of which the words below `at` are known
module _ (from at i : ℕ) (steps : List Step) (d : Step) (store new : List ℤ) (h : i < length steps) (le : from ≤ at) (same : take at new ≡ take at store)
    (words : (j : ℕ) → j < (get_or steps i d).len → word new (at + j) ≡ given (get_or steps i d).action (take at store) j)
    (run : (s : List ℤ) → take at s ≡ take at store → IsRun at (drop i steps) s → IsRun from steps s) where
  pub run_more : (s : List ℤ) → take (at + (get_or steps i d).len) s ≡ take (at + (get_or steps i d).len) new → IsRun (at + (get_or steps i d).len) (drop (i + 1) steps) s → IsRun from steps s
  run_more s e r =
      let len = (get_or steps i d).len in
      let below : take at s ≡ take at store = same_below (at + len) at s new (omega arith) e ∙ same in
      run s below (run_next at steps i d h s
      (λ j l. same_word (at + len) (at + j) s new (omega arith) e ∙ words j l ∙ ap (λ x. given (get_or steps i d).action x j) (sym below)) r)
