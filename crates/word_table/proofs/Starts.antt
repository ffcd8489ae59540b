-- Where words stand, as the fabric keeps it.
use Rattle.std.proofs.Common.{◌≡◌, ℕ, zero, suc, ◌+◌, ◌*◌, ◌<◌, List, [], ◌∷◌, map, take, length, sum, get_or, drop, ◌++◌, ◌≤◌, append_assoc, ℤ, refl, sym, ap, arith, ◌∙◌}
use Rattle.std.proofs.lemmas.List.{append-nil, drop_more, at_drop_all}
use Rattle.executive_program.proofs.KindLens.{sum-cons}
use Rattle.executive_program.specs.declared.steps.Place.{Place}
use Rattle.word_table.specs.declared.fabric_parts.FabricParts.{FabricParts}
use Rattle.word_rule.specs.Core.{home_of, slot_of, opening}
use Rattle.word_rule.specs.Job.{JobData}
use Rattle.word_rule.specs.Words.{element_word, elements_start, element_lens, table_len}
use Rattle.word_table.specs.Weaving.{starts_from, end_from}
use Rattle.word_rule.specs.Given.{IsHere}
use Rattle.word_table.specs.Parts.{AreFabricParts}

pub same_default : (xs : List ℕ) (i d e : ℕ) → i < length xs → get_or xs i d ≡ get_or xs i e
same_default [] i d e h = absurd (omega arith)
same_default (x ∷ xs) zero d e h = refl
same_default (x ∷ xs) (suc i) d e h = same_default xs i d e (omega arith)

-- the word of an element is where its list begins, and its place there
pub start_is : (f : FabricParts) → AreFabricParts f → (x : Place) (home slot start k : ℕ) → home ≡ home_of f.job.now.program x → slot ≡ slot_of f.job.now.program x k → IsHere f.job.now x
    → start ≡ get_or f.starts.items home start → start + slot ≡ element_word f.job.now x k
start_is f is x home slot start k h s here e = let t = is.starts_there in let i = (here k).0 in
    let l : home < length f.starts.items = omega (arith, h, t, i) in
    let a = same_default f.starts.items home start 0 l in let b = is.starts home l in
    let c = ap (elements_start f.job.now) h in omega (arith, e, a, b, c, s)

pub starts_long : (first : ℕ) (xss : List (List ℤ)) → length (starts_from first xss) ≡ length (map (length {A = ℤ}) xss)
starts_long first [] = refl
starts_long first (xs ∷ xss) = ap suc (starts_long (first + length xs) xss)

pub starts_at : (first : ℕ) (xss : List (List ℤ)) (h : ℕ) → h < length (starts_from first xss) → get_or (starts_from first xss) h 0 ≡ first + sum (take h (map (length {A = ℤ}) xss))
starts_at first [] h l = absurd (omega arith)
starts_at first (xs ∷ xss) zero l = let e : first ≡ first + 0 = omega arith in e
starts_at first (xs ∷ xss) (suc h) l = let e = starts_at (first + length xs) xss h (omega arith) in let c = sum-cons (length xs) (take h (map (length {A = ℤ}) xss)) in
    by e c
  where
    by : get_or (starts_from (first + length xs) xss) h 0 ≡ first + length xs + sum (take h (map (length {A = ℤ}) xss))
        → sum (length xs ∷ take h (map (length {A = ℤ}) xss)) ≡ length xs + sum (take h (map (length {A = ℤ}) xss))
        → get_or (starts_from (first + length xs) xss) h 0 ≡ first + sum (length xs ∷ take h (map (length {A = ℤ}) xss))
    by e c = omega (arith, e, c)

pub end_at : (first : ℕ) (xss : List (List ℤ)) → end_from first xss ≡ first + sum (map (length {A = ℤ}) xss)
end_at first [] = let e : first ≡ first + 0 = omega arith in e
end_at first (xs ∷ xss) = let e = end_at (first + length xs) xss in let c = sum-cons (length xs) (map (length {A = ℤ}) xss) in by e c
  where
    by : end_from (first + length xs) xss ≡ first + length xs + sum (map (length {A = ℤ}) xss) → sum (length xs ∷ map (length {A = ℤ}) xss) ≡ length xs + sum (map (length {A = ℤ}) xss)
        → end_from (first + length xs) xss ≡ first + sum (length xs ∷ map (length {A = ℤ}) xss)
    by e c = omega (arith, e, c)

-- where each list begins, as it was laid out
pub starts_are : (j : JobData) (first turns : ℕ) (starts : List ℕ) → turns ≡ 1 + 2 * length j.program.pairs → first ≡ turns + j.media → starts ≡ starts_from first (opening j).elements
    → (length starts ≡ length (element_lens j)) × ((h : ℕ) → h < length starts → get_or starts h 0 ≡ elements_start j h)
starts_are j first turns starts turns_are at e = (ap (length {A = ℕ}) e ∙ starts_long first (opening j).elements, λ h l. each h l)
  where
    each : (h : ℕ) → h < length starts → get_or starts h 0 ≡ elements_start j h
    each h l = let q = starts_at first (opening j).elements h (let q = ap (length {A = ℕ}) e in omega (arith, q, l)) in
        let s = ap (λ (xs : List ℕ). get_or xs h 0) e in omega (arith, q, s, at, turns_are)

-- the number of words is where the elements end
pub words_are : (j : JobData) (first : ℕ) → first ≡ 1 + 2 * length j.program.pairs + j.media → end_from first (opening j).elements ≡ table_len j
words_are j first at = let e = end_at first (opening j).elements in omega (arith, e, at)

-- one list more: what is left makes the whole
pub starts_more : (xs : List (List ℤ)) (k : ℕ) (x : List ℤ) (next after first : ℕ) (old new : List ℕ) → k < length xs → x ≡ get_or xs k x → after ≡ next + length x → new ≡ old ++ next ∷ []
    → (old ++ starts_from next (drop k xs) ≡ starts_from first xs) × (end_from next (drop k xs) ≡ end_from first xs)
    → (new ++ starts_from after (drop (k + 1) xs) ≡ starts_from first xs) × (end_from after (drop (k + 1) xs) ≡ end_from first xs)
starts_more xs k x next after first old new h e a n w = (starts, ends)
  where
    rest : List (List ℤ)
    rest = drop (k + 1) xs

    left : drop k xs ≡ x ∷ rest
    left = drop_more xs k x h ∙ ap (λ (y : List ℤ). y ∷ rest) (sym e)

    starts : new ++ starts_from after rest ≡ starts_from first xs
    starts = (λ i. n i ++ starts_from (a i) rest) ∙ append_assoc old (next ∷ []) (starts_from (next + length x) rest) ∙ ap (λ (l : List ℕ). old ++ l) (sym (ap (starts_from next) left)) ∙ w.0

    ends : end_from after rest ≡ end_from first xs
    ends = ap (λ (m : ℕ). end_from m rest) a ∙ sym (ap (end_from next) left) ∙ w.1

-- where nothing is left
pub starts_all : (xs : List (List ℤ)) (k next : ℕ) (starts whole : List ℕ) → length xs ≤ k → starts ++ starts_from next (drop k xs) ≡ whole → starts ≡ whole
starts_all xs k next starts whole h w = sym (append-nil starts) ∙ ap (λ (l : List ℕ). starts ++ l) (sym (at_drop_all (starts_from next) xs k h)) ∙ w
