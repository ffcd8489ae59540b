-- The bounds of vectors that stand one after another, and their lengths.
use Rattle.std.proofs.Common.{◌≡◌, ℕ, zero, suc, ◌+◌, ◌-◌, ◌<◌, ◌≤◌, List, [], ◌∷◌, length, get_or, take, drop, ◌++◌, append-nil, refl, sym, ap, ap₂, ◌∙◌, arith, zero-add}
use Rattle.std.specs.List.{sum}
use Rattle.std.proofs.lemmas.List.Sums.{sum_by-cons}
use Rattle.body_lang.specs.Layout.{ends_from, bounds_of, lengths_from, lengths_between}

-- the bounds of lengths lead back to them
lengths-ends : (at : ℕ) (lens : List ℕ) → lengths_from at (ends_from at lens) ≡ lens
lengths-ends at [] = refl
lengths-ends at (len ∷ lens) = let first : at + len - at ≡ len = omega arith in ap₂ (λ n ns. n ∷ ns) first (lengths-ends (at + len) lens)

pub lengths-bounds : (lens : List ℕ) → lengths_between (bounds_of lens) ≡ lens
lengths-bounds lens = lengths-ends 0 lens

pub length-ends : (at : ℕ) (lens : List ℕ) → length (ends_from at lens) ≡ length lens
length-ends at [] = refl
length-ends at (len ∷ lens) = ap suc (length-ends (at + len) lens)

bound_from : (at : ℕ) (lens : List ℕ) (v d : ℕ) → v ≤ length lens → get_or (at ∷ ends_from at lens) v d ≡ at + sum (take v lens)
bound_from at lens zero d h = omega arith
bound_from at [] (suc v) d h = absurd (omega arith)
bound_from at (len ∷ lens) (suc v) d h =
    let rest = bound_from (at + len) lens v d (omega arith) in
    let whole = sum_by-cons (λ x. x) len (take v lens) in
    rest ∙ omega (arith, whole)

part_of_sum : (lens : List ℕ) (v : ℕ) → v < length lens → sum (take (suc v) lens) ≡ sum (take v lens) + get_or lens v 0
part_of_sum [] v h = absurd (omega arith)
part_of_sum (len ∷ lens) zero h = omega (arith, sum_by-cons (λ x. x) len [])
part_of_sum (len ∷ lens) (suc v) h =
    let rest = part_of_sum lens v (omega arith) in
    let more = sum_by-cons (λ x. x) len (take (suc v) lens) in
    let less = sum_by-cons (λ x. x) len (take v lens) in
    omega (arith, rest, more, less)

sum_of_part : (lens : List ℕ) (v : ℕ) → sum (take v lens) ≤ sum lens
sum_of_part lens zero = omega arith
sum_of_part [] (suc v) = omega arith
sum_of_part (len ∷ lens) (suc v) =
    let rest = sum_of_part lens v in
    let more = sum_by-cons (λ x. x) len lens in
    let less = sum_by-cons (λ x. x) len (take v lens) in
    omega (arith, rest, more, less)

take_whole : (lens : List ℕ) → take (length lens) lens ≡ lens
take_whole [] = refl
take_whole (len ∷ lens) = ap (λ ns. len ∷ ns) (take_whole lens)

-- what holds of the bounds of these lengths
module _ (bounds lens : List ℕ) (are : bounds ≡ bounds_of lens) where
  pub length-bounds : length bounds ≡ suc (length lens)
  length-bounds = ap length are ∙ ap suc (length-ends 0 lens)

  pub bound_at : (v d : ℕ) → v ≤ length lens → get_or bounds v d ≡ sum (take v lens)
  bound_at v d h = ap (λ bs. get_or bs v d) are ∙ bound_from 0 lens v d h ∙ zero-add (sum (take v lens))

  pub last_bound : (v d : ℕ) → v ≡ length lens → get_or bounds v d ≡ sum lens
  last_bound v d e = ap (λ n. get_or bounds n d) e ∙ bound_at (length lens) d (omega arith) ∙ ap sum (take_whole lens)

  pub next_bound : (v d e : ℕ) → v < length lens → get_or bounds (v + 1) d ≡ get_or bounds v e + get_or lens v 0
  next_bound v d e h =
      let here = bound_at v e (omega arith) in
      let one : v + 1 ≡ suc v = omega arith in
      let next : get_or bounds (v + 1) d ≡ sum (take (suc v) lens) = ap (λ n. get_or bounds n d) one ∙ bound_at (suc v) d (omega arith) in
      let more = part_of_sum lens v h in
      omega (arith, here, next, more)

  pub inside : (v d : ℕ) → v < length lens → get_or bounds v d + get_or lens v 0 ≤ sum lens
  inside v d h =
      let here = bound_at v d (omega arith) in
      let more = part_of_sum lens v h in
      let within = sum_of_part lens (suc v) in
      omega (arith, here, more, within)

drop_past : (lens : List ℕ) (i : ℕ) → length lens ≤ i → drop i lens ≡ []
drop_past [] zero h = refl
drop_past [] (suc i) h = refl
drop_past (len ∷ lens) zero h = absurd (omega arith)
drop_past (len ∷ lens) (suc i) h = drop_past lens i (omega arith)

-- once no vector is left, all bounds are there
pub all_bounds : (lens bounds : List ℕ) (width i : ℕ) → length lens ≤ i → bounds ++ ends_from width (drop i lens) ≡ bounds_of lens → bounds ≡ bounds_of lens
all_bounds lens bounds width i past whole = sym (append-nil bounds) ∙ ap (λ ls. bounds ++ ends_from width ls) (sym (drop_past lens i past)) ∙ whole
