-- An element of a flat row that is cut into vectors.
use Rattle.std.proofs.Common.{◌≡◌, ℕ, zero, suc, ◌+◌, ◌<◌, ◌≤◌, ℤ, List, [], ◌∷◌, ◌++◌, length, map, get_or, set, take, drop, refl, sym, ap, ap₂, ◌∙◌, arith, add_assoc, zero-add, suc-add}
use Rattle.std.specs.List.{sum}
use Rattle.std.proofs.lemmas.List.{map-set, drop-drop, length-take-le, length-drop, length-map, take_all, take-map, drop-map}
use Rattle.std.proofs.lemmas.List.Sums.{sum_by-cons}
use Rattle.syn_base.specs.Rows.{cut, cut_all, with_value, with_element, AreLong, AreCut}

-- a vector of a cut row is a stretch of it
pub vector-at : (lens : List ℕ) (row : List ℤ) (v : ℕ) → v < length lens → get_or (cut lens row) v [] ≡ take (get_or lens v 0) (drop (sum (take v lens)) row)
vector-at [] row v h = absurd (omega arith)
vector-at (len ∷ lens) row zero h = refl
vector-at (len ∷ lens) row (suc v) h =
    let place : len + sum (take v lens) ≡ sum (len ∷ take v lens) = sym (sum_by-cons (λ x. x) len (take v lens)) in
    vector-at lens (drop len row) v (omega arith) ∙ ap (take (get_or lens v 0)) (drop-drop (sum (take v lens)) len row ∙ ap (λ n. drop n row) place)

-- a vector lies inside the row
pub vector_inside : (lens : List ℕ) (v : ℕ) → v < length lens → sum (take v lens) + get_or lens v 0 ≤ sum lens
vector_inside [] v h = absurd (omega arith)
vector_inside (len ∷ lens) zero h = omega (arith, sum_by-cons (λ x. x) len lens)
vector_inside (len ∷ lens) (suc v) h = omega (arith, vector_inside lens v (omega arith), sum_by-cons (λ x. x) len lens, sum_by-cons (λ x. x) len (take v lens))

-- a cut reaction is the cut of its flat row
pub reaction-at : (lens : List ℕ) (rows : List (List ℤ)) (k : ℕ) → k < length rows → get_or (cut_all lens rows) k [] ≡ cut lens (get_or rows k [])
reaction-at lens [] k h = absurd (omega arith)
reaction-at lens (x ∷ rows) zero h = refl
reaction-at lens (x ∷ rows) (suc k) h = reaction-at lens rows k (omega arith)

set-take : (n j : ℕ) (xs : List ℤ) (x : ℤ) → j < n → take n (set xs j x) ≡ set (take n xs) j x
set-take zero j xs x h = absurd (omega arith)
set-take (suc n) j [] x h = refl
set-take (suc n) zero (y ∷ xs) x h = refl
set-take (suc n) (suc j) (y ∷ xs) x h = ap (λ ys. y ∷ ys) (set-take n j xs x (omega arith))

drop-set : (n j : ℕ) (xs : List ℤ) (x : ℤ) → drop n (set xs (n + j) x) ≡ set (drop n xs) j x
drop-set zero j xs x = rw zero-add
drop-set (suc n) j [] x = refl
drop-set (suc n) j (y ∷ xs) x = rw suc-add (drop-set n j xs x)

take-set_past : (n j : ℕ) (xs : List ℤ) (x : ℤ) → take n (set xs (n + j) x) ≡ take n xs
take-set_past zero j xs x = refl
take-set_past (suc n) j [] x = refl
take-set_past (suc n) j (y ∷ xs) x = rw suc-add (ap (λ ys. y ∷ ys) (take-set_past n j xs x))

drop-set_before : (n j : ℕ) (xs : List ℤ) (x : ℤ) → j < n → drop n (set xs j x) ≡ drop n xs
drop-set_before zero j xs x h = absurd (omega arith)
drop-set_before (suc n) j [] x h = refl
drop-set_before (suc n) zero (y ∷ xs) x h = refl
drop-set_before (suc n) (suc j) (y ∷ xs) x h = drop-set_before n j xs x (omega arith)

-- one element of a flat row is written
pub cut-set : (lens : List ℕ) (row : List ℤ) (v j : ℕ) (x : ℤ) → v < length lens → j < get_or lens v 0
    → cut lens (set row (sum (take v lens) + j) x) ≡ with_value (cut lens row) v j x
cut-set [] row v j x h k = absurd (omega arith)
cut-set (len ∷ lens) row zero j x h k = rw zero-add (ap₂ (λ a b. a ∷ cut lens b) (set-take len j row x k) (drop-set_before len j row x k))
cut-set (len ∷ lens) row (suc v) j x h k =
    let place : sum (take (suc v) (len ∷ lens)) + j ≡ len + (sum (take v lens) + j) = ap (λ n. n + j) (sum_by-cons (λ y. y) len (take v lens)) ∙ add_assoc len (sum (take v lens)) j in
    ap (λ n. cut (len ∷ lens) (set row n x)) place
    ∙ ap₂ (λ a b. a ∷ cut lens b) (take-set_past len (sum (take v lens) + j) row x) (drop-set len (sum (take v lens) + j) row x)
    ∙ ap (λ ys. take len row ∷ ys) (cut-set lens (drop len row) v j x (omega arith) k)

pub reactions-set : (lens : List ℕ) (rows : List (List ℤ)) (k v j : ℕ) (x : ℤ) (row : List ℤ) → k < length rows → v < length lens → j < get_or lens v 0
    → row ≡ set (get_or rows k []) (sum (take v lens) + j) x → cut_all lens (set rows k row) ≡ with_element (cut_all lens rows) k v j x
reactions-set lens rows k v j x row kl vl jl written =
    map-set (cut lens) rows k row ∙ ap (set (cut_all lens rows) k)
    (ap (cut lens) written ∙ cut-set lens (get_or rows k []) v j x vl jl ∙ ap (λ ys. with_value ys v j x) (sym (reaction-at lens rows k kl)))

-- one more row of the right length
pub long-push : (width : ℕ) (rows : List (List ℤ)) (row : List ℤ) → AreLong width rows → length row ≡ width → AreLong width (rows ++ row ∷ [])
long-push width [] row long is zero h = is
long-push width [] row long is (suc k) h = absurd (omega arith)
long-push width (x ∷ rows) row long is zero h = long zero (omega arith)
long-push width (x ∷ rows) row long is (suc k) h = long-push width rows row (λ n q. long (suc n) (omega arith)) is k (omega arith)

-- a row that is long enough is cut into vectors of these lengths
cut-lens : (lens : List ℕ) (row : List ℤ) → length row ≡ sum lens → map length (cut lens row) ≡ lens
cut-lens [] row long = refl
cut-lens (len ∷ lens) row long =
    let total : sum (len ∷ lens) ≡ len + sum lens = sum_by-cons (λ x. x) len lens in
    let here : length (take len row) ≡ len = length-take-le len row (omega arith) in
    let rest : length (drop len row) ≡ sum lens = (let d = length-drop len row in omega arith) in
    ap₂ (λ a b. a ∷ b) here (cut-lens lens (drop len row) rest)

-- so are all rows
pub all-cut : (lens : List ℕ) (rows : List (List ℤ)) → AreLong (sum lens) rows → AreCut (record { lens = lens; reactions = cut_all lens rows })
all-cut lens rows long k h =
    let there : k < length rows = (let same = length-map rows (cut lens) in omega arith) in
    ap (λ (r : List (List ℤ)). map length r) (reaction-at lens rows k there) ∙ cut-lens lens (get_or rows k []) (long k there)

-- a stretch of the cut reactions is cut from this stretch of the flat rows, all of which were taken
pub window-is : (lens : List ℕ) (rows : List (List ℤ)) (from n count k : ℕ) → n ≡ count → length (take n (drop from rows)) ≤ k
    → cut_all lens (take k (take n (drop from rows))) ≡ take count (drop from (cut_all lens rows))
window-is lens rows from n count k same all =
    ap (cut_all lens) (take_all k (take n (drop from rows)) all)
    ∙ sym (take-map (cut lens) n (drop from rows))
    ∙ ap₂ (λ (m : ℕ) (l : List (List (List ℤ))). take m l) same (sym (drop-map (cut lens) from rows))
