-- A flat row cut into vectors: its lengths, zeros, and a vector that is written.
use Rattle.std.proofs.Common.{
  ◌≡◌,
  ℕ,
  zero,
  suc,
  ◌+◌,
  ◌-◌,
  ◌<◌,
  ℤ,
  pos,
  List,
  [],
  ◌∷◌,
  ◌++◌,
  length,
  get_or,
  set,
  take,
  drop,
  map,
  refl,
  sym,
  ap,
  ap₂,
  subst,
  ◌∙◌,
  arith,
  zero-add,
  append_assoc,
  length-take,
  length-drop,
}
use Rattle.std.proofs.Math.ListN.{replicate}
use Rattle.std.proofs.Math.Seq.{take-append-add, drop-append-add, take-append_seam, drop-append_seam}
use Rattle.std.specs.List.{sum}
use Rattle.std.proofs.lemmas.List.{take-replicate, drop-replicate, take-append-drop}
use Rattle.std.proofs.lemmas.List.Sums.{sum_by-cons}
use Rattle.syn_base.specs.Rows.{cut}
use Rattle.syn_base.proofs.Cut.{vector-at, vector_inside}
use Rattle.syn_base.specs.Vectors.{zeros}

pub length-cut : (lens : List ℕ) (row : List ℤ) → length (cut lens row) ≡ length lens
length-cut [] row = refl
length-cut (len ∷ lens) row = ap suc (length-cut lens (drop len row))

-- a vector of a cut row has its length
pub length-vector : (lens : List ℕ) (row : List ℤ) (v : ℕ) → length row ≡ sum lens → v < length lens → length (get_or (cut lens row) v []) ≡ get_or lens v 0
length-vector lens row v long h = let inside = vector_inside lens v h in ap length (vector-at lens row v h) ∙ simp (length-take, length-drop) (omega arith)

-- zeros are cut into zeros
pub cut-zeros : (lens : List ℕ) → cut lens (replicate (sum lens) (pos 0)) ≡ map zeros lens
cut-zeros [] = refl
cut-zeros (len ∷ lens) =
    ap (λ n. cut (len ∷ lens) (replicate n (pos 0))) (sum_by-cons (λ x. x) len lens)
    ∙ ap₂ (λ a b. a ∷ cut lens b) (take-replicate len (len + sum lens) (pos 0) (omega arith))
    (drop-replicate len (len + sum lens) (pos 0) ∙ ap (λ n. replicate n (pos 0)) (let e : len + sum lens - len ≡ sum lens = omega arith in e))
    ∙ ap (λ vs. zeros len ∷ vs) (cut-zeros lens)

-- a row whose first vector is a, with what is written after it
put_behind : (lens : List ℕ) (a b vector rest : List ℤ) (s : ℕ) → cut (length a ∷ lens) (take (length a + s) (a ++ b) ++ rest) ≡ a ∷ cut lens (take s b ++ rest)
put_behind lens a b vector rest s =
    ap (λ r. cut (length a ∷ lens) (r ++ rest)) (take-append-add a b s)
    ∙ ap (cut (length a ∷ lens)) (append_assoc a (take s b) rest)
    ∙ ap₂ (λ x y. x ∷ cut lens y) (take-append_seam a (take s b ++ rest)) (drop-append_seam a (take s b ++ rest))

-- a vector is written over that of a cut row
pub cut-put : (lens : List ℕ) (row vector : List ℤ) (v : ℕ) → v < length lens → length row ≡ sum lens → length vector ≡ get_or lens v 0
    → cut lens (take (sum (take v lens)) row ++ (vector ++ drop (sum (take v lens) + length vector) row)) ≡ set (cut lens row) v vector
cut-put [] row vector v h long is = absurd (omega arith)
cut-put (len ∷ lens) row vector zero h long is =
    ap (λ n. cut (len ∷ lens) (vector ++ drop n row)) (zero-add (length vector))
    ∙ ap (λ n. cut (n ∷ lens) (vector ++ drop (length vector) row)) (sym is)
    ∙ ap₂ (λ x y. x ∷ cut lens y) (take-append_seam vector (drop (length vector) row)) (drop-append_seam vector (drop (length vector) row))
    ∙ ap (λ n. vector ∷ cut lens (drop n row)) is
cut-put (len ∷ lens) row vector (suc v) h long is =
    let s = sum (take v lens) in
    let head : length (take len row) ≡ len = simp length-take (omega (arith, sum_by-cons (λ x. x) len lens)) in
    let tail : length (drop len row) ≡ sum lens = simp length-drop (omega (arith, sum_by-cons (λ x. x) len lens)) in
    let whole : take len row ++ drop len row ≡ row = take-append-drop len row in
    let place : sum (take (suc v) (len ∷ lens)) ≡ length (take len row) + s = omega (arith, sum_by-cons (λ x. x) len (take v lens)) in
    let rest : drop (sum (take (suc v) (len ∷ lens)) + length vector) row ≡ drop (s + length vector) (drop len row) =
    ap₂ drop (let e : sum (take (suc v) (len ∷ lens)) + length vector ≡ length (take len row) + (s + length vector) = omega arith in e)
    (sym whole) ∙ drop-append-add (take len row) (drop len row) (s + length vector) in
    ap₂ (λ r t. cut (len ∷ lens) (r ++ (vector ++ t))) (ap₂ take place (sym whole)) rest
    ∙ ap (λ n. cut (n ∷ lens) (take (length (take len row) + s) (take len row ++ drop len row) ++ (vector ++ drop (s + length vector) (drop len row)))) (sym head)
    ∙ put_behind lens (take len row) (drop len row) vector (vector ++ drop (s + length vector) (drop len row)) s
    ∙ ap (λ vs. take len row ∷ vs) (cut-put lens (drop len row) vector v (omega arith) tail is)

-- what holds of the vectors seen holds of the shape
module _ (shape : List ℕ) (items : List ℤ) (seen : List (List ℤ)) (is : cut shape items ≡ seen) (long : length items ≡ sum shape) (port : ℕ) (h : port < length seen) where
  pub port_inside : port < length shape
  port_inside = subst (λ n. port < n) (sym (ap (λ (v : List (List ℤ)). length v) is) ∙ length-cut shape items) h

  pub length_seen : length (get_or seen port []) ≡ get_or shape port 0
  length_seen = ap (λ (v : List (List ℤ)). length (get_or v port [])) (sym is) ∙ length-vector shape items port long port_inside

  pub vector_seen : take (get_or shape port 0) (drop (sum (take port shape)) items) ≡ get_or seen port []
  vector_seen = sym (vector-at shape items port port_inside) ∙ ap (λ (v : List (List ℤ)). get_or v port []) is
