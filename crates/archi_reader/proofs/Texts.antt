-- Texts made of lines.
use Rattle.std.proofs.Common.{◌≡◌, ℕ, suc, ◌+◌, ◌<◌, List, [], ◌∷◌, ◌++◌, length, drop, refl, sym, ap, ap₂, ◌∙◌, append_assoc, drop-cons, arith}
use Rattle.std.specs.Prelude.{slice_index_or}
use Rattle.syn_base.specs.Bytes.{Bytes}
use Rattle.std.specs.List.{flat_map}
use Rattle.std.proofs.lemmas.List.Concat.{flat_map-cons}
use Rattle.archi_reader.specs.Canonical.{Words, joined, text_of}

pub text_append : (lines more : List Words) → text_of (lines ++ more) ≡ text_of lines ++ text_of more
text_append [] more = refl
text_append (ws ∷ lines) more =
    ap (λ bs. joined ws ++ 10 ∷ bs) (text_append lines more) ∙ sym (append_assoc (joined ws) (10 ∷ text_of lines) (text_of more))

-- lines in five parts
pub text_of_parts : (a b c d e : List Words) → text_of (a ++ b ++ c ++ d ++ e) ≡ text_of a ++ text_of b ++ text_of c ++ text_of d ++ text_of e
text_of_parts a b c d e =
    text_append (((a ++ b) ++ c) ++ d) e
    ∙ ap (λ t. t ++ text_of e) (text_append ((a ++ b) ++ c) d ∙ ap (λ t. t ++ text_of d) (text_append (a ++ b) c ∙ ap (λ t. t ++ text_of c) (text_append a b)))

pub text_cons : {X : Type 0} (f : X → List Words) (x : X) (xs : List X) → text_of (flat_map f (x ∷ xs)) ≡ text_of (f x) ++ text_of (flat_map f xs)
text_cons f x xs = ap text_of (flat_map-cons f x xs) ∙ text_append (f x) (flat_map f xs)

-- the lines of one element more
pub one_more : {X : Type 0} (f : X → List Words) (xs : List X) (i : ℕ) (x : X) (done now all : Bytes) → i < length xs → x ≡ slice_index_or xs i x
    → done ++ text_of (flat_map f (drop i xs)) ≡ all → now ≡ done ++ text_of (f x) → now ++ text_of (flat_map f (drop (i + 1) xs)) ≡ all
one_more f xs i x done now all below is so_far step =
    let next : drop i xs ≡ x ∷ drop (i + 1) xs = drop-cons xs i x below ∙ ap₂ (λ y k. y ∷ drop k xs) (sym is) (let e : suc i ≡ i + 1 = omega arith in e) in
    ap (λ bs. bs ++ text_of (flat_map f (drop (i + 1) xs))) step
    ∙ append_assoc done (text_of (f x)) (text_of (flat_map f (drop (i + 1) xs)))
    ∙ ap (λ bs. done ++ bs) (sym (text_cons f x (drop (i + 1) xs)) ∙ ap (λ ys. text_of (flat_map f ys)) (sym next))
    ∙ so_far
