-- Which names the ports of a block have.
use Rattle.std.proofs.Common.{◌≡◌, Bool, true, false, ◌||◌, List, [], ◌∷◌, ◌++◌, refl, ap, ◌∙◌, append-nil}
use Rattle.std.specs.Str.{bytes_eq}
use Rattle.std.proofs.lemmas.List.Folds.{list_any-append}
use Rattle.syn_base.specs.Name.{is_name}
use Rattle.syn_base.specs.Bytes.{Bytes}
use Rattle.algo_text.specs.Among.{is_among}

-- A name is not empty.
pub not_empty : (w : Bytes) → is_name w ≡ true → bytes_eq w [] ≡ false
not_empty [] h = cc
not_empty (b ∷ bs) h = refl

pub either : (w : Bytes) (xs ys : List Bytes) → is_among w (xs ++ ys) ≡ (is_among w xs || is_among w ys)
either w xs ys = list_any-append (bytes_eq w) xs ys

-- inputs and outputs
pub two_lists : (w : Bytes) (xs ys : List Bytes) → is_among w (xs ++ (ys ++ [])) ≡ (is_among w xs || is_among w ys)
two_lists w xs ys = either w xs (ys ++ []) ∙ ap (λ (l : List Bytes). is_among w xs || is_among w l) (append-nil ys)

-- of a block without `on`
pub two_named : (w : Bytes) (xs ys : List Bytes) → is_name w ≡ true → is_among w ([] ∷ (xs ++ (ys ++ []))) ≡ (is_among w xs || is_among w ys)
two_named w xs ys named = ap (λ (b : Bool). b || is_among w (xs ++ (ys ++ []))) (not_empty w named) ∙ two_lists w xs ys
