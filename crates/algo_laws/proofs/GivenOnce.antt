-- Names that are given once.
use Rattle.std.proofs.Common.{◌≡◌, Bool, true, false, List, [], ◌∷◌, ◌++◌, refl, sym, subst, append-nil, bytes_eq}
use Rattle.std.proofs.lemmas.Slice.Eq.{bytes_eq-Decides}
use Rattle.syn_base.specs.Bytes.{Bytes}
use Rattle.algo_rules.specs.Well.{IsNewName, AreDistinctNames}
use Rattle.algo_rules.specs.Among.{is_among}
use Rattle.algo_rules.proofs.Checks.{neither}

flipped : (x y : Bytes) → bytes_eq x y ≡ false → bytes_eq y x ≡ false
flipped x y h = by (bytes_eq y x) refl
  where
    by : (t : Bool) → bytes_eq y x ≡ t → t ≡ false
    by false e = refl
    by true e =
        let same : y ≡ x = (bytes_eq-Decides y x).0 e in
        let again : bytes_eq x y ≡ true = subst (λ (z : Bytes). bytes_eq z y ≡ true) same (subst (λ (z : Bytes). bytes_eq y z ≡ true) (sym same) e) in
        cc

-- a name that is not among others is new beside them
pub new_beside : (w : Bytes) (xs : List Bytes) → is_among w xs ≡ false → IsNewName w xs
new_beside w [] h = tt
new_beside w (x ∷ xs) h = let parts = neither (bytes_eq w x) (is_among w xs) h in (parts.0, new_beside w xs parts.1)

pub new_first : (w : Bytes) (xs ys : List Bytes) → IsNewName w (xs ++ ys) → IsNewName w xs
new_first w [] ys h = tt
new_first w (x ∷ xs) ys h = (h.0, new_first w xs ys h.1)

pub new_second : (w : Bytes) (xs ys : List Bytes) → IsNewName w (xs ++ ys) → IsNewName w ys
new_second w [] ys h = h
new_second w (x ∷ xs) ys h = new_second w xs ys h.1

pub new_both : (w : Bytes) (xs ys : List Bytes) → IsNewName w xs → IsNewName w ys → IsNewName w (xs ++ ys)
new_both w [] ys h g = g
new_both w (x ∷ xs) ys h g = (h.0, new_both w xs ys h.1 g)

still_new : (x w : Bytes) (xs ys : List Bytes) → IsNewName x (xs ++ ys) → bytes_eq x w ≡ false → IsNewName x (xs ++ w ∷ ys)
still_new x w [] ys h e = (e, h)
still_new x w (y ∷ xs) ys h e = (h.0, still_new x w xs ys h.1 e)

-- a new name, put in between
pub distinct_with : (w : Bytes) (xs ys : List Bytes) → IsNewName w (xs ++ ys) → AreDistinctNames (xs ++ ys) → AreDistinctNames (xs ++ w ∷ ys)
distinct_with w [] ys new h = (new, h)
distinct_with w (x ∷ xs) ys new h = (still_new x w xs ys h.0 (flipped w x new.0), distinct_with w xs ys new.1 h.1)

-- a new name, put after
pub distinct_behind : (w : Bytes) (xs : List Bytes) → IsNewName w xs → AreDistinctNames xs → AreDistinctNames (xs ++ w ∷ [])
distinct_behind w xs new h =
    let all : xs ≡ xs ++ [] = sym (append-nil xs) in
    distinct_with w xs [] (subst (λ (l : List Bytes). IsNewName w l) all new) (subst (λ (l : List Bytes). AreDistinctNames l) all h)
