-- A name that no other definition has is new.
use Rattle.std.proofs.Common.{
  ◌≡◌,
  ℕ,
  suc,
  ◌+◌,
  ◌<◌,
  Bool,
  not,
  true,
  false,
  ◌||◌,
  List,
  [],
  ◌∷◌,
  ◌++◌,
  length,
  get_or,
  drop,
  refl,
  ap,
  sym,
  subst,
  ◌∙◌,
  append_assoc,
  add-one,
  drop-cons,
  if◌then◌else◌,
}
use Rattle.std.specs.List.{list_any}
use Rattle.std.specs.Str.{bytes_eq}
use Rattle.std.proofs.lemmas.Cmp.{nat_list_eq_equiv}
use Rattle.syn_base.specs.Bytes.{Bytes}
use Rattle.algo_rules.specs.declared.Def.{Def}
use Rattle.algo_rules.specs.Well.{IsNewName, AreDistinctNames}
use Rattle.algo_check.specs.Placing.{names_of}

-- the rest of a list from an element on
pub from_here : {A : Type 0} (xs : List A) (i : ℕ) (x : A) → i < length xs → x ≡ get_or xs i x → drop i xs ≡ x ∷ drop (i + 1) xs
from_here xs i x h is = rw (add-one, drop-cons xs i x) (ap (λ y. y ∷ drop (suc i) xs) (sym is))

turned : (x y : Bytes) → bytes_eq x y ≡ false → bytes_eq y x ≡ false
turned x y h = nat_list_eq_equiv.symm y x ∙ h

not_after : (x w : Bytes) (names rest : List Bytes) → IsNewName x (names ++ w ∷ rest) → bytes_eq x w ≡ false
not_after x w [] rest h = h.0
not_after x w (y ∷ names) rest h = not_after x w names rest h.1

either : (a b : Bool) → a ≡ false → b ≡ false → (a || b) ≡ false
either true b h k = cc
either false b h k = k

pub is_new : (w : Bytes) (names rest : List Bytes) → AreDistinctNames (names ++ w ∷ rest) → list_any (bytes_eq w) names ≡ false
is_new w [] rest h = refl
is_new w (x ∷ names) rest h = either (bytes_eq w x) (list_any (bytes_eq w) names) (turned x w (not_after x w names rest h.0)) (is_new w names rest h.1)

taken : (old new : List Bytes) (w : Bytes) (known r : Bool) → known ≡ false → r ≡ not known → new ≡ (if r then old ++ w ∷ [] else old) → new ≡ old ++ w ∷ []
taken old new w true r h k is = cc
taken old new w false true h k is = is
taken old new w false false h k is = cc

-- One name more.
pub name_added : (ds : List Def) (i : ℕ) (d : Def) (w : Bytes) (names new : List Bytes) (r : Bool) → AreDistinctNames (names_of ds) → i < length ds → d ≡ get_or ds i d → w ≡ d.name
    → names ++ names_of (drop i ds) ≡ names_of ds → r ≡ not (list_any (bytes_eq w) names) → new ≡ (if r then names ++ w ∷ [] else names)
    → new ++ names_of (drop (i + 1) ds) ≡ names_of ds
name_added ds i d w names new r distinct h is named before told after =
    let here : names ++ w ∷ names_of (drop (i + 1) ds) ≡ names_of ds =
    ap (λ (x : Bytes). names ++ x ∷ names_of (drop (i + 1) ds)) named ∙ ap (λ xs. names ++ names_of xs) (sym (from_here ds i d h is)) ∙ before in
    let fresh = is_new w names (names_of (drop (i + 1) ds)) (subst AreDistinctNames (sym here) distinct) in
    ap (λ (xs : List Bytes). xs ++ names_of (drop (i + 1) ds)) (taken names new w _ r fresh told after) ∙ append_assoc names (w ∷ []) (names_of (drop (i + 1) ds)) ∙ here
