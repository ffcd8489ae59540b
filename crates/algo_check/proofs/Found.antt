-- Where the definition of a name stands.
use Rattle.std.proofs.Common.{
  ◌≡◌,
  ℕ,
  zero,
  suc,
  ◌+◌,
  ◌<◌,
  Bool,
  not,
  true,
  false,
  cond,
  List,
  [],
  ◌∷◌,
  ◌++◌,
  length,
  map,
  Option,
  Some,
  None,
  Result,
  IfOk,
  refl,
  ap,
  sym,
  subst,
  ◌∙◌,
  arith,
  nat_lt,
  position,
  if◌then◌else◌,
}
use Rattle.std.specs.Prelude.{slice_get}
use Rattle.std.specs.List.{flat_map, position_or_len}
use Rattle.std.specs.Str.{bytes_eq}
use Rattle.std.specs.Global.{Vec}
use Rattle.std.proofs.lemmas.Bool.{ltb-true}
use Rattle.std.proofs.lemmas.Option.{slice_get_past}
use Rattle.std.proofs.lemmas.List.{map-append}
use Rattle.text_lines.proofs.Places.{missing_at, found_at}
use Rattle.syn_base.specs.Bytes.{Bytes}
use Rattle.algo_rules.specs.Refusals.{AlgoError}
use Rattle.algo_rules.specs.declared.Def.{Def}
use Rattle.algo_rules.specs.Links.{first_of, Mention, mentions, definition, unknown_by, unknown, links_of}
use Rattle.algo_rules.specs.Placed.{Checks}
use Rattle.algo_check.specs.Placing.{names_of, unknown_at, unknown_one, unknown_all, place_one, places_in, places_all, place_of, places_of}

found_by : (b : Bool) (d : Def) (o : Option Def) (ds : List Def) (p : ℕ) → o ≡ slice_get ds p → (if b then Some d else o) ≡ slice_get (d ∷ ds) (cond (not b) (1 + p) 0)
found_by true d o ds p h = refl
found_by false d o ds p h = let next : 1 + p ≡ suc p = omega arith in rw next h

-- The definition of a name stands at its place, and there is none where that is after the last.
pub found : (ds : List Def) (w : Bytes) → definition ds w ≡ slice_get ds (position_or_len (λ e. bytes_eq w e.name) ds)
found [] w = refl
found (d ∷ ds) w = found_by (bytes_eq w d.name) d (definition ds w) ds (position_or_len (λ e. bytes_eq w e.name) ds) (found ds w)

-- among the names as among the definitions
same_place : (ds : List Def) (w : Bytes) → position_or_len (bytes_eq w) (names_of ds) ≡ position_or_len (λ e. bytes_eq w e.name) ds
same_place [] w = refl
same_place (d ∷ ds) w = ap (λ (n : ℕ). cond (not (bytes_eq w d.name)) (1 + n) 0) (same_place ds w)

as_many : (ds : List Def) → length (names_of ds) ≡ length ds
as_many [] = refl
as_many (d ∷ ds) = ap suc (as_many ds)

chosen : (a n p : ℕ) → cond (nat_lt a n) (Some a) None ≡ Some p → p < n
chosen a n p h = by (nat_lt a n) refl h
  where
    by : (b : Bool) → nat_lt a n ≡ b → cond b (Some a) None ≡ Some p → p < n
    by true e k = let same : a ≡ p = cc in let low = ltb-true a n e in omega arith
    by false e k = cc

within : {A : Type 0} (xs : List A) (p : ℕ) → p < length xs → slice_get xs p ≡ None → ⊥
within [] p h k = absurd (omega (arith, h))
within (x ∷ xs) zero h k = cc
within (x ∷ xs) (suc p) h k = within xs p (omega arith) k

some_known : (m : Mention) (ds : List Def) (p : ℕ) (o : Option Def) → p < length ds → o ≡ slice_get ds p → None ≡ unknown_by m o
some_known m ds p None h is = absurd (within ds p h (sym is))
some_known m ds p (Some d) h is = refl

same_by : (m : Mention) (ds : List Def) (o : Option ℕ) → position (bytes_eq m.def) (names_of ds) ≡ o → unknown_at m o ≡ unknown_by m (definition ds m.def)
same_by m ds None h =
    let past = sym (same_place ds m.def) ∙ missing_at (bytes_eq m.def) (names_of ds) h in
    let none : definition ds m.def ≡ None = found ds m.def ∙ slice_get_past ds _ (omega (arith, past, as_many ds)) in
    sym (ap (unknown_by m) none)
same_by m ds (Some p) h =
    let at = sym (same_place ds m.def) ∙ found_at (bytes_eq m.def) (names_of ds) p h in
    let low = chosen _ _ p h in
    some_known m ds p (definition ds m.def) (omega (arith, low, as_many ds)) (found ds m.def ∙ ap (slice_get ds) at)

-- A line names a definition exactly where its name is among theirs.
pub same_one : (ds : List Def) (m : Mention) → unknown_one (names_of ds) m ≡ unknown_by m (definition ds m.def)
same_one ds m = same_by m ds (position (bytes_eq m.def) (names_of ds)) refl

map_alike : {A B : Type 0} (f g : A → B) → ((x : A) → f x ≡ g x) → (xs : List A) → map f xs ≡ map g xs
map_alike f g h [] = refl
map_alike f g h (x ∷ xs) = ap (λ y. y ∷ map f xs) (h x) ∙ ap (λ ys. g x ∷ ys) (map_alike f g h xs)

same_lines : (ds : List Def) (owners : List Def) → flat_map (λ d. map (unknown_one (names_of ds)) (mentions d)) owners ≡ map (λ m. unknown_by m (definition ds m.def)) (flat_map mentions owners)
same_lines ds [] = refl
same_lines ds (d ∷ owners) =
    ap (λ xs. xs ++ flat_map (λ e. map (unknown_one (names_of ds)) (mentions e)) owners) (map_alike (unknown_one (names_of ds)) (λ m. unknown_by m (definition ds m.def)) (same_one ds) (mentions d))
    ∙ ap (λ xs. map (λ m. unknown_by m (definition ds m.def)) (mentions d) ++ xs) (same_lines ds owners)
    ∙ sym (map-append (λ m. unknown_by m (definition ds m.def)) (mentions d) (flat_map mentions owners))

pub same_unknown : (ds : List Def) → unknown_all (names_of ds) ds ≡ unknown ds
same_unknown ds = ap first_of (same_lines ds ds)

pub same_links : (ds : List Def) → places_all (names_of ds) ds ≡ links_of ds
same_links ds = map_alike (λ d. places_in (names_of ds) (mentions d)) (λ d. places_of ds (mentions d))
    (λ d. map_alike (place_one (names_of ds)) (place_of ds) (λ m. same_place ds m.def) (mentions d)) ds

-- What was checked by names is checked of the definitions.
pub known_told : {A : Type 0} (r : Result A AlgoError) (ds : List Def) (names : List Bytes) → names ≡ names_of ds → Checks r (unknown_all names ds) → Checks r (unknown ds)
known_told r ds names is h = subst (λ o. Checks r o) (ap (λ ns. unknown_all ns ds) is ∙ same_unknown ds) h

pub linked_by : (r : Result (Vec (List ℕ)) AlgoError) (ds : List Def) (names : List Bytes) → names ≡ names_of ds → IfOk r (λ v. v.items ≡ places_all names ds) → IfOk r (λ v. v.items ≡ links_of ds)
linked_by r ds names is h = subst (λ x. IfOk r (λ v. v.items ≡ x)) (ap (λ ns. places_all ns ds) is ∙ same_links ds) h
