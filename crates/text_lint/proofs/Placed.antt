-- The definition of a name stands at the place of the name.
use Rattle.std.proofs.Common.{◌≡◌, ℕ, ◌+◌, not, cond, suc, List, [], ◌∷◌, length, Some, None, position, refl, ap, sym, ◌∙◌, arith}
use Rattle.std.specs.Prelude.{slice_get}
use Rattle.std.specs.List.{position_or_len}
use Rattle.std.specs.Str.{bytes_eq}
use Rattle.std.proofs.lemmas.Option.{slice_get_past}
use Rattle.text_lines.proofs.Places.{found_at, missing_at}
use Rattle.syn_base.specs.Bytes.{Bytes}
use Rattle.algo_rules.specs.declared.Def.{Def}
use Rattle.algo_rules.specs.Links.{definition}
use Rattle.algo_check.specs.Placing.{names_of}
use Rattle.algo_check.proofs.Found.{found}

same_place : (ds : List Def) (w : Bytes) → position_or_len (bytes_eq w) (names_of ds) ≡ position_or_len (λ e. bytes_eq w e.name) ds
same_place [] w = refl
same_place (d ∷ ds) w = ap (λ (n : ℕ). cond (not (bytes_eq w d.name)) (1 + n) 0) (same_place ds w)

as_many : (ds : List Def) → length (names_of ds) ≡ length ds
as_many [] = refl
as_many (d ∷ ds) = ap suc (as_many ds)

pub at_place : (ds : List Def) (names : List Bytes) (w : Bytes) (place : ℕ) → names ≡ names_of ds → position (bytes_eq w) names ≡ Some place
    → slice_get ds place ≡ definition ds w
at_place ds names w place are h =
    let at : position (bytes_eq w) (names_of ds) ≡ Some place = ap (λ (ns : List Bytes). position (bytes_eq w) ns) (sym are) ∙ h in
    ap (λ (n : ℕ). slice_get ds n) (sym (found_at (bytes_eq w) (names_of ds) place at) ∙ same_place ds w) ∙ sym (found ds w)

pub at_none : (ds : List Def) (names : List Bytes) (w : Bytes) → names ≡ names_of ds → position (bytes_eq w) names ≡ None → definition ds w ≡ None
at_none ds names w are h =
    let none : position (bytes_eq w) (names_of ds) ≡ None = ap (λ (ns : List Bytes). position (bytes_eq w) ns) (sym are) ∙ h in
    let past : position_or_len (λ (e : Def). bytes_eq w e.name) ds ≡ length (names_of ds) = sym (same_place ds w) ∙ missing_at (bytes_eq w) (names_of ds) none in
    found ds w ∙ slice_get_past ds _ (omega (arith, past, as_many ds))
