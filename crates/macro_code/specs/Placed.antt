-- Where the numbers of declarations stand.
use Rattle.std.specs.Prelude.{
  ◌≡◌,
  ℕ,
  ◌<◌,
  Bool,
  true,
  false,
  nat_le,
  ◌||◌,
  List,
  length,
  Option,
  Some,
  None,
  is_some,
  slice_index_or,
  slice_set,
}
use Rattle.macro_code.specs.declared.numbered.Numbered.{Numbered}
use Rattle.macro_code.specs.ReadText.{misnumbered, place_of}
use Rattle.macro_code.specs.declared.places.Places.{Places}
use Rattle.macro_code.specs.declared.places.Places.TheVariants.{Each, Wrong}

-- each number below their count has the place of its declaration
pub record ArePlaced (places : List (Option ℕ)) (ds : List Numbered) (count : ℕ) : Type 0 where
  pub many : length places ≡ count
  pub each : (n : ℕ) → n < count → slice_index_or places n None ≡ place_of n ds

abbrev pub IsPlaced : Places → List Numbered → Type 0
IsPlaced (Each v) ds = (misnumbered ds ≡ None) × ArePlaced v.items ds (length ds)
IsPlaced (Wrong line) ds = misnumbered ds ≡ Some line

-- a number took its place, or it is too great or has one
abbrev pub TakesPlace : Bool → List (Option ℕ) → ℕ → ℕ → List (Option ℕ) → Type 0
TakesPlace true old number place new =
    (number < length old) × ((slice_index_or old number None ≡ None) × (new ≡ slice_set old number (Some place)))
TakesPlace false old number place new =
    (new ≡ old) × ((nat_le (length old) number || is_some (slice_index_or old number None)) ≡ true)
