-- The places in which the groups of a fabric stand while no worker has them.
use Rattle.std.specs.Prelude.{◌≡◌, ℕ, List, length}
use Rattle.word_table.specs.Driver.{FabricData}
use Rattle.executive_run.specs.declared.group.Group.{Group}
use Rattle.executive_run.specs.declared.place.Home.{Home}
use Rattle.executive_run.specs.declared.place.Place.{Place}
use Rattle.executive_run.specs.Each.{Each}

-- what a place keeps: whatever group stands there is on its fabric and has its number
pub record IsAtHome (home : Home) (group : Group) : Type 0 where
  pub fabric : group.driver.fabric ≡ home.fabric.value
  pub number : group.driver.group ≡ home.group

-- the place of this group of the fabric
pub record IsPlaceOf (f : FabricData) (k : ℕ) (place : Place) : Type 0 where
  pub fabric : place.slot.fabric.value ≡ f
  pub number : place.slot.group ≡ k

-- the places of all groups of the fabric, by their numbers
pub record ArePlaces (f : FabricData) (places : List Place) : Type 0 where
  pub many : length places ≡ f.groups
  pub each : Each (IsPlaceOf f) places
