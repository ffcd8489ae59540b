-- Groups of sequences on a fabric.
use Rattle.std.specs.Prelude.{◌≡◌, ℕ, ◌<◌}
use Rattle.word_table.specs.Driver.{FabricData, IsFinished}
use Rattle.executive_run.specs.declared.group.Group.{Group}

-- the group of this number of the fabric
pub record Belongs (f : FabricData) (k : ℕ) (group : Group) : Type 0 where
  pub fabric : group.driver.fabric ≡ f
  pub number : group.driver.group ≡ k
  pub below : k < f.groups

-- each of its sequences has made all its micro-steps
abbrev pub IsDriven : Group → Type 0
IsDriven group = IsFinished group.driver
