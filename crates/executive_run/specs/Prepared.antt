-- What a run takes with it.
use Rattle.std.specs.Prelude.{◌≡◌, ℕ, ◌<◌, ◌≤◌, List, length}
use Rattle.semaphore_core.specs.Job.{JobData}
use Rattle.word_table.specs.Driver.{FabricData}
use Rattle.executive_run.specs.declared.group.Group.{Group}
use Rattle.executive_run.specs.Each.{Each}
use Rattle.executive_run.specs.Groups.{Belongs}

-- all groups of the fabric, by their numbers
pub record AreGroups (f : FabricData) (groups : List Group) : Type 0 where
  pub many : length groups ≡ f.groups
  pub each : Each (Belongs f) groups

-- the groups of a fabric of the job, at least one
pub record IsReady (j : JobData) (f : FabricData) (groups : List Group) : Type 0 where
  pub job : f.job ≡ j
  pub some : 0 < f.groups
  pub are_all : AreGroups f groups

-- an empty list of this length has room for this many
pub record IsRoom (count len capacity : ℕ) : Type 0 where
  pub empty : len ≡ 0
  pub enough : count ≤ capacity
