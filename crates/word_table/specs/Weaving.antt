-- A fabric and its drivers, when they are made.
use Rattle.std.specs.Prelude.{◌≡◌, ℕ, suc, ◌+◌, ◌<◌, ◌≤◌, ◌%◌, List, [], ◌∷◌, length, Some, ℤ}
use Rattle.word_rule.specs.Job.{JobData}
use Rattle.word_rule.specs.declared.view.Knowledge.{Knowledge}
use Rattle.word_rule.specs.declared.view.View.{View}
use Rattle.word_rule.specs.declared.view.View.TheVariants.{Spent, Holds}
use Rattle.word_rule.specs.Table.{SeatData}
use Rattle.word_rule.specs.Views.{count_in}
use Rattle.word_table.specs.declared.driver_parts.DriverParts.{DriverParts}
use Rattle.word_table.specs.declared.fabric_parts.FabricParts.{FabricParts}
use Rattle.word_table.specs.Driver.{FabricData, DriverData, IsNew}
use Rattle.word_table.specs.Parts.{AreDriverParts, driver_view}

-- where these lists begin one after another, the first at this word, and where the last one ends
abbrev pub starts_from : ℕ → List (List ℤ) → List ℕ
starts_from first [] = []
starts_from first (xs ∷ xss) = first ∷ starts_from (first + length xs) xss

abbrev pub end_from : ℕ → List (List ℤ) → ℕ
end_from first [] = first
end_from first (xs ∷ xss) = end_from (first + length xs) xss

-- no sequence that it drives has made a micro-step
pub record IsNewView (j : JobData) (k : Knowledge) : Type 0 where
  pub job : k.job ≡ j
  pub looks : k.looks ≡ 0
  pub there : (s n : ℕ) → count_in k.driven s ≡ Some n → s < length j.program.seqs
  pub none_made : (s n : ℕ) → count_in k.driven s ≡ Some n → n ≡ 0

-- Driver number g of this many: it drives the sequences whose number leaves g, and none has made a micro-step.
abbrev pub DrivesGroup : JobData → ℕ → ℕ → View → Type 0
DrivesGroup j groups g Spent = ⊥
DrivesGroup j groups g (Holds k) = IsNewView j k ×
    ((s : ℕ) → s < length j.program.seqs → s % groups ≡ g → count_in k.driven s ≡ Some 0) ×
    ((s n : ℕ) → count_in k.driven s ≡ Some n → s % groups ≡ g)

-- what is left for the groups from g on
abbrev pub IsLeft : JobData → ℕ → ℕ → View → Type 0
IsLeft j groups g Spent = ⊥
IsLeft j groups g (Holds k) = IsNewView j k ×
    ((s : ℕ) → s < length j.program.seqs → g ≤ s % groups → count_in k.driven s ≡ Some 0)

-- a driver of group g of this fabric with this seat
pub record IsGroup (f : FabricParts) (seat : SeatData) (g : ℕ) (d : DriverParts) : Type 0 where
  pub driver : AreDriverParts d
  pub seated : d.seat ≡ seat
  pub job : d.job.now ≡ f.job.now
  pub groups : d.groups ≡ f.groups
  pub group : d.group ≡ g
  pub new : IsNew (driver_view d)

-- as contracts see it
pub record IsFirst (f : FabricData) (g : ℕ) (d : DriverData) : Type 0 where
  pub fabric : d.fabric ≡ f
  pub group : d.group ≡ g
  pub new : IsNew d

-- by their numbers, from g on
abbrev pub AreFirst : FabricData → ℕ → List DriverData → Type 0
AreFirst f g [] = Unit {0}
AreFirst f g (d ∷ ds) = IsFirst f g d × AreFirst f (suc g) ds
