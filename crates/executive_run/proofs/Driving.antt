-- Drivers and groups of a fabric, place by place, and that a turn of all sequences goes on.
use Rattle.std.proofs.Common.{◌≡◌, ℕ, suc, zero, ◌+◌, ◌<◌, true, false, List, length, get_or, refl, sym, subst, ap, ◌∙◌, arith}
use Rattle.semaphore_core.specs.Core.{run, full, count, is_enabled}
use Rattle.semaphore_core.specs.Told.{told}
use Rattle.semaphore_core.specs.Laws.{HasLaws}
use Rattle.word_table.specs.Driver.{FabricData, DriverData, IsNew, IsFinished, AreDrivers, AreNew, AreFinished}
use Rattle.executive_run.specs.declared.group.Group.{Group}
use Rattle.executive_run.specs.Each.{Each}
use Rattle.executive_run.specs.Going.{GoesOn, IsStuck, steps_left}
use Rattle.executive_run.specs.Groups.{Belongs, IsDriven}
use Rattle.executive_run.specs.Prepared.{AreGroups}

-- the driver of group k, before any step
pub record IsNext (f : FabricData) (k : ℕ) (d : DriverData) : Type 0 where
  pub fabric : d.fabric ≡ f
  pub number : d.group ≡ k
  pub new : IsNew d

-- the driver of group k, after all its steps
pub record IsDone (f : FabricData) (k : ℕ) (d : DriverData) : Type 0 where
  pub fabric : d.fabric ≡ f
  pub number : d.group ≡ k
  pub finished : IsFinished d

-- group k, all of whose steps were made
pub record IsDrivenAt (f : FabricData) (k : ℕ) (piece : Group) : Type 0 where
  pub belongs : Belongs f k piece
  pub driven : IsDriven piece

pub next_each : (f : FabricData) (drivers : List DriverData) (n : ℕ) → n ≡ 0 → AreDrivers f drivers → AreNew drivers → Each (λ k. IsNext f (n + k)) drivers
next_each f drivers n e are new k d is = record {
  fabric = (are.each k d is).0;
  number = (are.each k d is).1 ∙ (let s : k ≡ n + k = omega (arith, e) in s);
  new = new k d is;
}

pub driven_each : (f : FabricData) (groups : List Group) (n : ℕ) → n ≡ 0 → AreGroups f groups → Each (λ k. IsDriven) groups → Each (λ k. IsDrivenAt f (n + k)) groups
driven_each f groups n e are driven k piece is =
    let P : ℕ → Type 0 = λ i. IsDrivenAt f i piece in
    subst P (let s : k ≡ n + k = omega (arith, e) in s) (record { belongs = are.each k piece is; driven = driven k piece is })

pub done_of : (f : FabricData) (k : ℕ) (piece : Group) → IsDrivenAt f k piece → IsDone f k piece.driver
done_of f k piece h = record { fabric = h.belongs.fabric; number = h.belongs.number; finished = h.driven }

pub belongs_of : (f : FabricData) (k : ℕ) (d : DriverData) (piece : Group) → IsNext f k d → piece.driver ≡ d → k < f.groups → Belongs f k piece
belongs_of f k d piece h e l = record { fabric = ap (λ (x : DriverData). x.fabric) e ∙ h.fabric; number = ap (λ (x : DriverData). x.group) e ∙ h.number; below = l }

pub drivers_are : (f : FabricData) (drivers : List DriverData) → length drivers ≡ f.groups → Each (IsDone f) drivers → AreDrivers f drivers
drivers_are f drivers e all = record { many = e; each = λ g d is. ((all g d is).fabric, (all g d is).number) }

pub drivers_finished : (f : FabricData) (drivers : List DriverData) → Each (IsDone f) drivers → AreFinished drivers
drivers_finished f drivers all g d is = (all g d is).finished

-- a job's laws leave no reached counts at which no sequence is enabled before all is done
pub not_stuck : (d : DriverData) → HasLaws d.fabric.job → IsStuck d → ⊥
not_stuck d laws stuck =
    let at : (run d.fabric.job stuck.reached.0).counts ≡ d.counts = stuck.reached.1 in
    let below : count (run d.fabric.job stuck.reached.0) stuck.seq < full d.fabric.job stuck.seq = subst (λ (c : List ℕ). get_or c stuck.seq 0 < full d.fabric.job stuck.seq) (sym at) stuck.more in
    let some = laws.progress stuck.reached.0 stuck.seq stuck.there below in
    let is : run d.fabric.job stuck.reached.0 ≡ told d.fabric.job d.counts = laws.told stuck.reached.0 ∙ ap (told d.fabric.job) at in
    let on : is_enabled d.fabric.job (told d.fabric.job d.counts) some.0 ≡ true = ap (λ z. is_enabled d.fabric.job z some.0) (sym is) ∙ some.2 in
    let off : is_enabled d.fabric.job (told d.fabric.job d.counts) some.0 ≡ false = stuck.disabled some.0 some.1 in
    cc

-- a turn that leaves something to do makes a step
pub smaller : (old new : DriverData) (n w : ℕ) → HasLaws new.fabric.job → GoesOn old new n → 0 < w → (n ≡ 0 → 0 < w → IsStuck new) → steps_left new < steps_left old
smaller old new zero w laws goes some stuck = absurd (not_stuck new laws (stuck refl some))
smaller old new (suc n) w laws goes some stuck = goes.fewer (omega arith)
