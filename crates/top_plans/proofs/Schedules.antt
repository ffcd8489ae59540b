-- The schedule of an accepted algorithm on an accepted architecture is valid.
use Rattle.std.proofs.Common.{◌≡◌, true, length, Option, Some, None, Result, Ok, refl, subst}
use Rattle.compiler.specs.Schedules.{schedule_of}
use Rattle.syn_base.specs.Bytes.{Bytes}
use Rattle.text_lines.specs.Refusals.{refused}
use Rattle.pressure_heuristic.specs.Computed.{table_of}
use Rattle.pressure_heuristic.proofs.LeastRoutes.{routes_are_least}
use Rattle.pressure_heuristic.specs.Tasks.{task}
use Rattle.pressure_heuristic.proofs.Tasks.{tasks_are_given}
use Rattle.pressure_heuristic.proofs.Tight.{runs_are_tight}
use Rattle.pressure_heuristic.proofs.Whole.{runs_are_valid}
use Rattle.archi_reader.proofs.Accepted.{described_are}
use Rattle.self_timed.specs.Text.{Described, description_of}
use Rattle.self_timed.specs.declared.ArchiCause.{ArchiCause}
use Rattle.self_timed.specs.Refusals.{ArchiRefusal}
use Rattle.self_timed.specs.declared.ArchiCause.TheVariants.{NoDuration}
use Rattle.self_timed.specs.Table.{Table, durations_of, entry_in, table, missing, unless_missing}
use Rattle.self_timed.proofs.Kept as durations
use Rattle.self_timed.specs.Graph.{Graph}
use Rattle.self_timed.specs.FlatValid.{is_flat}
use Rattle.self_timed.specs.Tight.{is_tight}
use Rattle.self_timed.specs.ScheduleValid.{is_valid}

abbrev gives : Table → Result Table ArchiRefusal
gives t = Ok t

abbrev stops : ArchiCause → Result Table ArchiRefusal
stops why = refused 0 why

same_table : (x y : Table) → gives x ≡ gives y → x ≡ y
same_table x y e = cc

not_given : (why : ArchiCause) (x : Table) → stops why ≡ gives x → ⊥
not_given why x e = cc

none_missing : (o : Option Bytes) (made t : Table) → unless_missing o made ≡ Ok t → (o ≡ None) × (made ≡ t)
none_missing None made t e = (refl, same_table made t e)
none_missing (Some def) made t e = absurd (not_given (NoDuration def) t e)

pub schedules_are_valid : (g : Graph) (text : Bytes) (d : Described) (t : Table) → is_flat g ≡ true → description_of text ≡ Ok d
    → durations_of g d ≡ Ok t → is_valid g d.archi (entry_in t) (schedule_of g d.archi t) ≡ true
schedules_are_valid g text d t valid describes lasts =
    let made = table g.vertices (length d.archi.operators) d.durations in
    let none = none_missing (missing d.durations g.vertices) made t lasts in
    let archi = described_are text d describes in
    subst (λ (x : Table). is_valid g d.archi (entry_in x) (schedule_of g d.archi x) ≡ true) none.1
    (runs_are_valid (task g d.archi (table_of d.archi) made)
    (tasks_are_given g d.archi (table_of d.archi) d.durations valid archi.0 (routes_are_least d.archi archi.0) (durations.accepted text d describes) none.0))

-- and it is tight
pub schedules_are_tight : (g : Graph) (text : Bytes) (d : Described) (t : Table) → is_flat g ≡ true → description_of text ≡ Ok d → durations_of g d ≡ Ok t → is_tight g (schedule_of g d.archi t) ≡ true
schedules_are_tight g text d t valid describes lasts =
    let made = table g.vertices (length d.archi.operators) d.durations in
    let none = none_missing (missing d.durations g.vertices) made t lasts in
    let archi = described_are text d describes in
    subst (λ (x : Table). is_tight g (schedule_of g d.archi x) ≡ true) none.1
    (runs_are_tight (task g d.archi (table_of d.archi) made)
    (tasks_are_given g d.archi (table_of d.archi) d.durations valid archi.0 (routes_are_least d.archi archi.0) (durations.accepted text d describes) none.0))
