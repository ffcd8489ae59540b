-- A driver may go to another thread, and a fabric and the places of groups may be shared by threads.
use denote.RattleType.{RattleType}
use denote.Ref.{NamedLft}
use denote.Param.Send.{IsSend, IsSync, view_send, view_sync, sendable, whole-keyless}
use denote.Param.SendFields.{declared_send, declared_sync}
use Rattle.std.proofs.Crossing as std
use Rattle.atomic_table.proofs.shared.Seat.TheSendSync as table_seat
use Rattle.atomic_table.specs.contracts.shared.Seat as TableSeat
use Rattle.counted_slot.proofs.Counted.TheSendSync as counted
use Rattle.syn_base.proofs.items.Items.TheSendSync as items
use Rattle.syn_base.proofs.rows.SensorRows.TheSendSync as sensors
use Rattle.body_lang.proofs.expression.Expr.TheLaws.TheKnot as knot
use Rattle.body_lang.specs.contracts.body.Body as Body
use Rattle.flat_graph.proofs.vertex.Vertex.TheSendSync as vertex
use Rattle.flat_graph.specs.contracts.flat.Flat as Flat
use Rattle.executive_program.proofs.program.Program.TheSendSync as program
use Rattle.executive_program.proofs.expand.SeqSteps.TheSendSync as steps
use Rattle.semaphore_core.proofs.own_parts.OwnParts.TheSendSync as own
use Rattle.semaphore_core.specs.contracts.job.Job as Job
use Rattle.word_rule.proofs.table.WordSeat.TheSendSync as seat
use Rattle.word_rule.specs.contracts.table.WordSeat as WordSeat
use Rattle.word_rule.specs.contracts.table.WordSeat.TheInside as AsWordSeat
use Rattle.word_rule.proofs.table.WordTable.TheSendSync as table
use Rattle.word_table.proofs.loop_place.LoopPlace.TheSendSync as loop_place
use Rattle.word_table.specs.contracts.driver_parts.DriverParts as DriverParts
use Rattle.word_table.specs.contracts.fabric_parts.FabricParts as FabricParts
use Rattle.word_table.specs.contracts.fabric.Driver as Driver
use Rattle.word_table.specs.contracts.fabric.Driver.TheInside as AsDriver
use Rattle.word_table.specs.contracts.fabric.Fabric as Fabric
use Rattle.word_table.specs.contracts.fabric.Fabric.TheInside as AsFabric
use Rattle.executive_run.specs.contracts.group.Group as Group
use Rattle.executive_run.specs.contracts.place.Place as Place
use Rattle.executive_run.specs.contracts.crew.Crew as Crew

Body-sync : IsSync Body.the_row
Body-sync = search (sendable, std.crosses, knot.crosses) depth 40

Flat-sync : IsSync Flat.the_row
Flat-sync = search (sendable, std.crosses, vertex.the_sync, Body-sync) depth 40

Job-sync : (a : NamedLft) → IsSync (Job.the_row a)
Job-sync a = search (sendable, std.crosses, program.the_sync, sensors.the_sync, items.the_sync, Flat-sync) depth 40

DriverParts-send : (a : NamedLft) → IsSend (DriverParts.the_row a)
DriverParts-send a = search (sendable, std.crosses, seat.the_send, own.the_send, Job-sync) depth 40

FabricParts-sync : (a : NamedLft) → IsSync (FabricParts.the_row a)
FabricParts-sync a = search (sendable, std.crosses, table.the_sync, steps.the_sync, Job-sync) depth 40

pub Driver-send : (a : NamedLft) → IsSend (Driver.the_row a)
Driver-send a = view_send (AsDriver.the_row a) _ _ _ _ (declared_send (AsDriver.the_type a) (DriverParts-send a, (search (sendable, std.crosses, loop_place.the_send) depth 20, tt)))

pub Fabric-sync : (a : NamedLft) → IsSync (Fabric.the_row a)
Fabric-sync a = view_sync (AsFabric.the_row a) _ _ _ _ (declared_sync (AsFabric.the_type a) (FabricParts-sync a, tt))

-- Whoever reads a seat through a reference has a part of what it owns, which names no thread.
Seat-sync : (S V : RattleType) → IsSend S → IsSync (TableSeat.the_row S V)
Seat-sync S V s = record { shared = λ d b o κ q. whole-keyless _ _ (table_seat.the_send S V s).owned q d b o }

WordSeat-sync : (a : NamedLft) → IsSync (WordSeat.the_row a)
WordSeat-sync a = view_sync (AsWordSeat.the_row a) _ _ _ _ (declared_sync (AsWordSeat.the_type a) (search (sendable, Seat-sync) depth 20, tt))

DriverParts-sync : (a : NamedLft) → IsSync (DriverParts.the_row a)
DriverParts-sync a = search (sendable, std.crosses, WordSeat-sync, own.the_sync, Job-sync) depth 40

Driver-sync : (a : NamedLft) → IsSync (Driver.the_row a)
Driver-sync a = view_sync (AsDriver.the_row a) _ _ _ _ (declared_sync (AsDriver.the_type a) (DriverParts-sync a, (search (sendable, std.crosses, loop_place.the_sync) depth 20, tt)))

Group-send : (a : NamedLft) → IsSend (Group.the_row a)
Group-send a = declared_send (Group.the_type a) (Driver-send a, (search (sendable, std.crosses) depth 20, tt))

Group-sync : (a : NamedLft) → IsSync (Group.the_row a)
Group-sync a = declared_sync (Group.the_type a) (Driver-sync a, (search (sendable, std.crosses) depth 20, tt))

Place-sync : (a : NamedLft) → IsSync (Place.the_row a)
Place-sync a = declared_sync (Place.the_type a) (search (sendable, std.crosses, counted.the_sync, Group-send, Group-sync) depth 40, tt)

pub Crew-send : (e a : NamedLft) (R G : RattleType) → IsSync R → IsSync G → IsSend (Crew.the_row e a R G)
Crew-send e a R G r y =
    declared_send (Crew.the_type e a R G) (
      search sendable depth 10,
      (
        search (sendable, Fabric-sync) depth 10,
        (
          search sendable depth 10,
          (
            search (sendable, std.crosses, Place-sync) depth 20,
            (search (sendable, std.crosses) depth 20, (search (sendable, std.crosses) depth 20, tt)),
          ),
        ),
      ),
    )
