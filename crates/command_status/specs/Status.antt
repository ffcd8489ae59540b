-- How a command ends.
use Rattle.std.specs.Prelude.{ℕ}
use Rattle.command_plan.specs.Ending.{Ending, done, refused, unread, unwritten, no_memory}
use Rattle.archi_defs.specs.Refusals.{ArchiError, ArchiFault, ArchiRefusal}
use Rattle.text_lines.specs.declared.fault.TextError.TheVariants as error
use Rattle.text_lines.specs.Refusals as text
use Rattle.sensor_table.specs.declared.fault.SensorError.{SensorError}
use Rattle.sensor_table.specs.declared.fault.SensorError.TheVariants as sensors
use Rattle.sensor_table.specs.declared.fault.SensorFault.{SensorFault}
use Rattle.sequence_build.specs.declared.error.BuildError.{BuildError}
use Rattle.sequence_build.specs.declared.error.BuildError.TheVariants as build
use Rattle.macro_code.specs.Refusals.{CodeError, CodeFault, CodeRefusal}
use Rattle.check_cause.specs.declared.cause.CheckCause.{CheckCause}
use Rattle.actual_defs.specs.declared.fault.ActualError.{ActualError}
use Rattle.actual_defs.specs.declared.fault.ActualError.TheVariants as durations
use Rattle.actual_defs.specs.declared.fault.ActualFault.{ActualFault}
use Rattle.syn_base.specs.declared.limits.LimitFault.{LimitFault}
use Rattle.algo_text.specs.Refusals.{AlgoError, AlgoFault, AlgoRefusal}
use Rattle.command_status.specs.declared.status.Status.{Status}
use Rattle.command_status.specs.declared.status.Status.TheVariants.{
  Done,
  Usage,
  ReadFault,
  WriteFault,
  AlgoRefused,
  ArchiRefused,
  SensorsRefused,
  CodeRefused,
  CheckRefused,
  ActualRefused,
  Limit,
  OutOfMemory,
}

-- Why a command is refused. No definition says `wants_memory` (law `no_plan_wants_memory` of `top_plans`): it is there
-- because the types of errors have it.
pub data Refusal : Type 0 where
  usage : Refusal
  bad_algorithm : AlgoFault → Refusal
  bad_architecture : ArchiFault → Refusal
  bad_sensors : SensorFault → Refusal
  bad_code : CodeFault → Refusal
  failed_check : CheckCause → Refusal
  bad_durations : ActualFault → Refusal
  above : LimitFault → Refusal
  wants_memory : Refusal

-- the ending of a plan that a status stands for
abbrev pub ending_of : Status → Ending Refusal
ending_of Done = done
ending_of Usage = refused usage
ending_of (ReadFault file) = unread file
ending_of WriteFault = unwritten
ending_of (AlgoRefused fault) = refused (bad_algorithm fault)
ending_of (ArchiRefused fault) = refused (bad_architecture fault)
ending_of (SensorsRefused fault) = refused (bad_sensors fault)
ending_of (CodeRefused fault) = refused (bad_code fault)
ending_of (CheckRefused cause) = refused (failed_check cause)
ending_of (ActualRefused fault) = refused (bad_durations fault)
ending_of (Limit fault) = refused (above fault)
ending_of OutOfMemory = no_memory

-- the number with which the program ends
abbrev pub number_of : Status → ℕ
number_of Done = 0
number_of Usage = 2
number_of (ReadFault file) = 3
number_of WriteFault = 4
number_of (AlgoRefused fault) = 5
number_of (ArchiRefused fault) = 6
number_of (SensorsRefused fault) = 7
number_of (Limit fault) = 8
number_of OutOfMemory = 9
number_of (CodeRefused fault) = 11
number_of (CheckRefused cause) = 12
number_of (ActualRefused fault) = 13

-- the refusal by an algorithm's text
abbrev pub of_algorithm : AlgoRefusal → Refusal
of_algorithm (text.Refused fault) = bad_algorithm fault
of_algorithm (text.Limit fault) = above fault

abbrev pub status_of_algorithm : AlgoError → Status
status_of_algorithm (error.Refused fault) = AlgoRefused fault
status_of_algorithm (error.Limit fault) = Limit fault
status_of_algorithm error.OutOfMemory = OutOfMemory

-- the refusal by an architecture's text or its durations
abbrev pub of_architecture : ArchiRefusal → Refusal
of_architecture (text.Refused fault) = bad_architecture fault
of_architecture (text.Limit fault) = above fault

abbrev pub status_of_architecture : ArchiError → Status
status_of_architecture (error.Refused fault) = ArchiRefused fault
status_of_architecture (error.Limit fault) = Limit fault
status_of_architecture error.OutOfMemory = OutOfMemory

-- the refusal by a sensor table
abbrev pub of_sensors : SensorError → Refusal
of_sensors (sensors.Refused fault) = bad_sensors fault
of_sensors (sensors.Limit fault) = above fault
of_sensors sensors.OutOfMemory = wants_memory

abbrev pub status_of_sensors : SensorError → Status
status_of_sensors (sensors.Refused fault) = SensorsRefused fault
status_of_sensors (sensors.Limit fault) = Limit fault
status_of_sensors sensors.OutOfMemory = OutOfMemory

-- the refusal by a text of macro-code
abbrev pub of_code : CodeRefusal → Refusal
of_code (text.Refused fault) = bad_code fault
of_code (text.Limit fault) = above fault

abbrev pub status_of_code : CodeError → Status
status_of_code (error.Refused fault) = CodeRefused fault
status_of_code (error.Limit fault) = Limit fault
status_of_code error.OutOfMemory = OutOfMemory

-- the refusal by a text of the durations that really occur
abbrev pub of_durations : ActualError → Refusal
of_durations (durations.Refused fault) = bad_durations fault
of_durations (durations.Limit fault) = above fault
of_durations durations.OutOfMemory = wants_memory

abbrev pub status_of_durations : ActualError → Status
status_of_durations (durations.Refused fault) = ActualRefused fault
status_of_durations (durations.Limit fault) = Limit fault
status_of_durations durations.OutOfMemory = OutOfMemory

-- the status of a schedule that gets no program
abbrev pub status_of_build : BuildError → Status
status_of_build (build.Limit fault) = Limit fault
status_of_build build.OutOfMemory = OutOfMemory
