-- What the durations that really occur are refused for is never want of memory.
use Rattle.std.proofs.Common.{ℕ, List, Option, Some, None, Result, Ok, Err}
use Rattle.syn_base.specs.Bytes.{Bytes}
use Rattle.text_lines.specs.Refusals as text
use Rattle.actual_durations.specs.Actual.{unless_fault, first_fault, entries_ticks, actual_by, if_described, actual_of}
use Rattle.self_timed.specs.Graph.{Graph}
use Rattle.self_timed.specs.Archi.{Architecture}
use Rattle.self_timed.specs.Refusals.{ArchiRefusal}
use Rattle.self_timed.specs.Text.{Described, description_of}
use Rattle.self_timed.specs.Table.{Table}
use Rattle.self_timed.specs.declared.Schedule.{Schedule}
use Rattle.command_status.specs.declared.ActualFault.{ActualFault}
use Rattle.command_status.specs.declared.ActualError.{ActualError}
use Rattle.command_status.specs.declared.ActualError.TheVariants.{Refused, Limit, OutOfMemory}
use Rattle.top_plans.proofs.Only.{Only, ok, either}

abbrev pub Stays : ActualError → Type 0
Stays (Refused fault) = Unit {0}
Stays (Limit fault) = Unit {0}
Stays OutOfMemory = ⊥

fault_safe : (o : Option ActualFault) (ticks : List ℕ) → Only Stays (unless_fault o ticks)
fault_safe (Some f) ticks = record { error = tt }
fault_safe None ticks = ok ticks

refuses : {A : Type 0} (fault : ActualFault) → Only {A = A} Stays (Err (Refused fault))
refuses fault = record { error = tt }

by_safe : (g : Graph) (a : Architecture) (t : Table) (s : Schedule) (d : Described) → Only Stays (actual_by g a t s d)
by_safe g a t s d = either _ _ _ (fault_safe (first_fault g a t s d) (entries_ticks g s d)) (refuses _)

described_safe : (r : Result Described ArchiRefusal) (next : Described → Result (List ℕ) ActualError) → ((d : Described) → Only Stays (next d)) → Only Stays (if_described r next)
described_safe (Ok d) next q = q d
described_safe (Err (text.Refused f)) next q = record { error = tt }
described_safe (Err (text.Limit f)) next q = record { error = tt }

pub actual_safe : (g : Graph) (a : Architecture) (t : Table) (s : Schedule) (bytes : Bytes) → Only Stays (actual_of g a t s bytes)
actual_safe g a t s bytes = described_safe (description_of bytes) (actual_by g a t s) (by_safe g a t s)
