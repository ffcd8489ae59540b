-- What a shelf tells, and what reading does to it.
use Rattle.std.specs.Prelude.{◌≡◌, ◌≢◌, ℕ, ◌+◌, ◌-◌, ◌<◌, ◌≤◌, List, length, take, drop, Option, IfSome}
use Rattle.syn_base.specs.declared.limits.LimitFault.{LimitFault}
use Rattle.syn_base.specs.declared.limits.LimitKind.TheVariants as limit
use Rattle.syn_base.specs.Limits.{bound_of}
use Rattle.syn_base.specs.Bytes.{Bytes}
use Rattle.outside.specs.Faults.{Rose}
use Rattle.outside.specs.declared.file.File.{File}
use Rattle.outside.specs.declared.file.ReadAnswer.{ReadAnswer}
use Rattle.outside.specs.declared.file.ReadAnswer.TheVariants.{Fault, TooLong, OutOfMemory}

-- The bytes under each name, where the shelf tells them, and the faults of each file and name.
pub record Held : Type 0 where
  pub told : Bytes → Option Bytes
  pub faults : File → Bytes → ℕ

-- What was told is told, and no count fell.
pub record Stays (old new : Held) : Type 0 where
  pub told : (name : Bytes) → new.told name ≡ old.told name
  pub faults : (file : File) (name : Bytes) → old.faults file name ≤ new.faults file name

-- Only this file's counts may have changed.
abbrev pub OthersStay : File → Held → Held → Type 0
OthersStay file old new = (other : File) (name : Bytes) → other ≢ file → new.faults other name ≡ old.faults other name

-- As many bytes of a file as n says, from a place on, were put into a buffer.
pub record Took (file : Bytes) (at n : ℕ) (buffer : List ℕ) : Type 0 where
  pub bytes : take n buffer ≡ take n (drop at file)
  pub within : n ≤ length file - at
  -- Into a buffer with room no bytes are put only at the end of the file.
  pub ends : 0 < length buffer → n ≡ 0 → length file ≤ at

-- The most bytes that a file may have.
abbrev pub file_bound : ℕ
file_bound = bound_of limit.File

-- A file that is one byte or more too long.
abbrev pub file_limit : LimitFault
file_limit = record { which = limit.File; count = file_bound + 1; bound = file_bound }

-- These bytes were read: they are at most the bound, and those that the shelf tells.
abbrev pub IsRead : Bytes → Held → Bytes → Type 0
IsRead name held bytes = (length bytes ≤ file_bound) × IfSome (held.told name) (λ told. bytes ≡ told)

-- The file was not read: its count rose, it is too long, or memory ran out.
abbrev pub NotRead : File → Bytes → Held → Held → ReadAnswer → Type 0
NotRead file name old new Fault = Rose (old.faults file name) (new.faults file name)
NotRead file name old new (TooLong fault) =
    (fault ≡ file_limit) × IfSome (old.told name) (λ bytes. file_bound < length bytes)
NotRead file name old new OutOfMemory = Unit {0}
