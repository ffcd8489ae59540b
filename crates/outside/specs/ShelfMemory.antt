-- Shelves in memory, and what a call does to them.
use Rattle.std.specs.Prelude.{◌==◌, ℕ, List, [], Option, Some, None, if◌then◌else◌, slice_index, slice_set, unwrap_or}
use Rattle.std.specs.List.{list_any}
use Rattle.syn_base.specs.Bytes.{Bytes}
use Rattle.outside.specs.Bytes.{named}
use Rattle.outside.specs.Faults.{raised}
use Rattle.outside.specs.Shelf.{Held}
use Rattle.outside.specs.declared.file.File.{File}
use Rattle.outside.specs.declared.file.File.TheVariants.{Algorithm, Architecture, Sensors, Code, Durations}
use Rattle.outside.specs.declared.memory.ShelfMem.{ShelfMem}
use Rattle.outside.specs.declared.memory.ShelfSure.{ShelfSure}

-- The place of a file's count.
abbrev pub file_number : File → ℕ
file_number Algorithm = 0
file_number Architecture = 1
file_number Sensors = 2
file_number Code = 3
file_number Durations = 4

-- A count for each file, the same under every name.
abbrev pub faults_of : List ℕ → File → Bytes → ℕ
faults_of counts file name = slice_index counts (file_number file)

-- The counts after one more fault of a file.
abbrev pub raised_at : List ℕ → File → List ℕ
raised_at counts file = slice_set counts (file_number file) (raised (slice_index counts (file_number file)))

-- A shelf in memory tells its files.
abbrev pub memory_held : ShelfMem → Held
memory_held shelf = record { told = named shelf.files; faults = faults_of shelf.faults }

-- What the next call reads: nothing where it is to fail, or no file has the name.
abbrev pub read_next : ShelfMem → Bytes → Option Bytes
read_next shelf name =
    if list_any (λ call. call == shelf.calls) shelf.failing then None else named shelf.files name

-- The shelf after a call that read.
abbrev pub after_read : ShelfMem → ShelfMem
after_read shelf = record shelf { calls = raised shelf.calls }

-- The shelf after a call that failed.
abbrev pub after_fault : ShelfMem → File → ShelfMem
after_fault shelf file = record shelf { calls = raised shelf.calls; faults = raised_at shelf.faults file }

-- What a sure shelf holds under a name: an empty file where it was given none.
abbrev pub sure_bytes : ShelfSure → Bytes → Bytes
sure_bytes shelf name = unwrap_or (named shelf.files name) []

-- A sure shelf tells a file under each name, and never counts a fault.
abbrev pub sure_held : ShelfSure → Held
sure_held shelf = record { told = λ name. Some (sure_bytes shelf name); faults = λ file name. 0 }
