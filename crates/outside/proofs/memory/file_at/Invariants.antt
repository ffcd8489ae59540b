use Rattle.std.proofs.Common.{◌≡◌, drop}
use Rattle.outside.specs.Bytes.{named}
use Rattle.outside.proofs.memory.file_at.Given as goal

abbrev pub invariant-loop-entry : goal.invariant-loop-entry
invariant-loop-entry l = named (drop l.entry-index l.files) l.name ≡ named l.files l.name
