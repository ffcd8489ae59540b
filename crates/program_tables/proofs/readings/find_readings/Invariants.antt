use Rattle.std.proofs.Common.{◌≡◌, map}
use Rattle.executive_program.specs.Blocks.{blocks}
use Rattle.executive_program.specs.Instructions.{readers_from}
use Rattle.program_tables.specs.Readings.{reading_of}
use Rattle.program_tables.proofs.readings.find_readings.Given as goal

abbrev pub invariant-loop-buffer : goal.invariant-loop-buffer
invariant-loop-buffer l = l.list.items ≡ map reading_of (blocks (readers_from 0 l.program.seqs) l.buffer)
