-- What contracts see of what was read.
use Rattle.std.specs.Prelude.{map}
use Rattle.macro_code.specs.ReadText.{Reading}
use Rattle.code_reader.specs.declared.reader.Reader.{Reader}
use Rattle.code_reader.specs.Views.{code_of}
use Rattle.code_lines.specs.Views.{instr_of}

abbrev pub reading : Reader → Reading
reading r = record {
  stage = r.stage;
  operator = r.operator;
  pairs = r.pairs.items;
  owners = r.owners.items;
  buffers = r.buffers.items;
  sizes = r.sizes.items;
  seqs = map code_of r.seqs.items;
  pairs_here = r.pairs_here;
  buffers_here = r.buffers_here;
  media = r.media.items;
  spawned = r.spawned.items;
  awaited = r.awaited.items;
  threads = map code_of r.threads.items;
  medium = r.medium;
  prologue = map instr_of r.prologue.items;
  turn = map instr_of r.turn.items;
}
