-- What contracts see of what was seen of a text, and of what a text of reasons is written for.
use Rattle.std.specs.Prelude.{map}
use Rattle.why_text.specs.declared.lines.Seen as declared_seen
use Rattle.why_text.specs.declared.text.Setting as declared_setting
use Rattle.why_text.specs.Lines.{Seen}
use Rattle.why_text.specs.Text.{Setting}

abbrev pub view : declared_seen.Seen → Seen
view w = record {
  in_loop = w.in_loop;
  here = record { begin = w.begin; prologue = w.prologue.items; turn = w.turn.items };
  threads = w.threads.items;
  done = w.done.items;
}

abbrev pub setting_of : declared_setting.Setting → Setting
setting_of x = record {
  names = record { vertices = x.vertices.now; operators = x.operators.now; media = x.media.now };
  found = map (λ q. q.seq) x.program.now.seqs;
  expected = x.expected.now;
  lines = x.lines.now;
}
