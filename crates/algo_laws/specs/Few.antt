-- Accepted texts have few definitions.
use Rattle.std.specs.Prelude.{◌≡◌, ◌≤◌, Ok, length}
use Rattle.text_lines.specs.Text.{lines_of}
use Rattle.syn_base.specs.Bytes.{Bytes}
use Rattle.algo_rules.specs.declared.Defs.{Defs}
use Rattle.algo_rules.specs.Text.{definitions_of}

-- Every text that is accepted has at most one definition for each line.
abbrev pub AcceptedAreFew : Type 0
AcceptedAreFew = (text : Bytes) (ds : Defs) → definitions_of text ≡ Ok ds → length ds.defs ≤ length (lines_of text)
