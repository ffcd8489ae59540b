use Rattle.std.proofs.Common.{List, Some, ap, sym}
use Rattle.syn_base.specs.Bytes.{Bytes}
use Rattle.macro_code.specs.ReadText.{one_of}
use Rattle.code_lines.proofs.Lists.{more_than_one, one_word}
use Rattle.code_lines.proofs.arguments.one_word.Goals as goal

pub returns-in-None : goal.returns-in-None
returns-in-None c = ap (λ (ws : List Bytes). one_of (Some ws)) (one_word c.args.list.now (sym c.if-is_empty.ensures) c.in-None.ensures)

pub returns-in-Some : goal.returns-in-Some
returns-in-Some c = more_than_one c.args.list.now _ _ c.in-Some.ensures
