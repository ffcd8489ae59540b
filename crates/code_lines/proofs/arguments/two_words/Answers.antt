use Rattle.std.proofs.Common.{List, Some, ap}
use Rattle.syn_base.specs.Bytes.{Bytes}
use Rattle.macro_code.specs.ReadText.{two_of}
use Rattle.code_lines.proofs.Lists.{at_most_one, more_than_two, two_words}
use Rattle.code_lines.proofs.arguments.two_words.Goals as goal

pub returns-in_default : goal.returns-in_default
returns-in_default c = at_most_one c.args.list.now c.in_default.ensures

pub returns-in-None : goal.returns-in-None
returns-in-None c = ap (λ (ws : List Bytes). two_of (Some ws)) (two_words c.args.list.now _ _ c.in-Some.ensures c.in-None.ensures)

pub returns-in-Some-cut_at : goal.returns-in-Some-cut_at
returns-in-Some-cut_at c = more_than_two c.args.list.now _ _ _ _ c.in-Some.ensures c.in-Some-cut_at.ensures
