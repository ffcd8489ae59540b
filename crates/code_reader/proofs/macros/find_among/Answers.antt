-- A macro that has the name is the one of the name.
use Rattle.std.proofs.Common.{sym}
use Rattle.code_reader.proofs.Found.{found_by_name}
use Rattle.code_reader.proofs.macros.find_among.Goals as goal

pub returns-then-is_name_of : goal.returns-then-is_name_of
returns-then-is_name_of c = found_by_name _ c.args.name.now (sym c.if-is_name_of.ensures)
