-- A macro is found where its name stands in the table.
use Rattle.std.proofs.Common.{◌∙◌, sym}
use Rattle.macro_code.specs.Forms.{macros, macro_of}
use Rattle.code_reader.proofs.Found.{found_at, not_found}
use Rattle.code_reader.proofs.macros.find_any.Goals as goal

pub returns-in-Some : goal.returns-in-Some
unfolding macro_of
returns-in-Some c = c.macro_at.ensures ∙ found_at macros c.args.name.now c.macro_table.result c.in-Some.place c.macro_table.ensures c.in-Some.ensures

pub returns-in-None : goal.returns-in-None
unfolding macro_of
returns-in-None c = sym (not_found macros c.args.name.now c.macro_table.result c.macro_table.ensures c.in-None.ensures)
