use Rattle.std.proofs.Common.{◌∙◌, ap, sym}
use Rattle.std.specs.Prelude.{option_and_then, option_map}
use Rattle.clap.specs.Matches.{found_of}
use Rattle.clap.specs.Simple.{subcommand_rows_of}
use Rattle.clap.specs.Walk.{rows_of}
use Rattle.command_words.proofs.Values.{name_is}
use Rattle.lab_words.specs.Command.{command_by, command_in}
use Rattle.lab_words.specs.View.{view_of}
use Rattle.lab_words.proofs.Words.{both, neither}
use Rattle.lab_words.proofs.given.found_in.Goals as goal

pub returns-in_err-name : goal.returns-in_err-name
returns-in_err-name c =
    ap (option_map view_of) c.from_residual.ensures
    ∙ sym (ap (option_and_then command_in) (neither (subcommand_rows_of c.args.matches.now) c.in_err-name.ensures.rows))

pub returns : goal.returns
returns c =
    let m = c.args.matches.now in
    let rows = rows_of (found_of c.in_ok-name.inner.now) in
    let is = both (subcommand_rows_of m) c.in_ok-name.name.now rows (c.in_ok-name.ensures.name ∙ name_is m) c.in_ok-name.ensures.rows in
    c.command_by.ensures ∙ ap (command_by c.in_ok-name.name.now) c.values_in-values.ensures ∙ sym (ap (option_and_then command_in) is)
