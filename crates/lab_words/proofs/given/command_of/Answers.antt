use Rattle.std.proofs.Common.{map, rules}
use Rattle.std.specs.Prelude.{option_map}
use Rattle.std.specs.String.{string_bytes}
use Rattle.clap.specs.Simple.{app_of}
use Rattle.lab_words.specs.View.{view_of}
use Rattle.lab_words.proofs.Words.{found, refused}
use Rattle.lab_words.proofs.given.command_of.Goals as goal

pub returns-in-Ok : goal.returns-in-Ok
returns-in-Ok c =
    found (map string_bytes c.args.words.now)
    (app_of c.in_ok-command.command) c.in_ok-command.ensures c.in-Ok.matches c.in-Ok.ensures.kinds c.in-Ok.ensures.matches
    (option_map view_of c.found_in.result) c.found_in.ensures

pub returns : goal.returns
returns c =
    refused (map string_bytes c.args.words.now) (app_of c.in_ok-command.command) c.in_ok-command.ensures c.in-Err.error c.in-Err.ensures.kinds (search rules)
