use Rattle.std.proofs.Common.{map, rules}
use Rattle.std.specs.String.{string_bytes}
use Rattle.clap.specs.Simple.{app_of}
use Rattle.command_words.proofs.Values.{texts, ok_gives, err_none}
use Rattle.command_words.proofs.given.given_words.Goals as goal

pub returns-in-Ok : goal.returns-in-Ok
returns-in-Ok c =
    ok_gives (map string_bytes c.args.words.now) (app_of c.in_ok-command.command) c.in_ok-command.ensures
    (texts c.args.words.now) c.in-Ok.matches c.in-Ok.ensures.kinds c.in-Ok.ensures.matches c.given_in.result c.given_in.ensures

pub returns : goal.returns
returns c =
    err_none (map string_bytes c.args.words.now) (app_of c.in_ok-command.command) c.in_ok-command.ensures (texts c.args.words.now) c.in-Err.error c.in-Err.ensures.kinds (search rules)
