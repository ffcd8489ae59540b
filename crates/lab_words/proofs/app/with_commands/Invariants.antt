use Rattle.std.proofs.Common.{◌≡◌, drop, map}
use Rattle.clap.specs.Simple.{app_of}
use Rattle.lab_words.specs.App.{bare_app, with_commands}
use Rattle.lab_words.proofs.app.with_commands.Given as goal

-- what there is, with the commands that are left, is the whole
abbrev pub invariant-loop-row : goal.invariant-loop-row
invariant-loop-row l = with_commands (app_of l.app) (map (λ r. (r.0.now, r.1)) (drop l.row-index l.rows))
    ≡ with_commands bare_app (map (λ r. (r.0.now, r.1)) l.rows)
