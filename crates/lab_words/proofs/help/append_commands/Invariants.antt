use Rattle.std.proofs.Common.{◌≡◌, ◌++◌, drop, map}
use Rattle.lab_words.specs.Help.{commands_text}
use Rattle.lab_words.proofs.help.append_commands.Given as goal

-- what is there, with the commands that are left, is the whole
abbrev pub invariant-loop-row : goal.invariant-loop-row
invariant-loop-row l =
    l.text.items ++ commands_text (map (λ r. (r.0.now, r.2.now, r.3.now)) (drop l.row-index l.rows))
    ≡ l.fn.text.items ++ commands_text (map (λ r. (r.0.now, r.2.now, r.3.now)) l.rows)
