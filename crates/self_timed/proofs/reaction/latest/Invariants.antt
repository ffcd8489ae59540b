use Rattle.std.proofs.Common.{◌≡◌, drop, max}
use Rattle.self_timed.specs.Running.{latest_in}
use Rattle.self_timed.proofs.reaction.latest.Given as goal

-- what is left of the entries completes the greatest end
abbrev pub invariant-loop-entry : goal.invariant-loop-entry
invariant-loop-entry l = max l.latest (latest_in l.row (drop l.entry-index l.entries)) ≡ latest_in l.row l.entries
