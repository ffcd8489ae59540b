use Rattle.std.proofs.Common.{◌≡◌, ◌++◌, drop, map}
use Rattle.archi_reader.specs.Canonical.{text_of, duration_words}
use Rattle.archi_reader.proofs.print.print_durations.Given as goal

-- what is left completes the text
abbrev pub invariant-loop-duration : goal.invariant-loop-duration
invariant-loop-duration l = l.text.items ++ text_of (map (duration_words l.operators) (drop l.duration-index l.durations)) ≡ l.fn.text.items ++ text_of (map (duration_words l.operators) l.durations)
