use Rattle.std.proofs.Common.{◌≡◌, ◌++◌, drop, map}
use Rattle.archi_reader.specs.Canonical.{text_of, medium_words}
use Rattle.archi_reader.proofs.print.print_media.Given as goal

-- what is left completes the text
abbrev pub invariant-loop-medium : goal.invariant-loop-medium
invariant-loop-medium l = l.text.items ++ text_of (map medium_words (drop l.medium-index l.media)) ≡ l.fn.text.items ++ text_of (map medium_words l.media)
