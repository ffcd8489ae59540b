use Rattle.std.proofs.Common.{sym, subst, ℕ, List, []}
use Rattle.atomic_table.specs.Table.{opening}
use Rattle.word_rule.specs.Rule.{Tells}
use Rattle.word_rule.specs.Views.{first_view}
use Rattle.word_rule.proofs.Opening.{opened}
use Rattle.word_rule.proofs.table.WordTable.open.Goals as goal

pub of_words-requires : goal.of_words-requires
of_words-requires c = let j = c.args.job.now in subst (λ (ws : List ℕ). Tells j (opening ws [] (first_view j))) (sym c.requires.zeros) (opened j c.requires.runs)
