use Rattle.std.proofs.Common.{◌≡◌, refl}
use Rattle.command_words.specs.declared.table.AlgorithmText.{AlgorithmText}
use Rattle.command_words.specs.declared.table.AlgorithmText.TheVariants.{Listing}
use Rattle.syndex_program.proofs.commands.algorithm_text.Goals as goal

-- so long as there is one text of an algorithm
is_listing : (text : AlgorithmText) → text ≡ Listing
is_listing Listing = refl

pub returns-clause-makes : goal.returns-clause-makes
returns-clause-makes g c = rw (is_listing c.args.text) c.listing_text.ensures.makes
