use Rattle.std.proofs.Common.{subst}
use Rattle.word_rule.specs.Given.{IsThere}
use Rattle.word_table.proofs.fabric_parts.FabricParts.word_of.Goals as goal

pub element_word-requires-clause-here : goal.element_word-requires-clause-here
element_word-requires-clause-here c = subst (IsThere c.args.self.now.job.now) c.in-Load.is c.requires.there
