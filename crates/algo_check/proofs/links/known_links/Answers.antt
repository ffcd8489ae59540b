use Rattle.algo_check.proofs.Found.{known_told, linked_by}
use Rattle.algo_check.proofs.links.known_links.Goals as goal

pub returns-clause-checks : goal.returns-clause-checks
returns-clause-checks c = known_told _ _ _ c.in_ok-names.ensures c.places_of_all.ensures.checks

pub returns-clause-links : goal.returns-clause-links
returns-clause-links c = linked_by _ _ _ c.in_ok-names.ensures c.places_of_all.ensures.links
