use Rattle.std.proofs.Common.{subst, sym, ap, ◌∙◌, arith, length}
use Rattle.algo_rules.specs.ReferenceLinks.{Links}
use Rattle.algo_rules.specs.Answer.{AreDepths, AreInside}
use Rattle.algo_rules.specs.declared.Depths.{Depths}
use Rattle.algo_check.proofs.Inside.{links_inside, links_count, recursive_inside}
use Rattle.algo_check.proofs.levels.linked_depths.Goals as goal

pub depths_of-requires-clause-links : goal.depths_of-requires-clause-links
depths_of-requires-clause-links c = subst (λ (links : Links). AreInside links) (sym c.requires.links) (links_inside c.args.defs.now c.requires.known)

pub recursive-requires : goal.recursive-requires
recursive-requires c =
    let low = recursive_inside c.args.links.now c.in-Recursive.place (subst (λ (d : Depths). AreDepths c.args.links.now d) c.in-Recursive.is c.in_ok-depths.ensures) in
    let many = ap (λ (links : Links). length links) c.requires.links ∙ links_count c.args.defs.now in
    omega (arith, low, many)
