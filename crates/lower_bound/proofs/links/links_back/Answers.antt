use Rattle.std.proofs.Common.{◌≡◌, ◌<◌, ℕ, List, ap, arith, length, ◌∙◌}
use Rattle.self_timed.specs.Table.{entry_in}
use Rattle.lower_bound.specs.Turns.{at}
use Rattle.lower_bound.proofs.Least.{some_entry}
use Rattle.lower_bound.proofs.Plain.{plain_chain}
use Rattle.lower_bound.proofs.links.links_back.Goals as goal

pub follow_back-requires-clause-chains : goal.follow_back-requires-clause-chains
follow_back-requires-clause-chains c = λ v l. (let d = c.args.durations.now in
    let vs = c.args.vertices.now in
    ap (λ (xs : List ℕ). at xs v) c.deref.ensures.value
    ∙ c.in_ok-ends.ensures.chains v l
    ∙ plain_chain d.operators (entry_in d) vs (λ u m. some_entry d c.operations-operations.ensures.valid u (let r = c.requires.rows in omega arith)) (length vs) v)
