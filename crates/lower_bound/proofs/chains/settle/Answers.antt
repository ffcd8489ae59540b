use Rattle.std.proofs.Common.{◌≡◌, ℕ, suc, ◌+◌, arith, length, refl, subst}
use Rattle.self_timed.specs.Table.{entry_in}
use Rattle.lower_bound.specs.Turns.{AreChains}
use Rattle.lower_bound.proofs.Least.{entry_low}
use Rattle.lower_bound.proofs.Done.{all_done}
use Rattle.lower_bound.proofs.Renewed.{settled_are_chains}
use Rattle.lower_bound.proofs.chains.settle.Goals as goal

pub loop-turn-preserved : goal.loop-turn-preserved
loop-turn-preserved c =
    let d = c.args.durations.now in
    let k = c.loop-turn._turn in
    let e : suc k ≡ k + 1 = omega arith in
    record {
      size = c.has_changed.ensures.size;
      low = c.has_changed.ensures.low;
      chains = subst (λ (n : ℕ). AreChains d.operators (entry_in d) c.args.vertices.now c.args.media.now n c.has_changed.new.ends) e (c.has_changed.ensures.chains k c.loop-turn.invariant.chains);
    }

pub returns-then-not-has_changed-clause-chains : goal.returns-then-not-has_changed-clause-chains
returns-then-not-has_changed-clause-chains c = λ v l. (let d = c.args.durations.now in
    let vs = c.args.vertices.now in
    let ms = c.args.media.now in
    settled_are_chains d.operators (entry_in d) vs ms c.requires.acyclic c.requires.few
    (entry_low d c.operations-operations.ensures.valid) c.requires.short c.has_changed.new.ends (c.if-not-has_changed.ensures.settled refl) (length vs) v
    (all_done vs c.requires.acyclic v l))

pub returns-clause-chains : goal.returns-clause-chains
returns-clause-chains c = λ v l. (let d = c.args.durations.now in
    let vs = c.args.vertices.now in
    let ms = c.args.media.now in
    subst (λ (n : ℕ). AreChains d.operators (entry_in d) vs ms n c.loop-turn.ends) (let f : c.loop-turn._turn ≡ length vs = omega arith in f) c.loop-turn.invariant.chains v
    (all_done vs c.requires.acyclic v l))
