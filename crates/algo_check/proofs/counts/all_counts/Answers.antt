use Rattle.std.proofs.Common.{◌≡◌, ◌+◌, ◌≤◌, ◌∙◌, sym, subst, ap, List, ℕ, arith}
use Rattle.std.specs.List.{All}
use Rattle.std.proofs.Math.Numerals.{suc-eq-add-one}
use Rattle.algo_check.specs.Counts.{AreCounts, next_from}
use Rattle.algo_check.proofs.Counted.{most_upto, next_round, no_rounds}
use Rattle.algo_check.proofs.counts.all_counts.Goals as goal

pub loop-init : goal.loop-init
loop-init c = subst (λ (ns : List ℕ). AreCounts c.args.defs.now 0 ns) (sym c.in_ok-counts.ensures) (no_rounds c.args.defs.now)

pub next_counts-requires-clause-bounded : goal.next_counts-requires-clause-bounded
next_counts-requires-clause-bounded c =
    subst (λ (ns : List ℕ). All (λ n. n ≤ 12800000000000000) ns) (sym c.deref.ensures.value)
    (λ k d low. omega (arith, c.loop.invariant.bounded k d low, most_upto c.loop.counter c.loop-test.true))

pub loop-preserved : goal.loop-preserved
loop-preserved c =
    let ds = c.args.defs.now in
    let n = c.loop.counter in
    let next = next_from ds c.loop.counts.items 0 ds in
    let is : c.in_ok-counts-2.counts.items ≡ next = c.in_ok-counts-2.ensures ∙ ap (λ (ns : List ℕ). next_from ds ns 0 ds) c.deref.ensures.value in
    subst (λ (ns : List ℕ). AreCounts ds (c.loop.counter + 1) ns) (sym is)
    (subst (λ (k : ℕ). AreCounts ds k next) (suc-eq-add-one n) (next_round ds n c.loop.counts.items c.loop.invariant c.requires.leveled.known c.requires.read))

pub returns : goal.returns
returns c =
    let last : c.loop.counter ≡ 8 = omega arith in
    subst (λ (n : ℕ). AreCounts c.args.defs.now n c.loop.counts.items) last c.loop.invariant
