use Rattle.std.proofs.Common.{◌≡◌, ℕ, suc, ◌+◌, ◌-◌, ◌<◌, List, ap, arith, length, sym, ◌∙◌}
use Rattle.std.specs.Prelude.{slice_index_or}
use Rattle.pressure_heuristic.specs.Tails.{tails_in}
use Rattle.pressure_heuristic.proofs.Rounds.{settled, so_far_same}
use Rattle.pressure_heuristic.proofs.tails.all_rounds.Goals as goal

pub returns-then-are_same-clause-tails : goal.returns-then-are_same-clause-tails
returns-then-are_same-clause-tails c = λ v l.
    let vs = c.args.vertices.now in
    let d = c.args.durations.now in
    let n = length c.args.vertices.now in
    let k = c.loop-round.round in
    let test = c.loop-round-test.true in
    let same = sym c.deref-in-loop-round.ensures.value ∙ c.are_same.ensures c.if-are_same.true ∙ c.deref-in-loop-round-2.ensures.value in
    let stays : (w : ℕ) → w < length c.args.vertices.now → tails_in c.args.vertices.now c.args.durations.now c.loop-round.round w
    ≡ tails_in c.args.vertices.now c.args.durations.now (suc c.loop-round.round) w
    = λ w q. sym (c.loop-round.invariant.past w q) ∙ ap (λ (xs : List ℕ). slice_index_or xs w 0) same ∙ c.in_ok-next.ensures.next w q
    ∙ so_far_same vs d (λ s. slice_index_or c.deref.result.now s 0) (tails_in vs d k) n w
    (λ s p. ap (λ (xs : List ℕ). slice_index_or xs s 0) c.deref.ensures.value ∙ c.loop-round.invariant.past s p) in
    let e : n - k + k ≡ n = omega arith in
    c.loop-round.invariant.past v l ∙ sym (settled vs d k stays (n - k) v l) ∙ ap (λ m. tails_in vs d m v) e

pub loop-round-preserved : goal.loop-round-preserved
loop-round-preserved c =
    let vs = c.args.vertices.now in
    let d = c.args.durations.now in
    let n = length c.args.vertices.now in
    let k = c.loop-round.round in
    record {
      size = c.in_ok-next.ensures.size;
      low = c.in_ok-next.ensures.low;
      past = λ v l.
          let e : suc k ≡ k + 1 = omega arith in
          c.in_ok-next.ensures.next v l
          ∙ so_far_same vs d (λ s. slice_index_or c.deref.result.now s 0) (tails_in vs d k) n v
          (λ s p. ap (λ (xs : List ℕ). slice_index_or xs s 0) c.deref.ensures.value ∙ c.loop-round.invariant.past s p)
          ∙ ap (λ m. tails_in vs d m v) e;
    }
