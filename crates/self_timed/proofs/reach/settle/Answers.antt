use Rattle.std.proofs.Common.{◌≡◌, ℕ, suc, ◌+◌, arith, length, refl, subst}
use Rattle.self_timed.specs.Turns.{AreRight}
use Rattle.self_timed.proofs.Turning.{all_done, settled_is_right}
use Rattle.self_timed.proofs.reach.settle.Goals as goal

pub loop-turn-preserved : goal.loop-turn-preserved
loop-turn-preserved c =
    let k = c.loop-turn._turn in
    let e : suc k ≡ k + 1 = omega arith in
    record {
      size = c.has_changed.ensures.size;
      right = subst (λ (n : ℕ). AreRight c.args.vertices.now c.args.on n c.has_changed.new.table) e (c.has_changed.ensures.right k c.loop-turn.invariant.right);
    }

pub returns-then-not-has_changed : goal.returns-then-not-has_changed
returns-then-not-has_changed c =
    let vs = c.args.vertices.now in
    let v = c.args.on in
    record {
      size = c.has_changed.ensures.size;
      each = λ w l. settled_is_right vs v c.requires.acyclic c.has_changed.new.table (c.if-not-has_changed.ensures.settled refl) (length vs) w (all_done vs v c.requires.acyclic w l);
    }

pub returns : goal.returns
returns c =
    let vs = c.args.vertices.now in
    let v = c.args.on in
    record {
      size = c.loop-turn.invariant.size;
      each = λ w l. subst (λ (n : ℕ). AreRight vs v n c.loop-turn.table)
          (let f : c.loop-turn._turn ≡ length vs = omega arith in f) c.loop-turn.invariant.right w (all_done vs v c.requires.acyclic w l);
    }
