-- One more place without a number.
use Rattle.std.proofs.Common.{◌≡◌, ℕ, List, Option, None, arith, get_or, subst, sym}
use Rattle.macro_code.proofs.Placing.{empty_more}
use Rattle.macro_code.proofs.places.no_places.Goals as goal

pub loop-preserved : goal.loop-preserved
loop-preserved c = (
  (let one = c.in_ok-push.ensures.len in let so_far = c.loop.invariant.0 in omega arith),
  λ n. subst (λ (l : List (Option ℕ)). get_or l n None ≡ None) (sym c.in_ok-push.ensures.items) (empty_more c.loop.places.items c.loop.invariant.1 n),
)
