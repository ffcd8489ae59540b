use Rattle.std.proofs.Common.{◌≡◌, ◌+◌, ◌*◌, ◌-◌, min, add-one, arith, ap, ◌∙◌, get_or}
use Rattle.syn_base.specs.Integer.{too_large}
use Rattle.syn_base.proofs.Digits.{reads_on, still_digits}
use Rattle.syn_base.proofs.integer.magnitude.Goals as goal

pub loop-byte-preserved : goal.loop-byte-preserved
loop-byte-preserved c =
    let is : c.with_digit-number.result ≡ min (10 * c.loop-byte.number + (get_or c.args.digits.now c.loop-byte.byte-index 0 - 48)) too_large =
    c.with_digit-number.ensures ∙ ap (λ d. min (10 * c.loop-byte.number + d) too_large) c.from.ensures in
    record {
      so_far = rw add-one (reads_on c.loop-byte.number c.loop-byte.byte-index c.with_digit-number.result c.args.digits.now c.loop-byte-test.true is ∙ c.loop-byte.invariant.so_far);
      small = omega arith;
      digits = rw add-one (still_digits c.loop-byte.byte-index c.args.digits.now c.loop-byte-test.true c.loop-byte.invariant.digits);
    }
