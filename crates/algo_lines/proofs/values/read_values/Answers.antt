use Rattle.std.proofs.Common.{◌≤◌, length, arith}
use Rattle.algo_lines.proofs.Numbers.{all_read}
use Rattle.algo_lines.proofs.values.read_values.Goals as goal

pub returns : goal.returns
returns c = let past : length c.args.words.now ≤ c.loop-at.at = omega arith in all_read _ _ _ _ _ past c.loop-at.invariant.read
