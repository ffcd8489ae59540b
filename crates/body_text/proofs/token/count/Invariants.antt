use Rattle.std.proofs.Common.{◌≡◌, ◌+◌, ◌-◌, ◌≤◌, drop, length}
use Rattle.body_text.specs.Tokens.{tokens_from, placed}
use Rattle.body_text.proofs.token.count.Given as goal

abbrev pub invariant-loop-span : goal.invariant-loop-span
invariant-loop-span l = record {
  inside : l.at ≤ length l.text;
  few : l.count ≤ l.at;
  counted : l.count + length (tokens_from l.at 0 (drop l.at l.text)) ≡ length (placed l.text);
}

abbrev pub decreases-loop-span : goal.decreases-loop-span
decreases-loop-span l = length l.text - l.at
