use Rattle.std.proofs.Common.{◌≡◌, ◌++◌, ◌-◌, ◌≤◌, drop, length, map}
use Rattle.body_text.specs.Tokens.{tokens_from, placed}
use Rattle.body_text.specs.Cut.{placed_view}
use Rattle.body_text.proofs.token.tokens.Given as goal

abbrev pub invariant-loop-span : goal.invariant-loop-span
invariant-loop-span l = record {
  inside : l.at ≤ length l.text;
  read : map placed_view l.tokens.items ++ tokens_from l.at 0 (drop l.at l.text) ≡ placed l.text;
}

abbrev pub decreases-loop-span : goal.decreases-loop-span
decreases-loop-span l = length l.text - l.at
