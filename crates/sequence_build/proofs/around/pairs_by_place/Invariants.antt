use Rattle.std.proofs.Common.{◌≡◌, ℕ, ◌<◌, ◌++◌, drop, vec_len}
use Rattle.sequence_build_laws.specs.Serial.{numbers_where}
use Rattle.sequence_build.specs.Around.{is_then, list_at}
use Rattle.sequence_build.proofs.around.pairs_by_place.Given as goal

-- what is left makes the whole
abbrev pub invariant-loop-pair_number : goal.invariant-loop-pair_number
invariant-loop-pair_number l = record {
  many : vec_len l.lists ≡ l.count;
  left : (a : ℕ) → a < l.count → list_at l.lists.items a
      ++ numbers_where (is_then l.moment l.sequence a) l.pair_number (drop l.pair_number l.pairs) ≡ numbers_where (is_then l.moment l.sequence a) 0 l.pairs;
}
