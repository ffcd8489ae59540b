use Rattle.std.proofs.Common.{◌≡◌, ◌||◌, drop, map}
use Rattle.syn_base.specs.Bytes.{Bytes}
use Rattle.algo_rules.specs.Among.{is_among}
use Rattle.text_lint.proofs.named.table_of.Given as goal

-- a name is in the table, or among those that are left, exactly where it is among all
abbrev pub invariant-loop-name : goal.invariant-loop-name
invariant-loop-name l = (w : Bytes) →
    (is_among w l.table || is_among w (map (λ v. v.now) (drop l.name-index l.named))) ≡ is_among w (map (λ v. v.now) l.named)
