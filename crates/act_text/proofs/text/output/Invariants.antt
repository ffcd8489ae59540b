use Rattle.std.proofs.Common.{◌≡◌, ◌+◌, ◌++◌, drop, map}
use Rattle.act_text.specs.Text.{text_from}
use Rattle.act_text.proofs.text.output.Given as goal

-- what is there, with the text of the reactions that are left, is the whole
abbrev pub invariant-loop-k : goal.invariant-loop-k
invariant-loop-k l = l.text.items ++ text_from (l.first + l.k) (map (λ s. s.now) l.names) (drop l.k l.rows.reactions)
    ≡ text_from l.first (map (λ s. s.now) l.names) l.rows.reactions
