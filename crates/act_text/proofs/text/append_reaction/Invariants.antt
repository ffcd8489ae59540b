use Rattle.std.proofs.Common.{◌≡◌, ◌++◌, drop, map, get_or, []}
use Rattle.act_text.specs.Text.{reaction_text}
use Rattle.act_text.proofs.text.append_reaction.Given as goal

-- what is there, with the lines of the actuators that are left, is the whole
abbrev pub invariant-loop-a : goal.invariant-loop-a
invariant-loop-a l = l.text.items ++ reaction_text l.number l.a (map (λ s. s.now) (drop l.a l.names)) (get_or l.rows.reactions l.k [])
    ≡ l.fn.text.items ++ reaction_text l.number 0 (map (λ s. s.now) l.names) (get_or l.rows.reactions l.k [])
