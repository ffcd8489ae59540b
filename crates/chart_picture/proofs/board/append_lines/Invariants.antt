use Rattle.std.proofs.Common.{◌≡◌, ◌-◌, ◌++◌}
use Rattle.std.specs.List.{flat_map, range_with_len}
use Rattle.chart_picture.specs.DatesPicture.{repeat_text}
use Rattle.chart_picture.proofs.board.append_lines.Given as goal

-- what is there, with the lines that are left, is the whole
abbrev pub invariant-loop-k : goal.invariant-loop-k
invariant-loop-k l =
    l.out.items ++ flat_map (repeat_text l.scale l.height l.ticks) (range_with_len l.k (l.reactions - l.k))
    ≡ l.fn.out.items ++ flat_map (repeat_text l.scale l.height l.ticks) (range_with_len 0 l.reactions)
