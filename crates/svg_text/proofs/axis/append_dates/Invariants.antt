use Rattle.std.proofs.Common.{◌≡◌, ◌++◌, ◌-◌}
use Rattle.std.specs.List.{flat_map, range_with_len}
use Rattle.svg_text.specs.Scale.{steps_of}
use Rattle.svg_text.specs.Axis.{tick_text}
use Rattle.svg_text.proofs.axis.append_dates.Given as goal

-- what is there, with the dates that are left, is the whole
abbrev pub invariant-loop-k : goal.invariant-loop-k
invariant-loop-k l =
    l.out.items ++ flat_map (tick_text l.scale l.height) (range_with_len l.k (steps_of l.scale - l.k))
    ≡ l.fn.out.items ++ flat_map (tick_text l.scale l.height) (range_with_len 0 (steps_of l.scale))
