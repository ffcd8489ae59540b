use Rattle.std.proofs.Common.{◌≡◌, ◌-◌, ◌++◌}
use Rattle.std.specs.List.{flat_map, range_with_len}
use Rattle.svg_text.specs.Plot.{element_text}
use Rattle.svg_text.proofs.plot.append_elements.Given as goal

-- what is there, with the elements that are left, is the whole
abbrev pub invariant-loop-place : goal.invariant-loop-place
invariant-loop-place l =
    l.out.items ++ flat_map (element_text l.panel.scale l.panel.range l.panel.name.now l.panel.number l.panel.rows.now.reactions) (range_with_len l.place (l.count - l.place))
    ≡ l.fn.out.items ++ flat_map (element_text l.panel.scale l.panel.range l.panel.name.now l.panel.number l.panel.rows.now.reactions) (range_with_len 0 l.count)
