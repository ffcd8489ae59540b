use Rattle.std.proofs.Common.{◌≡◌, ◌++◌, drop, map}
use Rattle.self_timed.specs.Acts.{carry, is_over}
use Rattle.chart_picture.specs.Bars.{bars_text}
use Rattle.chart_picture.proofs.picture.append_carries.Given as goal

-- what is there, with the bars of the transfers that are left, is the whole
abbrev pub invariant-loop-transfer : goal.invariant-loop-transfer
invariant-loop-transfer l =
    l.out.items ++ bars_text l.sheet.flat.now l.sheet.archi.now l.sheet.scale (is_over l.medium) (map carry (drop l.transfer-index l.transfers))
    ≡ l.fn.out.items ++ bars_text l.sheet.flat.now l.sheet.archi.now l.sheet.scale (is_over l.medium) (map carry l.transfers)
