use Rattle.std.proofs.Common.{◌≡◌, ◌++◌, drop, map}
use Rattle.timing_chart.specs.Chart.{text_of}
use Rattle.report_text.specs.Text.{chain_line}
use Rattle.report_text.proofs.bound.append_chain.Given as goal

-- what is there, with the lines of the chain that are left, is the whole
abbrev pub invariant-loop-link : goal.invariant-loop-link
invariant-loop-link l =
    l.out.items ++ text_of (map (chain_line l.vertices) (drop l.link-index l.chain))
    ≡ l.fn.out.items ++ text_of (map (chain_line l.vertices) l.chain)
