use Rattle.std.proofs.Common.{◌≡◌, ◌++◌, drop}
use Rattle.std.specs.List.{flat_map}
use Rattle.text_lint.specs.Printed.{finding_line}
use Rattle.text_lint.proofs.print.append_lines.Given as goal

-- what is there, with the lines of the findings that are left, is the whole
abbrev pub invariant-loop-finding : goal.invariant-loop-finding
invariant-loop-finding l = l.out.items ++ flat_map finding_line (drop l.finding-index l.findings) ≡ l.fn.out.items ++ flat_map finding_line l.findings
