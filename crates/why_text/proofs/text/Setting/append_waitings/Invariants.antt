use Rattle.std.proofs.Common.{◌≡◌, ◌++◌, drop}
use Rattle.std.specs.List.{flat_map}
use Rattle.why_text.specs.Text.{waiting_line}
use Rattle.why_text.specs.Views.{setting_of}
use Rattle.why_text.proofs.text.Setting.append_waitings.Given as goal

abbrev pub invariant-loop-waiting : goal.invariant-loop-waiting
invariant-loop-waiting l = l.out.items ++ flat_map (waiting_line (setting_of l.self)) (drop l.waiting-index l.waitings) ≡ l.initial.out.items ++ flat_map (waiting_line (setting_of l.self)) l.waitings
