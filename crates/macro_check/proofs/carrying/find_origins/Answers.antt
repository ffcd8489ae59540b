use Rattle.std.proofs.Common.{sym, ◌∙◌}
use Rattle.program_tables.proofs.Crossed.{one_more}
use Rattle.macro_check.specs.Carrying.{follow}
use Rattle.macro_check.proofs.Follows.{follow_one}
use Rattle.macro_check.proofs.carrying.find_origins.Goals as goal

pub loop-buffer-preserved : goal.loop-buffer-preserved
loop-buffer-preserved c = one_more
    (follow c.args.program.now 1) c.loop-buffer.buffer c.loop-buffer.all.items c.push.new.self.items c.origin.result
    c.in_ok-push.ensures.items c.loop-buffer.invariant (c.origin.ensures ∙ sym (follow_one c.args.program.now c.loop-buffer.buffer))
