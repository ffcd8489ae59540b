use Rattle.std.proofs.Common.{rules}
use Rattle.program_tables.proofs.Rowing.{put}
use Rattle.program_tables.proofs.mark_table.add.Goals as goal

pub returns-in_ok-push : goal.returns-in_ok-push
returns-in_ok-push c = put (λ v. v.items) c.args.rows.now.items c.args.mark c.index_mut.result.now c.push.new.self (search rules) c.index_mut.ensures.value c.in_ok-push.ensures.items
