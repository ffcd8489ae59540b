use Rattle.case_table.proofs.Places.{pushed_table}
use Rattle.case_table.proofs.table.CaseTable.add.Goals as goal

pub invariant_of-self : goal.invariant_of-self
invariant_of-self g c =
    pushed_table (λ name. name.now) c.self.inside.names.items c.push.new.self.items c.args.name c.args.self.now g.row.N
    c.push.ensures.items c.self.view_is c.requires.room c.self.invariant.1 c.requires.other
